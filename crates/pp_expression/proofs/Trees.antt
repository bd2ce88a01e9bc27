-- What stands at the front of a line, and trees read one operator further.
use Rattle.std.proofs.Common.{◌≡◌, ℕ, ◌+◌, ◌≤◌, false, List, [], ◌∷◌, ◌++◌, drop, Option, Some, None, Ok, ℤ, refl, ap, ◌∙◌, arith, append_assoc}
use Rattle.pp_lexer.specs.declared.token.Punct.{Punct}
use Rattle.pp_lexer.specs.declared.token.Punct.TheVariants as mark
use Rattle.pp_expression.specs.declared.symbol.Symbol.{Symbol}
use Rattle.pp_expression.specs.declared.symbol.Symbol.TheVariants as symbol
use Rattle.pp_expression.specs.declared.operator.Unary.{Unary}
use Rattle.pp_expression.specs.declared.operator.Binary.{Binary}
use Rattle.pp_expression.specs.declared.operator.Binary.TheVariants as binary
use Rattle.pp_expression.specs.declared.symbol.ExpressionFault.{ExpressionFault}
use Rattle.pp_expression.specs.Operators.{unary_of, binary_of, level_of, unary_punct, binary_punct}
use Rattle.pp_expression.specs.Arithmetic.{unary_value, binary_value, literal}
use Rattle.pp_expression.specs.Trees.{Tree, Number, Group, Prefix, Infix, spelling, Fits, value}
use Rattle.pp_expression.specs.Answers.{◌>>=◌}
use Rattle.pp_expression.specs.Lines.{Line, Begins, next, next_of, goes_on, Stops, Reads}
use Rattle.pp_expression.specs.inner.Lines.{binds_from}
use Rattle.pp_expression.specs.FirstFault.{sign_of}
use Rattle.pp_expression.specs.inner.Parsing.{after_next, sign_at}
use Rattle.pp_expression.proofs.Levels.{of_level, operator_of, operator_at}

same_unary : (a o : Unary) → Some a ≡ Some o → unary_punct a ≡ unary_punct o
same_unary a o e = let h : a ≡ o = cc in ap unary_punct h

unary_inverse : (p : Punct) (o : Unary) → unary_of p ≡ Some o → p ≡ unary_punct o
unfolding unary_punct
unary_inverse p o h = grind arith

same_binary : (a o : Binary) → Some a ≡ Some o → binary_punct a ≡ binary_punct o
same_binary a o e = let h : a ≡ o = cc in ap binary_punct h

binary_inverse : (p : Punct) (o : Binary) → binary_of p ≡ Some o → p ≡ binary_punct o
unfolding binary_punct
binary_inverse p o h = grind arith

-- the symbols after their first, x
abbrev pub IsFirstOf : List Symbol → Symbol → Type 0
IsFirstOf symbols x = symbols ≡ x ∷ drop 1 symbols

pub next_is : (symbols : List Symbol) (ending : Option ExpressionFault) (x : Symbol) → next_of symbols ending ≡ Ok (Some x) → IsFirstOf symbols x
next_is symbols ending x h = grind arith

sign_at_front : (symbols : List Symbol) (ending : Option ExpressionFault) (o : Unary)
    → (next_of symbols ending >>= (λ x. Ok (sign_of x))) ≡ Ok (Some o) → IsFirstOf symbols (symbol.Punct (unary_punct o))
sign_at_front (symbol.Punct q ∷ ys) ending o e =
    let some : unary_of q ≡ Some o = cc in
    let same : q ≡ unary_punct o = unary_inverse q o some in
    ap (λ (z : Punct). symbol.Punct z ∷ ys) same
sign_at_front (symbol.Number n ∷ ys) ending o e = cc
sign_at_front (symbol.Fault ∷ ys) ending o e = cc
sign_at_front (symbol.Other ∷ ys) ending o e = cc
sign_at_front [] None o e = cc
sign_at_front [] (Some d) o e = cc

pub sign_is : (line : Line) (o : Unary) → sign_at line ≡ Ok (Some o) → IsFirstOf line.symbols (symbol.Punct (unary_punct o))
sign_is line o e = sign_at_front line.symbols line.ending o e

of_level_is : (level : ℕ) (m : Option Binary) (o : Binary) → of_level level m ≡ Some o → (m ≡ Some o) × (level_of o ≡ level)
of_level_is level (Some a) o e = grind arith
of_level_is level None o e = cc

operator_at_front : (level : ℕ) (symbols : List Symbol) (ending : Option ExpressionFault) (o : Binary)
    → (next_of symbols ending >>= (λ x. Ok (operator_of level x))) ≡ Ok (Some o) → IsFirstOf symbols (symbol.Punct (binary_punct o)) × (level_of o ≡ level)
operator_at_front level (symbol.Punct q ∷ ys) ending o e =
    let some : of_level level (binary_of q) ≡ Some o = cc in
    let is = of_level_is level (binary_of q) o some in
    let same : q ≡ binary_punct o = binary_inverse q o is.0 in
    (ap (λ (z : Punct). symbol.Punct z ∷ ys) same, is.1)
operator_at_front level (symbol.Number n ∷ ys) ending o e = cc
operator_at_front level (symbol.Fault ∷ ys) ending o e = cc
operator_at_front level (symbol.Other ∷ ys) ending o e = cc
operator_at_front level [] None o e = cc
operator_at_front level [] (Some d) o e = cc

pub operator_is : (level : ℕ) (line : Line) (o : Binary) → operator_at level line ≡ Ok (Some o) → IsFirstOf line.symbols (symbol.Punct (binary_punct o))
    × (level_of o ≡ level)
operator_is level line o e = operator_at_front level line.symbols line.ending o e

-- no operator binds as tightly as an operand
loose : (o : Binary) → level_of o ≤ 9
unfolding level_of
loose binary.Multiply = omega arith
loose _ = omega arith

binds_none : (m : Option Binary) → binds_from 10 m ≡ false
binds_none (Some o) = let h = loose o in grind arith
binds_none None = refl

over_operand : (symbols : List Symbol) → goes_on 10 symbols ≡ false
over_operand symbols = grind (arith, binds_none)

pub operand_stops : (line : Line) → Stops 10 line
operand_stops line = record { known = λ h. absurd (omega arith); over = over_operand line.symbols }

pub fits_looser : (level : ℕ) (t : Tree) → Fits (level + 1) t → Fits level t
fits_looser level (Number n) h = tt
fits_looser level (Group t) h = h
fits_looser level (Prefix o t) h = h
fits_looser level (Infix o l r) h = (omega (arith, h.0), h.1, h.2)

-- one more symbol in front
pub begins_next : (x : Symbol) (xs : List Symbol) (old new : Line) → IsFirstOf old.symbols x → Begins (after_next old) xs new → Begins old (x ∷ xs) new
begins_next x xs old new first b = record { symbols = first ∙ ap (λ (ys : List Symbol). x ∷ ys) b.symbols; ending = b.ending }

-- what comes first, and then the rest
pub begins_then : (xs ys : List Symbol) (old mid new : Line) → Begins old xs mid → Begins mid ys new → Begins old (xs ++ ys) new
begins_then xs ys old mid new a b = grind (arith, append_assoc)

pub read_number : (old : Line) (n : ℕ) → next old ≡ Ok (Some (symbol.Number n)) → Reads 10 10 old (after_next old) (literal n)
read_number old n e = record {
  tree = Number n;
  begins = record { symbols = next_is old.symbols old.ending (symbol.Number n) e; ending = refl };
  fits = tt;
  valued = refl;
  stops = operand_stops (after_next old);
}

pub read_group : (old mid : Line) (v : ℤ) → next old ≡ Ok (Some (symbol.Punct mark.LeftParen)) → Reads 0 0 (after_next old) mid v
    → next mid ≡ Ok (Some (symbol.Punct mark.RightParen)) → Reads 10 10 old (after_next mid) v
read_group old mid v opens r close =
    let first = next_is old.symbols old.ending (symbol.Punct mark.LeftParen) opens in
    let last : Begins mid (symbol.Punct mark.RightParen ∷ []) (after_next mid) =
    record { symbols = next_is mid.symbols mid.ending (symbol.Punct mark.RightParen) close; ending = refl } in
    record {
      tree = Group r.tree;
      begins = begins_next (symbol.Punct mark.LeftParen) (spelling r.tree ++ (symbol.Punct mark.RightParen ∷ [])) old (after_next mid) first
          (begins_then (spelling r.tree) (symbol.Punct mark.RightParen ∷ []) (after_next old) mid (after_next mid) r.begins last);
      fits = r.fits;
      valued = r.valued;
      stops = operand_stops (after_next mid);
    }

pub read_signed : (o : Unary) (old new : Line) (x v : ℤ) → sign_at old ≡ Ok (Some o) → Reads 10 10 (after_next old) new x → unary_value o x ≡ Ok v
    → Reads 10 10 old new v
read_signed o old new x v sign r e =
    record {
      tree = Prefix o r.tree;
      begins = begins_next (symbol.Punct (unary_punct o)) (spelling r.tree) old new (sign_is old o sign) r.begins;
      fits = r.fits;
      valued = rw (r.valued) e;
      stops = r.stops;
    }

pub read_looser : (level stop : ℕ) (old new : Line) (v : ℤ) → Reads (level + 1) stop old new v → Reads level stop old new v
read_looser level stop old new v r = grind (arith, fits_looser)

-- the symbols of an operation, from those of its operands
pub operation_begins : (level : ℕ) (o : Binary) (old mid new : Line) (x y : ℤ) → (left : Reads level (level + 1) old mid x)
    → operator_at level mid ≡ Ok (Some o) → (right : Reads (level + 1) (level + 1) (after_next mid) new y)
    → Begins old (spelling (Infix o left.tree right.tree)) new
operation_begins level o old mid new x y left op right =
    begins_then (spelling left.tree) (symbol.Punct (binary_punct o) ∷ spelling right.tree) old mid new left.begins
    (begins_next (symbol.Punct (binary_punct o)) (spelling right.tree) mid new (operator_is level mid o op).0 right.begins)

pub operation_fits : (level : ℕ) (o : Binary) (l r : Tree) → level_of o ≡ level → Fits level l → Fits (level + 1) r → Fits level (Infix o l r)
operation_fits level o l r e fl fr = (omega (arith, e), rw e fl, rw e fr)

pub operation_value : (o : Binary) (l r : Tree) (x y v : ℤ) → value l ≡ Ok x → value r ≡ Ok y → binary_value o x y ≡ Ok v → value (Infix o l r) ≡ Ok v
operation_value o l r x y v el er e = rw el (rw er e)

pub read_operation : (level : ℕ) (o : Binary) (old mid new : Line) (x y v : ℤ) → Reads level (level + 1) old mid x
    → operator_at level mid ≡ Ok (Some o) → Reads (level + 1) (level + 1) (after_next mid) new y → binary_value o x y ≡ Ok v → Reads level (level + 1) old new v
read_operation level o old mid new x y v left op right e =
    record {
      tree = Infix o left.tree right.tree;
      begins = operation_begins level o old mid new x y left op right;
      fits = operation_fits level o left.tree right.tree (operator_is level mid o op).1 left.fits right.fits;
      valued = operation_value o left.tree right.tree x y v left.valued right.valued e;
      stops = right.stops;
    }
