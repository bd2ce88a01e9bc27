-- A fault seen from further out.
use Rattle.std.proofs.Common.{◌≡◌, ℕ, ◌+◌, ◌≤◌, List, ◌∷◌, length, Option, Some, None, Result, Ok, Err, IsOk, ℤ, refl, arith}
use Rattle.pp_lexer.specs.declared.token.Punct.TheVariants as mark
use Rattle.pp_expression.specs.declared.symbol.Symbol.{Symbol}
use Rattle.pp_expression.specs.declared.symbol.Symbol.TheVariants as symbol
use Rattle.pp_expression.specs.declared.operator.Unary.{Unary}
use Rattle.pp_expression.specs.declared.operator.Binary.{Binary}
use Rattle.pp_expression.specs.declared.symbol.ExpressionFault.{ExpressionFault}
use Rattle.pp_expression.specs.Operators.{unary_punct, binary_punct, level_of}
use Rattle.pp_expression.specs.Arithmetic.{unary_value, binary_value}
use Rattle.pp_expression.specs.Trees.{Infix, spelling, value}
use Rattle.pp_expression.specs.Answers.{◌>>=◌}
use Rattle.pp_expression.specs.Lines.{Line, next, next_of, Reads}
use Rattle.pp_expression.specs.FirstFault.{sign_of, atom_of, closing, Front, Here, InGroup, InPrefix, InInfix, front_spelling, FitsFront, wanted, unread_at, Fails, unread, wrong, unread_after, unclosed, signed, operated}
use Rattle.pp_expression.specs.inner.Parsing.{after_next, sign_at, IsAfterValue, IsMet}
use Rattle.pp_expression.proofs.Levels.{operator_at, operator_of}
use Rattle.pp_expression.proofs.Trees.{next_is, sign_is, operator_is, fits_looser, begins_next, begins_then, operation_begins, operation_fits}

-- a fault that is met where the line begins
pub here : (level : ℕ) (line : Line) (left order : ℕ) (e : ExpressionFault) (fails : Fails level line left order e) → IsAfterValue fails
    → IsMet level line left order e
here level line left order e fails valued = record {
  possible = record { front = Here; here = line; begins = record { symbols = refl; ending = refl }; stands = tt; fails = fails };
  front = tt;
  operand = valued;
}

-- ---- what the next symbol is

pub at_group : (x : Option Symbol) → atom_of x ≡ Ok None → x ≡ Some (symbol.Punct mark.LeftParen)
at_group x h = grind arith

pub at_number : (x : Option Symbol) (n : ℕ) → atom_of x ≡ Ok (Some n) → x ≡ Some (symbol.Number n)
at_number x n h = grind arith

pub at_close : (x : Option Symbol) → closing x ≡ Ok tt → x ≡ Some (symbol.Punct mark.RightParen)
at_close x h = grind arith

ok_is : {X : Type 0} (r : Result X ExpressionFault) (x : X) → r ≡ Ok x → IsOk r
ok_is r x e = rw e refl

-- ---- an operand

signs_unread : (symbols : List Symbol) (ending : Option ExpressionFault) (e : ExpressionFault)
    → (next_of symbols ending >>= (λ x. Ok (sign_of x))) ≡ Err e → next_of symbols ending ≡ Err e
signs_unread symbols ending e h = grind arith

pub sign_unread : (level : ℕ) (line : Line) (e : ExpressionFault) → sign_at line ≡ Err e → IsMet level line (length line.symbols) 1 e
sign_unread level line e h = here level line (length line.symbols) 1 e (unread e (signs_unread line.symbols line.ending e h)) tt

sign_at_next : (symbols : List Symbol) (ending : Option ExpressionFault) (x : Option Symbol) → next_of symbols ending ≡ Ok x
    → (next_of symbols ending >>= (λ x. Ok (sign_of x))) ≡ Ok None → sign_of x ≡ None
sign_at_next symbols ending x e h =
    let s : Ok (sign_of x) ≡ Ok None = rw e at h in cc

pub not_begun : (old : Line) (x : Option Symbol) (e : ExpressionFault) → next old ≡ Ok x → sign_at old ≡ Ok None → atom_of x ≡ Err e
    → IsMet 10 old (length old.symbols) 4 e
not_begun old x e h s out = here 10 old (length old.symbols) 4 e (wrong x e h (sign_at_next old.symbols old.ending x h s) out) tt

pub in_group : (old : Line) (left order : ℕ) (e : ExpressionFault) → next old ≡ Ok (Some (symbol.Punct mark.LeftParen))
    → IsMet 0 (after_next old) left order e → IsMet 10 old left order e
in_group old left order e opens h =
    let possible = h.possible in
    record {
      possible = record {
        front = InGroup possible.front;
        here = possible.here;
        begins = begins_next (symbol.Punct mark.LeftParen) (front_spelling possible.front) old possible.here
            (next_is old.symbols old.ending (symbol.Punct mark.LeftParen) opens) possible.begins;
        stands = possible.stands;
        fails = possible.fails;
      };
      front = h.front;
      operand = h.operand;
    }

pub not_closed : (old mid : Line) (v : ℤ) (x : Option Symbol) (e : ExpressionFault) → next old ≡ Ok (Some (symbol.Punct mark.LeftParen))
    → Reads 0 0 (after_next old) mid v → next mid ≡ Ok x → closing x ≡ Err e → IsMet 10 old (length mid.symbols) 4 e
not_closed old mid v x e opens r h not_closing =
    here 10 old (length mid.symbols) 4 e (unclosed r.tree mid x e
    (begins_next (symbol.Punct mark.LeftParen) (spelling r.tree) old mid (next_is old.symbols old.ending (symbol.Punct mark.LeftParen) opens) r.begins)
    r.fits h r.stops.over not_closing) (ok_is (value r.tree) v r.valued)

pub in_sign : (o : Unary) (old : Line) (left order : ℕ) (e : ExpressionFault) → sign_at old ≡ Ok (Some o)
    → IsMet 10 (after_next old) left order e → IsMet 10 old left order e
in_sign o old left order e sign h =
    let possible = h.possible in
    record {
      possible = record {
        front = InPrefix o possible.front;
        here = possible.here;
        begins = begins_next (symbol.Punct (unary_punct o)) (front_spelling possible.front) old possible.here (sign_is old o sign) possible.begins;
        stands = possible.stands;
        fails = possible.fails;
      };
      front = h.front;
      operand = h.operand;
    }

pub sign_fails : (o : Unary) (old new : Line) (x : ℤ) (e : ExpressionFault) → sign_at old ≡ Ok (Some o) → Reads 10 10 (after_next old) new x
    → unary_value o x ≡ Err e → IsMet 10 old (length new.symbols + 1) 2 e
sign_fails o old new x e sign r h =
    here 10 old (length new.symbols + 1) 2 e (signed o r.tree new x e
    (begins_next (symbol.Punct (unary_punct o)) (spelling r.tree) old new (sign_is old o sign) r.begins) r.fits r.valued h) tt

-- ---- from a tighter level to a looser one

fails_looser : (level : ℕ) (line : Line) (left order : ℕ) (e : ExpressionFault) → Fails (level + 1) line left order e → Fails level line left order e
fails_looser level line left order e (unread kind h) = unread kind h
fails_looser level line left order e (wrong x kind h s out) = wrong x kind h s out
fails_looser level line left order e (unread_after t rest kind low begins fits h) =
    unread_after t rest kind (omega arith) begins (fits_looser level t fits) h
fails_looser level line left order e (unclosed t rest x kind begins fits h over out) = unclosed t rest x kind begins fits h over out
fails_looser level line left order e (signed o t rest x kind begins fits is h) = signed o t rest x kind begins fits is h
fails_looser level line left order e (operated o l r rest x y kind begins fits lv rv h stops) =
    operated o l r rest x y kind begins (fits_looser level (Infix o l r) fits) lv rv h stops

valued_looser : (level : ℕ) (line : Line) (left order : ℕ) (e : ExpressionFault) (h : Fails (level + 1) line left order e) → IsAfterValue h
    → IsAfterValue (fails_looser level line left order e h)
unfolding fails_looser
valued_looser level line left order e (unread kind h) valued = tt
valued_looser level line left order e (wrong x kind h s out) valued = tt
valued_looser level line left order e (unread_after t rest kind low begins fits h) valued = valued
valued_looser level line left order e (unclosed t rest x kind begins fits h over out) valued = valued
valued_looser level line left order e (signed o t rest x kind begins fits is h) valued = tt
valued_looser level line left order e (operated o l r rest x y kind begins fits lv rv h stops) valued = tt

front_looser : (level : ℕ) (c : Front) → FitsFront (level + 1) c → FitsFront level c
front_looser level Here h = tt
front_looser level (InGroup c) h = h
front_looser level (InPrefix o c) h = h
front_looser level (InInfix o l c) h = (omega (arith, h.0), h.1, h.2)

wanted_looser : (level : ℕ) (c : Front) (line : Line) (left order : ℕ) (e : ExpressionFault)
    → (h : Fails (wanted (level + 1) c) line left order e) → IsAfterValue h → (k : Fails (wanted level c) line left order e) × IsAfterValue k
wanted_looser level Here line left order e h valued = (fails_looser level line left order e h, valued_looser level line left order e h valued)
wanted_looser level (InGroup c) line left order e h valued = (h, valued)
wanted_looser level (InPrefix o c) line left order e h valued = (h, valued)
wanted_looser level (InInfix o l c) line left order e h valued = (h, valued)

pub looser : (level : ℕ) (old : Line) (left order : ℕ) (e : ExpressionFault) → IsMet (level + 1) old left order e → IsMet level old left order e
looser level old left order e h =
    let possible = h.possible in
    let fails = wanted_looser level possible.front possible.here left order e possible.fails h.operand in
    record {
      possible = record {
        front = possible.front;
        here = possible.here;
        begins = possible.begins;
        stands = front_looser level possible.front possible.stands;
        fails = fails.0;
      };
      front = h.front;
      operand = fails.1;
    }

-- ---- operators between operands

operator_unread : (level : ℕ) (symbols : List Symbol) (ending : Option ExpressionFault) (e : ExpressionFault)
    → (next_of symbols ending >>= (λ x. Ok (operator_of level x))) ≡ Err e → next_of symbols ending ≡ Err e
operator_unread level symbols ending e h = grind arith

pub not_read_after : (level : ℕ) (old mid : Line) (v : ℤ) (e : ExpressionFault) → level ≤ 9 → Reads level (level + 1) old mid v
    → operator_at level mid ≡ Err e → IsMet level old (length mid.symbols) 1 e
not_read_after level old mid v e low r h =
    here level old (length mid.symbols) 1 e (unread_after r.tree mid e low r.begins r.fits (operator_unread level mid.symbols mid.ending e h))
    (ok_is (value r.tree) v r.valued)

pub in_right : (level : ℕ) (o : Binary) (old mid : Line) (x : ℤ) (left order : ℕ) (e : ExpressionFault) → Reads level (level + 1) old mid x
    → operator_at level mid ≡ Ok (Some o) → IsMet (level + 1) (after_next mid) left order e → IsMet level old left order e
in_right level o old mid x left order e former op h =
    let is = operator_is level mid o op in
    let within : IsMet (level_of o + 1) (after_next mid) left order e = rw is.1 h in
    let possible = within.possible in
    record {
      possible = record {
        front = InInfix o former.tree possible.front;
        here = possible.here;
        begins = begins_then (spelling former.tree) (symbol.Punct (binary_punct o) ∷ front_spelling possible.front) old mid possible.here former.begins
            (begins_next (symbol.Punct (binary_punct o)) (front_spelling possible.front) mid possible.here is.0 possible.begins);
        stands = (omega (arith, is.1), rw is.1 former.fits, possible.stands);
        fails = possible.fails;
      };
      front = (ok_is (value former.tree) x former.valued, within.front);
      operand = within.operand;
    }

pub operation_fails : (level : ℕ) (o : Binary) (old mid new : Line) (x y : ℤ) (e : ExpressionFault) → Reads level (level + 1) old mid x
    → operator_at level mid ≡ Ok (Some o) → Reads (level + 1) (level + 1) (after_next mid) new y → binary_value o x y ≡ Err e
    → IsMet level old (unread_at o new) 2 e
operation_fails level o old mid new x y e former op latter h =
    let is = operator_is level mid o op in
    here level old (unread_at o new) 2 e (operated o former.tree latter.tree new x y e
    (operation_begins level o old mid new x y former op latter)
    (operation_fits level o former.tree latter.tree is.1 former.fits latter.fits)
    former.valued latter.valued h (rw is.1 latter.stops)) tt
