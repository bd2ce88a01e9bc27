-- A tree's symbols are read as that tree, and a fault's symbols up to that fault.
use Rattle.std.proofs.Common.{◌≡◌, ℕ, zero, suc, ◌+◌, ◌-◌, ◌≤◌, false, List, [], ◌∷◌, ◌++◌, Option, Some, None, Result, Ok, Err, IsOk, ℤ, refl, ap, arith, append_assoc}
use Rattle.std.proofs.Math.Decide.{dec_lt}
use Rattle.pp_lexer.specs.declared.token.Punct.TheVariants as mark
use Rattle.pp_expression.specs.declared.symbol.Symbol.{Symbol}
use Rattle.pp_expression.specs.declared.symbol.Symbol.TheVariants as symbol
use Rattle.pp_expression.specs.declared.operator.Unary.{Unary}
use Rattle.pp_expression.specs.declared.operator.Unary.TheVariants as unary
use Rattle.pp_expression.specs.declared.operator.Binary.{Binary}
use Rattle.pp_expression.specs.declared.operator.Binary.TheVariants as binary
use Rattle.pp_expression.specs.declared.symbol.ExpressionFault.{ExpressionFault}
use Rattle.pp_expression.specs.Operators.{unary_of, binary_of, level_of, unary_punct, binary_punct}
use Rattle.pp_expression.specs.Arithmetic.{unary_value, binary_value, literal}
use Rattle.pp_expression.specs.Trees.{Tree, Number, Group, Prefix, Infix, spelling, Fits, value}
use Rattle.pp_expression.specs.Answers.{◌>>=◌}
use Rattle.pp_expression.specs.Lines.{Line, Begins, next_of, goes_on, Stops, Reads}
use Rattle.pp_expression.specs.inner.Lines.{binds_from}
use Rattle.pp_expression.specs.inner.Parsing.{sign_at}
use Rattle.pp_expression.proofs.Levels.{of_level, operator_at, operator_of}
use Rattle.pp_expression.proofs.Run.{Halt, Outcome, Operand, Level, Loop, Settles, level_goes, level_fails, level_operand, loop_ends, loop_goes, operand_signed, operand_number, operand_group}

-- these symbols, and then the rest
abbrev pub onto : List Symbol → Line → Line
onto symbols rest = record { symbols = symbols ++ rest.symbols; ending = rest.ending }

pub onto_more : (xs ys : List Symbol) (rest : Line) → onto (xs ++ ys) rest ≡ onto xs (onto ys rest)
onto_more xs ys rest = let Made : List Symbol → Line = λ zs. record { symbols = zs; ending = rest.ending } in ap Made (append_assoc xs ys rest.symbols)

unary_again : (o : Unary) → unary_of (unary_punct o) ≡ Some o
unfolding unary_punct
unary_again unary.Plus = refl
unary_again _ = refl

binary_again : (o : Binary) → binary_of (binary_punct o) ≡ Some o
unfolding binary_punct
binary_again binary.Multiply = refl
binary_again _ = refl

pub sign_front : (o : Unary) (xs : List Symbol) (rest : Line) → sign_at (onto (symbol.Punct (unary_punct o) ∷ xs) rest) ≡ Ok (Some o)
sign_front o xs rest = ap Ok (unary_again o)

pub level_same : (level : ℕ) (o : Binary) → level_of o ≡ level → of_level level (Some o) ≡ Some o
level_same level o e = grind arith

pub operator_front : (level : ℕ) (o : Binary) (xs : List Symbol) (rest : Line) → level_of o ≡ level
    → operator_at level (onto (symbol.Punct (binary_punct o) ∷ xs) rest) ≡ Ok (Some o)
operator_front level o xs rest e = rw (binary_again o) (ap Ok (level_same level o e))

-- ---- where an expression is over

binds_more : (level : ℕ) (m : Option Binary) → binds_from level m ≡ false → binds_from (level + 1) m ≡ false
binds_more level (Some o) h = grind arith
binds_more level None h = refl

pub over_more : (level : ℕ) (symbols : List Symbol) → goes_on level symbols ≡ false → goes_on (level + 1) symbols ≡ false
over_more level symbols h = grind arith

pub stops_more : (level : ℕ) (line : Line) → Stops level line → Stops (level + 1) line
stops_more level line s = record { known = λ h. s.known (omega arith); over = over_more level line.symbols s.over }

pub stops_above : (d level top : ℕ) (line : Line) → top ≡ level + d → Stops level line → Stops top line
stops_above zero level top line e s = let same : top ≡ level = omega arith in rw same s
stops_above (suc d) level top line e s = stops_above d (level + 1) top line (omega arith) (stops_more level line s)

binds_at : (level : ℕ) (m : Option Binary) → binds_from level m ≡ false → of_level level m ≡ None
binds_at level (Some o) h = grind arith
binds_at level None h = refl

none_at : (level : ℕ) (symbols : List Symbol) (ending : Option ExpressionFault) → IsOk (next_of symbols ending) → goes_on level symbols ≡ false
    → (next_of symbols ending >>= (λ x. Ok (operator_of level x))) ≡ Ok None
none_at level symbols ending h k = grind arith

pub stops_none : (level : ℕ) (line : Line) → level ≤ 9 → Stops level line → operator_at level line ≡ Ok None
stops_none level line h s = none_at level line.symbols line.ending (s.known h) s.over

pub loosest : (level : ℕ) (o : Binary) → level_of o ≡ level → binds_from (level + 1) (Some o) ≡ false
loosest level o e = grind arith

-- an operand of an operator is over before it
pub stops_before : (level : ℕ) (o : Binary) (xs : List Symbol) (rest : Line) → level_of o ≡ level
    → Stops (level + 1) (onto (symbol.Punct (binary_punct o) ∷ xs) rest)
stops_before level o xs rest e = record { known = λ h. refl; over = rw (binary_again o) (loosest level o e) }

pub low_operator : (o : Binary) → level_of o ≤ 9
unfolding level_of
low_operator binary.Multiply = omega arith
low_operator _ = omega arith

-- ---- from a tighter level to a looser one

pub descend : (d level top : ℕ) (line rest : Line) (v : ℤ) → top ≡ level + d → top ≤ 10 → Settles (Level top) line (Ok (v, rest)) → Stops level rest
    → Settles (Level level) line (Ok (v, rest))
descend zero level top line rest v e h a s = let same : level ≡ top = omega arith in rw same a
descend (suc d) level top line rest v e h a s =
    grind (arith, level_goes, loop_ends, stops_none, descend d (level + 1) top line rest v (omega arith) h a (stops_more level rest s))

pub descend_fault : (d level top : ℕ) (line : Line) (e : Halt) → top ≡ level + d → top ≤ 10 → Settles (Level top) line (Err e)
    → Settles (Level level) line (Err e)
descend_fault zero level top line e is h a = let same : level ≡ top = omega arith in rw same a
descend_fault (suc d) level top line e is h a = level_fails level line e (omega arith) (descend_fault d (level + 1) top line e (omega arith) h a)

-- ---- trees

-- The symbols of the tree are read as the tree.
abbrev pub Whole : Tree → Type 0
Whole t = (level : ℕ) (rest : Line) (v : ℤ) → level ≤ 10 → Fits level t → value t ≡ Ok v → Stops level rest
    → Settles (Level level) (onto (spelling t) rest) (Ok (v, rest))

-- They are read as a left operand, whatever comes of the operators after it.
abbrev pub Spine : Tree → Type 0
Spine t = (level : ℕ) (rest : Line) (v : ℤ) (out : Outcome) → level ≤ 9 → Fits level t → value t ≡ Ok v → Stops (level + 1) rest
    → Settles (Loop level v) rest out → Settles (Level level) (onto (spelling t) rest) out

pub bind_ok : {A B E : Type 0} (r : Result A E) (f : A → Result B E) (y : B) → (r >>= f) ≡ Ok y → (x : A) × (r ≡ Ok x) × (f x ≡ Ok y)
bind_ok (Ok x) f y h = (x, refl, h)
bind_ok (Err e) f y h = cc

pub bind_err : {A B E : Type 0} {P : Type 0} (r : Result A E) (f : A → Result B E) (e : E) → (r >>= f) ≡ Err e → (r ≡ Err e → P)
    → ((x : A) → r ≡ Ok x → f x ≡ Err e → P) → P
bind_err (Ok x) f e h a b = b x refl h
bind_err (Err d) f e h a b = a (let same : d ≡ e = cc in rw same refl)

abbrev pub IsAtom : Tree → Type 0
IsAtom t = (rest : Line) (v : ℤ) → Fits 10 t → value t ≡ Ok v → Settles Operand (onto (spelling t) rest) (Ok (v, rest))

whole_atom : (t : Tree) → ((level : ℕ) → Fits level t → Fits 10 t) → IsAtom t → Whole t
whole_atom t tight a level rest v h fits is s =
    descend (10 - level) level 10 (onto (spelling t) rest) rest v (omega arith) (omega arith)
    (level_operand (onto (spelling t) rest) (Ok (v, rest)) (a rest v (tight level fits) is)) s

spine_atom : (t : Tree) → ((level : ℕ) → Fits level t → Fits (level + 1) t) → Whole t → Spine t
spine_atom t tighter whole level rest v out h fits is s loop =
    level_goes level (onto (spelling t) rest) rest v out h (whole (level + 1) rest v (omega arith) (tighter level fits) is s) loop

number_atom : (n : ℕ) → IsAtom (Number n)
number_atom n rest v fits is =
    let same : literal n ≡ v = cc in
    rw (← same) (operand_number (onto (symbol.Number n ∷ []) rest) n refl refl)

group_atom : (t : Tree) → Whole t → IsAtom (Group t)
group_atom t whole rest v fits is =
    let inner = onto (symbol.Punct mark.RightParen ∷ []) rest in
    let found : Settles (Level 0) (onto (spelling t) inner) (Ok (v, inner)) =
    whole 0 inner v (omega arith) fits is (record { known = λ h. refl; over = refl }) in
    let same = onto_more (spelling t) (symbol.Punct mark.RightParen ∷ []) rest in
    operand_group (onto (spelling (Group t)) rest) inner v refl refl (rw same found) refl

prefix_atom : (o : Unary) (t : Tree) → IsAtom t → IsAtom (Prefix o t)
prefix_atom o t a rest v fits is =
    let x = bind_ok (value t) (unary_value o) v is in
    operand_signed o (onto (spelling (Prefix o t)) rest) rest x.0 v (sign_front o (spelling t) rest) (a rest x.0 fits x.1) x.2

pub infix_absurd : (o : Binary) (l r : Tree) → Fits 10 (Infix o l r) → ⊥
infix_absurd o l r h = let low = low_operator o in omega (arith, low, h.0)

-- an operation, at its own level
infix_own : (o : Binary) (l r : Tree) → Spine l → Whole r → (level : ℕ) (rest : Line) (v : ℤ) (out : Outcome) → level_of o ≡ level
    → Fits (level_of o) l → Fits (level_of o + 1) r → value (Infix o l r) ≡ Ok v → Stops (level + 1) rest → Settles (Loop level v) rest out
    → Settles (Level level) (onto (spelling (Infix o l r)) rest) out
infix_own o l r left right level rest v out e fl fr is s loop =
    let low = low_operator o in
    let x = bind_ok (value l) (λ x. value r >>= binary_value o x) v is in
    let y = bind_ok (value r) (binary_value o x.0) v x.2 in
    let after = onto (symbol.Punct (binary_punct o) ∷ spelling r) rest in
    rw (onto_more (spelling l) (symbol.Punct (binary_punct o) ∷ spelling r) rest)
    (left level after x.0 out (omega arith) (rw e at fl) x.1 (stops_before level o (spelling r) rest e)
    (loop_goes level o x.0 y.0 v after rest out (operator_front level o (spelling r) rest e)
    (right (level + 1) rest y.0 (omega arith) (rw e at fr) y.1 s) y.2 loop))

infix_whole : (o : Binary) (l r : Tree) → Spine l → Whole r → Whole (Infix o l r)
infix_whole o l r left right level rest v h fits is s =
    let low = low_operator o in
    let own = level_of o in
    let gap : own ≡ level + (own - level) = omega (arith, fits.0) in
    let above = stops_above (own - level) level own rest gap s in
    descend (own - level) level own (onto (spelling (Infix o l r)) rest) rest v gap (omega arith)
    (infix_own o l r left right own rest v (Ok (v, rest)) refl fits.1 fits.2 is (stops_more own rest above)
    (loop_ends own v rest (stops_none own rest low above))) s

infix_spine : (o : Binary) (l r : Tree) → Spine l → Whole r → Spine (Infix o l r)
infix_spine o l r left right level rest v out h fits is s loop =
    elim (dec_lt level (level_of o)) [
      | yes below ↦ level_goes level (onto (spelling (Infix o l r)) rest) rest v out h
          (infix_whole o l r left right (level + 1) rest v (omega arith) (omega arith, fits.1, fits.2) is s) loop
      | no above ↦
          let e : level_of o ≡ level = omega (arith, fits.0, above) in
          infix_own o l r left right level rest v out e fits.1 fits.2 is s loop
    ]

pub record IsRead (t : Tree) : Type 0 where
  pub atom : IsAtom t
  pub whole : Whole t
  pub spine : Spine t

atom_read : (t : Tree) → ((level : ℕ) → Fits level t → Fits 10 t) → ((level : ℕ) → Fits level t → Fits (level + 1) t) → IsAtom t → IsRead t
atom_read t tight tighter a = let whole = whole_atom t tight a in record { atom = a; whole = whole; spine = spine_atom t tighter whole }

pub is_read : (t : Tree) → IsRead t
is_read (Number n) = atom_read (Number n) (λ level h. tt) (λ level h. tt) (number_atom n)
is_read (Group t) = atom_read (Group t) (λ level h. h) (λ level h. h) (group_atom t (is_read t).whole)
is_read (Prefix o t) = atom_read (Prefix o t) (λ level h. h) (λ level h. h) (prefix_atom o t (is_read t).atom)
is_read (Infix o l r) = grind (arith, infix_absurd, infix_whole, infix_spine, is_read l, is_read r)

-- a line is its symbols and its end
pub line_is : (line rest : Line) (xs : List Symbol) → Begins line xs rest → line ≡ onto xs rest
line_is line rest xs begins = grind arith

-- ---- what is read is what the run gives

pub reads_settles : (level : ℕ) (old new : Line) (v : ℤ) → level ≤ 10 → Reads level level old new v → Settles (Level level) old (Ok (v, new))
reads_settles level old new v h r =
    rw (line_is old new (spelling r.tree) r.begins) ((is_read r.tree).whole level new v h r.fits r.valued r.stops)
