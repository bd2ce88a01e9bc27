-- The symbols of a fault are read up to that fault, where all that is finished before it has a value.
use Rattle.std.proofs.Common.{◌≡◌, ℕ, suc, ◌+◌, ◌-◌, ◌≤◌, List, ◌∷◌, ◌++◌, length, Option, None, Result, Ok, Err, IsOk, ℤ, refl, arith}
use Rattle.std.proofs.Math.Decide.{dec_lt}
use Rattle.pp_lexer.specs.declared.token.Punct.TheVariants as mark
use Rattle.pp_expression.specs.declared.symbol.Symbol.{Symbol}
use Rattle.pp_expression.specs.declared.symbol.Symbol.TheVariants as symbol
use Rattle.pp_expression.specs.declared.operator.Binary.{Binary}
use Rattle.pp_expression.specs.declared.symbol.ExpressionFault.{ExpressionFault}
use Rattle.pp_expression.specs.Operators.{level_of, unary_punct, binary_punct}
use Rattle.pp_expression.specs.Arithmetic.{binary_value}
use Rattle.pp_expression.specs.Trees.{Tree, Number, Group, Prefix, Infix, spelling, Fits, value}
use Rattle.pp_expression.specs.Answers.{◌>>=◌}
use Rattle.pp_expression.specs.Lines.{Line, next}
use Rattle.pp_expression.specs.FirstFault.{sign_of, unread_at, Front, Here, InGroup, InPrefix, InInfix, front_spelling, FitsFront, wanted, Fails, unread, wrong, unread_after, unclosed, signed, operated}
use Rattle.pp_expression.specs.inner.Parsing.{sign_at, HaveValues, IsAfterValue, IsMet}
use Rattle.pp_expression.proofs.Levels.{operator_at}
use Rattle.pp_expression.proofs.Trees.{operand_stops}
use Rattle.pp_expression.proofs.Run.{Halt, Outcome, Operand, Level, Loop, Settles, level_goes, level_operand, loop_unread, loop_goes, loop_overflows, loop_right, operand_unread, operand_overflows, operand_in_sign, operand_wrong, operand_unclosed, operand_in_group}
use Rattle.pp_expression.proofs.Unique.{onto, onto_more, line_is, is_read, low_operator, sign_front, operator_front, stops_before, bind_ok, descend_fault}

abbrev pub spot : ℕ → ℕ → ExpressionFault → Halt
spot left order e = record { left = left; order = order; kind = e }

abbrev pub found : ℕ → ℕ → ExpressionFault → Outcome
found left order e = Err (spot left order e)

pub ok_value : {A E : Type 0} (r : Result A E) → IsOk r → (x : A) × (r ≡ Ok x)
ok_value (Ok x) h = (x, refl)
ok_value (Err e) h = cc

pub operator_unread : (level : ℕ) (line : Line) (d : ExpressionFault) → next line ≡ Err d → operator_at level line ≡ Err d
operator_unread level line d h = rw h refl

-- from an operand to the level where it is wanted
pub up : (level : ℕ) (line : Line) (e : Halt) → level ≤ 10 → Settles Operand line (Err e) → Settles (Level level) line (Err e)
up level line e h a = descend_fault (10 - level) level 10 line e (omega arith) (omega arith) (level_operand line (Err e) a)

pub down : (line : Line) (out : Outcome) → Settles (Level 10) line out → Settles Operand line out
down line out a = record { enough = a.enough; settled = λ m le. a.settled (suc m) (omega arith) }

-- ---- the word after a tree isn't read

unread_atom : (t : Tree) (level : ℕ) (rest : Line) (v : ℤ) (d : ExpressionFault) → level ≤ 9
    → Settles Operand (onto (spelling t) rest) (Ok (v, rest)) → next rest ≡ Err d
    → Settles (Level level) (onto (spelling t) rest) (found (length rest.symbols) 1 d)
unread_atom t level rest v d h a is =
    descend_fault (9 - level) level 9 (onto (spelling t) rest) (spot (length rest.symbols) 1 d) (omega arith) (omega arith)
    (level_goes 9 (onto (spelling t) rest) rest v (found (length rest.symbols) 1 d) (omega arith)
    (level_operand (onto (spelling t) rest) (Ok (v, rest)) a)
    (loop_unread 9 v rest d (operator_unread 9 rest d is)))

abbrev pub Unreads : Tree → Type 0
Unreads t = (level : ℕ) (rest : Line) (d : ExpressionFault) → level ≤ 9 → Fits level t → IsOk (value t) → next rest ≡ Err d
    → Settles (Level level) (onto (spelling t) rest) (found (length rest.symbols) 1 d)

-- after a left operand comes its operator
pub left_goes : (o : Binary) (l : Tree) (xs : List Symbol) (level : ℕ) (rest : Line) (x : ℤ) (out : Outcome) → level ≤ level_of o
    → Fits (level_of o) l → value l ≡ Ok x → Settles (Loop (level_of o) x) (onto (symbol.Punct (binary_punct o) ∷ xs) rest) out
    → Settles (Level (level_of o)) (onto (spelling l ++ (symbol.Punct (binary_punct o) ∷ xs)) rest) out
left_goes o l xs level rest x out h fits is loop =
    let own = level_of o in
    let low = low_operator o in
    rw (onto_more (spelling l) (symbol.Punct (binary_punct o) ∷ xs) rest)
    ((is_read l).spine own (onto (symbol.Punct (binary_punct o) ∷ xs) rest) x out low fits is (stops_before own o xs rest refl) loop)

unread_infix : (o : Binary) (l r : Tree) → Unreads r → Unreads (Infix o l r)
unread_infix o l r right level rest d h fits ok is =
    let own = level_of o in
    let low = low_operator o in
    let v = ok_value (value (Infix o l r)) ok in
    let x = bind_ok (value l) (λ x. value r >>= binary_value o x) v.0 v.1 in
    let y = bind_ok (value r) (binary_value o x.0) v.0 x.2 in
    let after = onto (symbol.Punct (binary_punct o) ∷ spelling r) rest in
    let front = operator_front own o (spelling r) rest refl in
    let e = spot (length rest.symbols) 1 d in
    let loop : Settles (Loop own x.0) after (Err e) = elim (dec_lt own 9) [
      | yes below ↦ loop_right own o x.0 after e front (right (own + 1) rest d (omega arith) fits.2 (rw y.1 refl) is)
      | no above ↦
          let nine : own ≡ 9 = omega (arith, above, low) in
          loop_goes own o x.0 y.0 v.0 after rest (Err e) front
          ((is_read r).whole (own + 1) rest y.0 (omega arith) fits.2 y.1 (let ten : own + 1 ≡ 10 = omega arith in rw ten (operand_stops rest)))
          y.2 (loop_unread own v.0 rest d (operator_unread own rest d is))
    ] in
    descend_fault (own - level) level own (onto (spelling (Infix o l r)) rest) e (omega (arith, fits.0)) (omega arith)
    (left_goes o l (spelling r) level rest x.0 (Err e) fits.0 fits.1 x.1 loop)

pub unreads : (t : Tree) → Unreads t
unreads (Number n) = λ level rest d h fits ok is. let v = ok_value (value (Number n)) ok in
    unread_atom (Number n) level rest v.0 d h ((is_read (Number n)).atom rest v.0 fits v.1) is
unreads (Group t) = λ level rest d h fits ok is. let v = ok_value (value (Group t)) ok in
    unread_atom (Group t) level rest v.0 d h ((is_read (Group t)).atom rest v.0 fits v.1) is
unreads (Prefix o t) = λ level rest d h fits ok is. let v =
    ok_value (value (Prefix o t)) ok in unread_atom (Prefix o t) level rest v.0 d h ((is_read (Prefix o t)).atom rest v.0 fits v.1) is
unreads (Infix o l r) = unread_infix o l r (unreads r)

-- ---- a fault where it is found

pub sign_none : (line : Line) (x : Option Symbol) → next line ≡ Ok x → sign_of x ≡ None → sign_at line ≡ Ok None
sign_none line x h s = rw (h, s) refl

pub fails_settles : (level : ℕ) (line : Line) (left order : ℕ) (e : ExpressionFault) → level ≤ 10 → (fails : Fails level line left order e)
    → IsAfterValue fails → Settles (Level level) line (found left order e)
fails_settles level line left order e h (unread kind is) ok = grind (arith, up, operand_unread)
fails_settles level line left order e h (wrong x kind is s out) ok =
    up level line (spot (length line.symbols) 4 kind) h (operand_wrong line x kind (sign_none line x is s) is out)
fails_settles level line left order e h (unread_after t rest kind low begins fits is) ok =
    rw (line_is line rest (spelling t) begins) (unreads t level rest kind low fits ok is)
fails_settles level line left order e h (unclosed t rest x kind begins fits is over out) ok =
    let v = ok_value (value t) ok in
    let opening = onto (symbol.Punct mark.LeftParen ∷ spelling t) rest in
    rw (line_is line rest (symbol.Punct mark.LeftParen ∷ spelling t) begins)
    (up level opening (spot (length rest.symbols) 4 kind) h
    (operand_unclosed opening rest v.0 x kind refl refl
    ((is_read t).whole 0 rest v.0 (omega arith) fits v.1 (record { known = λ z. rw is refl; over = over })) is out))
fails_settles level line left order e h (signed o t rest x kind begins fits is out) ok =
    rw (line_is line rest (spelling (Prefix o t)) begins)
    (up level (onto (spelling (Prefix o t)) rest) (spot (length rest.symbols + 1) 2 kind) h
    (operand_overflows o (onto (spelling (Prefix o t)) rest) rest x kind (sign_front o (spelling t) rest) ((is_read t).atom rest x fits is) out))
fails_settles level line left order e h (operated o l r rest x y kind begins fits lv rv out s) ok =
    let own = level_of o in
    let low = low_operator o in
    let here = spot (unread_at o rest) 2 kind in
    let after = onto (symbol.Punct (binary_punct o) ∷ spelling r) rest in
    rw (line_is line rest (spelling (Infix o l r)) begins)
    (descend_fault (own - level) level own (onto (spelling (Infix o l r)) rest) here (omega (arith, fits.0)) (omega arith)
    (left_goes o l (spelling r) level rest x (Err here) fits.0 fits.1 lv
    (loop_overflows own o x y after rest kind (operator_front own o (spelling r) rest refl)
    ((is_read r).whole (own + 1) rest y (omega arith) fits.2 rv s) out)))

-- ---- and seen from the front of the line

front_settles : (c : Front) (level : ℕ) (here : Line) (e : Halt) → level ≤ 10 → FitsFront level c → HaveValues c
    → Settles (Level (wanted level c)) here (Err e) → Settles (Level level) (onto (front_spelling c) here) (Err e)
front_settles Here level here e h is ok a = a
front_settles (InGroup c) level here e h is ok a = grind (arith, up, operand_in_group, front_settles c 0 here e (omega arith) is ok a)
front_settles (InPrefix o c) level here e h is ok a =
    up level (onto (symbol.Punct (unary_punct o) ∷ front_spelling c) here) e h
    (operand_in_sign o (onto (symbol.Punct (unary_punct o) ∷ front_spelling c) here) e (sign_front o (front_spelling c) here)
    (down (onto (front_spelling c) here) (Err e) (front_settles c 10 here e (omega arith) is ok a)))
front_settles (InInfix o l c) level here e h is ok a =
    let own = level_of o in
    let low = low_operator o in
    let x = ok_value (value l) ok.0 in
    descend_fault (own - level) level own (onto (spelling l ++ (symbol.Punct (binary_punct o) ∷ front_spelling c)) here) e (omega (arith, is.0)) (omega arith)
    (left_goes o l (front_spelling c) level here x.0 (Err e) is.0 is.1 x.1
    (loop_right own o x.0 (onto (symbol.Punct (binary_punct o) ∷ front_spelling c) here) e (operator_front own o (front_spelling c) here refl)
    (front_settles c (own + 1) here e (omega arith) is.2 ok.1 a)))

pub wanted_low : (c : Front) (level : ℕ) → level ≤ 10 → wanted level c ≤ 10
wanted_low Here level h = h
wanted_low (InGroup c) level h = wanted_low c 0 (omega arith)
wanted_low (InPrefix o c) level h = wanted_low c 10 (omega arith)
wanted_low (InInfix o l c) level h = let low = low_operator o in wanted_low c (level_of o + 1) (omega arith)

pub fault_settles : (level : ℕ) (line : Line) (left order : ℕ) (e : ExpressionFault) → level ≤ 10 → IsMet level line left order e
    → Settles (Level level) line (found left order e)
fault_settles level line left order e low h = grind (arith, front_settles, fails_settles, wanted_low)
