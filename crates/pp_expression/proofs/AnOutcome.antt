-- A line has an outcome, a value or a first fault: a parser with turns enough for its symbols finds one of the two.
use Rattle.std.proofs.Common.{◌≡◌, ℕ, zero, suc, ◌+◌, ◌*◌, ◌≤◌, ◌<◌, List, [], ◌∷◌, drop, length, Option, Some, Result, Ok, Err, ℤ, refl, arith}
use Rattle.std.specs.Prelude.{MatchResult}
use Rattle.std.proofs.Math.Decide.{dec_lt}
use Rattle.pp_expression.specs.declared.symbol.Symbol.{Symbol}
use Rattle.pp_expression.specs.declared.symbol.Found.{Found}
use Rattle.pp_expression.specs.declared.symbol.Value.{Value}
use Rattle.pp_expression.specs.declared.operator.Unary.{Unary}
use Rattle.pp_expression.specs.declared.operator.Binary.{Binary}
use Rattle.pp_expression.specs.declared.symbol.ExpressionFault.{ExpressionFault}
use Rattle.pp_expression.specs.Arithmetic.{unary_value, binary_value}
use Rattle.pp_expression.specs.Answers.{◌>>=◌}
use Rattle.pp_expression.specs.Lines.{Line, next, next_of}
use Rattle.pp_expression.specs.FirstFault.{sign_of, atom_of, closing, unread_at, Evaluates}
use Rattle.pp_expression.specs.inner.Parsing.{after_next, sign_at}
use Rattle.pp_expression.proofs.Levels.{operator_of, operator_at}
use Rattle.pp_expression.proofs.Run.{Outcome, Operand, Level, Loop, at, atom_by, operand_by, loop_by, step, read, low}
use Rattle.pp_expression.proofs.Sound.{Sees, seen, fault_seen}
use Rattle.pp_expression.proofs.PossibleFaults.{is_first, is_value}

-- a value with fewer symbols left than that, or a fault of the line: its order is 0 only where turns ran out
abbrev Ends : ℕ → Outcome → Type 0
Ends most out = MatchResult out (λ x. length x.1.symbols < most) (λ h. 1 ≤ h.order)

ends_below : (few many : ℕ) (out : Outcome) → few ≤ many → Ends few out → Ends many out
ends_below few many (Ok x) le h = omega (arith, h)
ends_below few many (Err e) le h = h

-- so many turns are enough to end: 24 for each symbol, 22 for the levels of a whole expression, and one for an operand
record Suffices (n : ℕ) : Type 0 where
  operand : (line : Line) → 24 * length line.symbols + 1 ≤ n → Ends (length line.symbols) (read n Operand line)
  level : (level : ℕ) (line : Line) → level ≤ 10 → 24 * length line.symbols + 22 ≤ n + 2 * level → Ends (length line.symbols) (read n (Level level) line)
  loop : (level : ℕ) (x : ℤ) (line : Line) → level ≤ 9 → 24 * length line.symbols + 1 ≤ n → Ends (length line.symbols + 1) (read n (Loop level x) line)

-- ---- a symbol that comes next is taken

fewer : (symbols : List Symbol) → length (drop 1 symbols) ≤ length symbols
fewer [] = omega arith
fewer (x ∷ xs) = omega arith

taken : (symbols : List Symbol) (ending : Option ExpressionFault) (x : Symbol) → next_of symbols ending ≡ Ok (Some x)
    → length (drop 1 symbols) + 1 ≡ length symbols
taken symbols ending x h = grind arith

sign_taken : (symbols : List Symbol) (ending : Option ExpressionFault) (o : Unary) → (next_of symbols ending >>= λ ahead. Ok (sign_of ahead)) ≡ Ok (Some o)
    → length (drop 1 symbols) + 1 ≡ length symbols
sign_taken symbols ending o h = grind arith

operator_taken : (level : ℕ) (symbols : List Symbol) (ending : Option ExpressionFault) (o : Binary)
    → (next_of symbols ending >>= λ ahead. Ok (operator_of level ahead)) ≡ Ok (Some o) → length (drop 1 symbols) + 1 ≡ length symbols
operator_taken level symbols ending o h = grind arith

-- ---- an operand

signed_value : (most : ℕ) (x : ℤ × Line) (r : Result ℤ ExpressionFault) → length x.1.symbols < most
    → Ends most (at (length x.1.symbols + 1) 2 r >>= λ v. Ok (v, x.1))
signed_value most x (Ok v) h = h
signed_value most x (Err e) h = omega arith

signed_operand : (most : ℕ) (o : Unary) (r : Outcome) → Ends most r
    → Ends most (r >>= λ x. at (length x.1.symbols + 1) 2 (unary_value o x.0) >>= λ v. Ok (v, x.1))
signed_operand most o (Ok x) h = signed_value most x (unary_value o x.0) h
signed_operand most o (Err e) h = h

group_closed : (most : ℕ) (x : ℤ × Line) (r : Result (Unit {0}) ExpressionFault) → length x.1.symbols < most
    → Ends most (at (length x.1.symbols) 4 r >>= λ u. Ok (x.0, after_next x.1))
group_closed most x (Ok u) h = omega (arith, h, fewer x.1.symbols)
group_closed most x (Err e) h = omega arith

group_after : (most : ℕ) (x : ℤ × Line) (r : Result (Option Symbol) ExpressionFault) → length x.1.symbols < most
    → Ends most (at (length x.1.symbols) 1 r >>= λ y. at (length x.1.symbols) 4 (closing y) >>= λ u. Ok (x.0, after_next x.1))
group_after most x (Ok y) h = group_closed most x (closing y) h
group_after most x (Err e) h = omega arith

group_read : (most : ℕ) (r : Outcome) → Ends most r
    → Ends most (r >>= λ x. at (length x.1.symbols) 1 (next x.1) >>= λ y. at (length x.1.symbols) 4 (closing y) >>= λ u. Ok (x.0, after_next x.1))
group_read most (Ok x) h = group_after most x (next x.1) h
group_read most (Err e) h = h

atom_ends : (n : ℕ) → Suffices n → (line : Line) (a : Option ℕ) → 24 * length line.symbols ≤ n
    → length (drop 1 line.symbols) + 1 ≡ length line.symbols → Ends (length line.symbols) (atom_by (read n) line a)
atom_ends n h line a k e = grind (arith, ends_below)

atom_kind : (n : ℕ) → Suffices n → (line : Line) (y : Option Symbol) (r : Result (Option ℕ) ExpressionFault) → atom_of y ≡ r → next line ≡ Ok y
    → 24 * length line.symbols ≤ n → Ends (length line.symbols) (at (length line.symbols) 4 r >>= atom_by (read n) line)
atom_kind n h line y r k e l = grind arith

atom_read : (n : ℕ) → Suffices n → (line : Line) (r : Result (Option Symbol) ExpressionFault) → next line ≡ r → 24 * length line.symbols ≤ n
    → Ends (length line.symbols) (at (length line.symbols) 1 r >>= λ y. at (length line.symbols) 4 (atom_of y) >>= atom_by (read n) line)
atom_read n enough line (Ok y) is room = atom_kind n enough line y (atom_of y) refl is room
atom_read n enough line (Err e) is room = omega arith

operand_read : (n : ℕ) → Suffices n → (line : Line) (r : Result (Option Unary) ExpressionFault) → sign_at line ≡ r → 24 * length line.symbols ≤ n
    → Ends (length line.symbols) (at (length line.symbols) 1 r >>= operand_by (read n) line)
operand_read n h line r k e = grind (arith, read, ends_below, atom_read)

-- ---- operators between operands

loop_value : (n : ℕ) → Suffices n → (level : ℕ) (o : Binary) (most : ℕ) (y : ℤ × Line) (r : Result ℤ ExpressionFault) → level ≤ 9 → 24 * most ≤ n
    → length y.1.symbols < most → Ends (most + 1) (at (unread_at o y.1) 2 r >>= λ v. read n (Loop level v) y.1)
loop_value n h level o most y r k e l = grind arith

loop_right : (n : ℕ) → Suffices n → (level : ℕ) (o : Binary) (x : ℤ) (most : ℕ) (r : Outcome) → level ≤ 9 → 24 * most ≤ n → Ends most r
    → Ends (most + 1) (r >>= λ y. at (unread_at o y.1) 2 (binary_value o x y.0) >>= λ v. read n (Loop level v) y.1)
loop_right n enough level o x most (Ok y) h room ends = loop_value n enough level o most y (binary_value o x y.0) h room ends
loop_right n enough level o x most (Err e) h room ends = ends

loop_read : (n : ℕ) → Suffices n → (level : ℕ) (x : ℤ) (line : Line) (r : Result (Option Binary) ExpressionFault) → level ≤ 9
    → operator_at level line ≡ r → 24 * length line.symbols ≤ n
    → Ends (length line.symbols + 1) (at (length line.symbols) 1 r >>= loop_by (read n) level x line)
loop_read n h level x line r k e l = grind (arith, read, ends_below)

level_right : (n : ℕ) → Suffices n → (level most : ℕ) (r : Outcome) → level ≤ 9 → 24 * most + 3 ≤ n → Ends most r
    → Ends most (r >>= λ x. read n (Loop level x.0) x.1)
level_right n h level most r k e l = grind arith

level_read : (n : ℕ) → Suffices n → (level : ℕ) (line : Line) → level ≤ 10 → 24 * length line.symbols + 22 ≤ suc n + 2 * level
    → Ends (length line.symbols) (step (read n) (Level level) line)
level_read n enough level line h room = elim (dec_lt level 10) [
  | yes below ↦ rw (low level (omega arith)) (level_right n enough level (length line.symbols) (read n (Level (level + 1)) line) (omega arith)
      (omega (arith, room, below)) (enough.level (level + 1) line (omega arith) (omega (arith, room))))
  | no above ↦ let ten : level ≡ 10 = omega (arith, above) in rw ten (enough.operand line (omega (arith, room, ten)))
]

suffices : (n : ℕ) → Suffices n
suffices zero = grind arith
suffices (suc n) = grind (arith, level_read, loop_read, operator_at, suffices n)

-- ---- the outcome of a line

evaluated : (line : Line) (out : Outcome) → Sees 0 line out → Ends (length line.symbols) out → (result : Result Value Found) × Evaluates line result
evaluated line (Ok x) sees ends = (Ok (record { value = x.0; left = length x.1.symbols }), is_value line x.1 x.0 (length x.1.symbols) refl sees)
evaluated line (Err h) sees ends =
    let found : Found = record { kind = h.kind; left = h.left } in
    (Err found, is_first 0 line found (omega arith) (record { order = h.order; met = fault_seen 0 line h ends sees }))

-- A line has a value, or a first fault.
pub an_outcome : (line : Line) → (result : Result Value Found) × Evaluates line result
an_outcome line =
    let turns = 24 * length line.symbols + 22 in
    evaluated line (read turns (Level 0) line) (seen turns line) ((suffices turns).level 0 line (omega arith) (omega arith))
