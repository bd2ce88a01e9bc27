-- What is pending, and operators computed within it.
use Rattle.std.proofs.Common.{◌≡◌, ℕ, zero, suc, ◌+◌, ◌-◌, ◌≤◌, false, List, [], ◌∷◌, Option, Some, None, Result, Ok, Err, IsOk, ℤ, arith}
use Rattle.pp_expression.specs.declared.operator.Binary.{Binary}
use Rattle.pp_expression.specs.declared.operator.Unary.{Unary}
use Rattle.pp_expression.specs.declared.pending.Operator.{Operator}
use Rattle.pp_expression.specs.declared.pending.Operator.TheVariants as operator
use Rattle.pp_expression.specs.declared.pending.Pending.{Pending}
use Rattle.pp_expression.specs.declared.pending.Pending.TheVariants as pending
use Rattle.pp_expression.specs.declared.symbol.Symbol.{Symbol}
use Rattle.pp_expression.specs.declared.symbol.ExpressionFault.{ExpressionFault}
use Rattle.pp_expression.specs.declared.symbol.Found.{Found}
use Rattle.pp_expression.specs.Operators.{level_of}
use Rattle.pp_expression.specs.Answers.{◌>>=◌}
use Rattle.pp_expression.specs.Lines.{Line, next_of, goes_on, Stops, Reads}
use Rattle.pp_expression.specs.inner.Parsing.{after_next, binary_sign_of, binary_at, located, IsFault}
use Rattle.pp_expression.proofs.Levels.{operator_of, operator_at}
use Rattle.pp_expression.specs.inner.Pending.{operator_level, operation, computed_at, right_level, wanted_in, Awaits, HasOperand}
use Rattle.pp_expression.proofs.Trees.{operand_stops, read_looser, read_signed, read_operation}
use Rattle.pp_expression.proofs.Steps as steps
use Rattle.pp_expression.proofs.Unique.{low_operator, stops_above, stops_more}

-- ---- levels

pub reads_looser_by : (d level top stop : ℕ) (old new : Line) (v : ℤ) → top ≡ level + d → Reads top stop old new v
    → Reads level stop old new v
reads_looser_by zero level top stop old new v e r = let same : level ≡ top = omega arith in rw same r
reads_looser_by (suc d) level top stop old new v e r = read_looser level stop old new v (reads_looser_by d (level + 1) top stop old new v (omega arith) r)

-- a tree that fits a level fits each looser one
pub reads_looser : (level top stop : ℕ) (old new : Line) (v : ℤ) → level ≤ top → Reads top stop old new v → Reads level stop old new v
reads_looser level top stop old new v le r = reads_looser_by (top - level) level top stop old new v (omega arith) r

-- the same expression, known to be over there in another way
pub reads_stopped : (level stop other : ℕ) (old new : Line) (v : ℤ) → Stops other new → Reads level stop old new v
    → Reads level other old new v
reads_stopped level stop other old new v stops r = grind arith

fault_looser_by : (d level top : ℕ) (old : Line) (found : Found) → top ≡ level + d → IsFault top old found → IsFault level old found
fault_looser_by zero level top old found e h = let same : level ≡ top = omega arith in rw same h
fault_looser_by (suc d) level top old found e h = steps.looser level old found (fault_looser_by d (level + 1) top old found (omega arith) h)

pub fault_looser : (level top : ℕ) (old : Line) (found : Found) → level ≤ top → IsFault top old found → IsFault level old found
fault_looser level top old found le h = fault_looser_by (top - level) level top old found (omega arith) h

right_low : (op : Operator) → right_level op ≤ 10
right_low (operator.Prefix unary) = omega arith
right_low (operator.Infix binary left) = let low = low_operator binary in omega arith

pub wanted_low : (waiting : List Pending) → wanted_in waiting ≤ 10
wanted_low waiting = grind (arith, right_low)

-- an operand alone is over without a look at what comes next
pub stops_eleven : (line : Line) → Stops 11 line
stops_eleven line = stops_more 10 line (operand_stops line)

-- ---- the operator that comes next

operator_here : (symbols : List Symbol) (ending : Option ExpressionFault) (o : Binary)
    → (next_of symbols ending >>= (λ x. Ok (binary_sign_of x))) ≡ Ok (Some o)
    → ((next_of symbols ending >>= (λ x. Ok (operator_of (level_of o) x))) ≡ Ok (Some o)) × IsOk (next_of symbols ending)
    × (goes_on (level_of o + 1) symbols ≡ false)
operator_here symbols ending o h = grind arith

pub operator_stands : (line : Line) (o : Binary) → binary_at line ≡ Ok (Some o) → operator_at (level_of o) line ≡ Ok (Some o)
operator_stands line o e = (operator_here line.symbols line.ending o e).0

pub operator_stops : (line : Line) (o : Binary) → binary_at line ≡ Ok (Some o) → Stops (level_of o + 1) line
operator_stops line o e = let is = operator_here line.symbols line.ending o e in record { known = λ h. is.1; over = is.2 }

over_here : (symbols : List Symbol) (ending : Option ExpressionFault)
    → (next_of symbols ending >>= (λ x. Ok (binary_sign_of x))) ≡ Ok None
    → IsOk (next_of symbols ending) × (goes_on 0 symbols ≡ false)
over_here symbols ending h = grind arith

pub end_stops : (line : Line) → binary_at line ≡ Ok None → Stops 0 line
end_stops line e = let is = over_here line.symbols line.ending e in record { known = λ h. is.0; over = is.1 }

pub next_unread : (r : Result (Option Symbol) ExpressionFault) (level left : ℕ) (found : Found)
    → located left (r >>= (λ x. Ok (binary_sign_of x))) ≡ Err found
    → located left (r >>= (λ x. Ok (operator_of level x))) ≡ Err found
next_unread (Ok x) level left found e = cc
next_unread (Err d) level left found e = e

-- ---- a fault, seen from the whole line

pub outwards : (whole : Line) (waiting : List Pending) (line : Line) (found : Found) → Awaits whole waiting line
    → IsFault (wanted_in waiting) line found → IsFault 0 whole found
outwards whole [] line found a h = rw a at h
outwards whole (pending.Group ∷ around) line found a h =
    let inner = rw a.2.1 at h in
    outwards whole around a.0 found a.1 (fault_looser (wanted_in around) 10 a.0 found (wanted_low around) (steps.in_group a.0 found a.2.0 inner))
outwards whole (pending.Operator (operator.Prefix unary) ∷ around) line found a h =
    let inner = rw a.2.1 at h in
    outwards whole around a.0 found a.1 (fault_looser (wanted_in around) 10 a.0 found (wanted_low around) (steps.in_sign unary a.0 found a.2.0 inner))
outwards whole (pending.Operator (operator.Infix binary left) ∷ around) line found a h =
    let inner = rw a.2.after at h in
    outwards whole around a.0 found a.1
    (fault_looser (wanted_in around) (level_of binary) a.0 found a.2.binds
    (steps.in_right (level_of binary) binary a.0 a.2.from_operator left found a.2.reads (operator_stands a.2.from_operator binary a.2.stands) inner))

-- ---- an operator with its right operand

stops_right : (level : ℕ) (binary : Binary) (line : Line) → level ≤ level_of binary → Stops (level + 1) line
    → Stops (level_of binary + 1) line
stops_right level binary line le s = stops_above (level_of binary - level) (level + 1) (level_of binary + 1) line (omega arith) s

-- the right operand, read whole
right_operand : (level : ℕ) (whole : Line) (binary : Binary) (left : ℤ) (around : List Pending) (line : Line) (x : ℤ)
    → level ≤ level_of binary → Stops (level + 1) line
    → (h : HasOperand level whole (pending.Operator (operator.Infix binary left) ∷ around) line x)
    → Reads (level_of binary + 1) (level_of binary + 1) (after_next h.awaits.2.from_operator) line x
right_operand level whole binary left around line x le s h =
    let r = reads_stopped h.binding (h.binding + 1) (level_of binary + 1) h.start line x (stops_right level binary line le s) h.reads in
    let fits = reads_looser (level_of binary + 1) h.binding (level_of binary + 1) h.start line x h.wanted r in
    rw h.awaits.2.after at fits

-- the operand of an operator in front of it
signed_operand : (level : ℕ) (whole : Line) (unary : Unary) (around : List Pending) (line : Line) (x : ℤ)
    → (h : HasOperand level whole (pending.Operator (operator.Prefix unary) ∷ around) line x)
    → Reads 10 10 (after_next h.awaits.0) line x
signed_operand level whole unary around line x h =
    let r = reads_stopped h.binding (h.binding + 1) 10 h.start line x (operand_stops line) h.reads in
    let fits = reads_looser 10 h.binding 10 h.start line x h.wanted r in
    rw h.awaits.2.1 at fits

-- The value of the innermost operator is an operand of what it stands in.
pub computed : (level : ℕ) (whole : Line) (op : Operator) (around : List Pending) (line : Line) (x v : ℤ) → level ≤ 9
    → level ≤ operator_level op → Stops (level + 1) line → HasOperand level whole (pending.Operator op ∷ around) line x
    → operation op x ≡ Ok v → HasOperand level whole around line v
computed level whole (operator.Prefix unary) around line x v low tight s h is = record {
  start = h.awaits.0;
  awaits = h.awaits.1;
  binding = 10;
  wanted = wanted_low around;
  tight = omega arith;
  reads = reads_stopped 10 10 11 h.awaits.0 line v (stops_eleven line)
      (read_signed unary h.awaits.0 line x v h.awaits.2.0 (signed_operand level whole unary around line x h) is);
}
computed level whole (operator.Infix binary left) around line x v low tight s h is = record {
  start = h.awaits.0;
  awaits = h.awaits.1;
  binding = level_of binary;
  wanted = h.awaits.2.binds;
  tight = tight;
  reads = read_operation (level_of binary) binary h.awaits.0 h.awaits.2.from_operator line left x v h.awaits.2.reads
      (operator_stands h.awaits.2.from_operator binary h.awaits.2.stands) (right_operand level whole binary left around line x tight s h) is;
}

-- An operator without a value is a fault of the whole line.
pub not_computed : (level : ℕ) (whole : Line) (op : Operator) (around : List Pending) (line : Line) (x : ℤ) (found : Found)
    → level ≤ operator_level op → Stops (level + 1) line → HasOperand level whole (pending.Operator op ∷ around) line x
    → located (computed_at op line) (operation op x) ≡ Err found → IsFault 0 whole found
not_computed level whole (operator.Prefix unary) around line x found tight s h is =
    let at = h.awaits.0 in
    outwards whole around at found h.awaits.1
    (fault_looser (wanted_in around) 10 at found (wanted_low around)
    (steps.sign_fails unary at line x found h.awaits.2.0 (signed_operand level whole unary around line x h) is))
not_computed level whole (operator.Infix binary left) around line x found tight s h is =
    let at = h.awaits.0 in
    outwards whole around at found h.awaits.1
    (fault_looser (wanted_in around) (level_of binary) at found h.awaits.2.binds
    (steps.operation_fails (level_of binary) binary at h.awaits.2.from_operator line left x found h.awaits.2.reads
    (operator_stands h.awaits.2.from_operator binary h.awaits.2.stands) (right_operand level whole binary left around line x tight s h) is))
