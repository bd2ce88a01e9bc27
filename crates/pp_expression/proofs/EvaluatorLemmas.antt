-- Steps of the evaluator.
use Rattle.std.proofs.Common.{◌≡◌, ℕ, ◌+◌, ◌≤◌, List, [], ◌∷◌, length, Some, None, Result, Ok, Err, ℤ, refl, arith}
use Rattle.std.specs.Prelude.{MatchResult}
use Rattle.std.specs.Result.{IsErrAnd}
use Rattle.pp_expression.specs.declared.operator.Binary.{Binary}
use Rattle.pp_expression.specs.declared.halt.Halt.{Halt}
use Rattle.pp_expression.specs.declared.halt.Halt.TheVariants as halt
use Rattle.pp_expression.specs.declared.pending.Operator.{Operator}
use Rattle.pp_expression.specs.declared.pending.Operator.TheVariants as operator
use Rattle.pp_expression.specs.declared.pending.Pending.{Pending}
use Rattle.pp_expression.specs.declared.pending.Pending.TheVariants as pending
use Rattle.pp_expression.specs.declared.symbol.Found.{Found}
use Rattle.pp_expression.specs.Operators.{level_of}
use Rattle.pp_expression.specs.Arithmetic.{literal}
use Rattle.pp_expression.specs.Lines.{Line, next, Stops, Reads}
use Rattle.pp_expression.specs.inner.Parsing.{after_next, sign_at, atom_at, closing_at, binary_at, located, IsFault}
use Rattle.pp_expression.specs.inner.Pending.{innermost, outer, wanted_in, Awaits, HasOperand}
use Rattle.pp_expression.specs.inner.Evaluator.{IsHalt}
use Rattle.pp_expression.proofs.Trees.{operand_stops, read_number, read_group}
use Rattle.pp_expression.proofs.Steps as steps
use Rattle.pp_expression.proofs.PendingLemmas.{operator_stops, end_stops, next_unread, stops_eleven, wanted_low}
use Rattle.pp_expression.proofs.PendingLemmas.{reads_looser, reads_stopped, fault_looser, outwards}

-- what ended a part of the evaluation ends it
pub ends : {A : Type 0} (Goes : A → Type 0) (whole : Line) (why : Halt) (r : Result A Halt) → IsErrAnd r (λ h. h ≡ why)
    → IsHalt whole why → MatchResult r Goes (IsHalt whole)
ends goes whole why (Ok x) is halts = absurd is
ends goes whole why (Err h) is halts = rw is halts

-- a fault of the whole line ends the evaluation
pub halts : {A : Type 0} (Goes : A → Type 0) (whole : Line) (found : Found) (r : Result A Halt)
    → IsErrAnd r (λ h. h ≡ halt.Fault found) → IsFault 0 whole found → MatchResult r Goes (IsHalt whole)
halts goes whole found r is fault = ends goes whole (halt.Fault found) r is fault

-- ---- after an operand, where the next symbol isn't read

-- the symbol after an operand isn't read
pub unread_after_operand : (whole : Line) (waiting : List Pending) (line : Line) (v : ℤ) (found : Found) → wanted_in waiting ≤ 9
    → HasOperand 9 whole waiting line v → located (length line.symbols) (binary_at line) ≡ Err found → IsFault 0 whole found
unread_after_operand whole waiting line v found low h e =
    let stopped = reads_stopped h.binding (h.binding + 1) 10 h.start line v (operand_stops line) h.reads in
    let reads = reads_looser 9 h.binding 10 h.start line v h.tight stopped in
    outwards whole waiting h.start found h.awaits
    (fault_looser (wanted_in waiting) 9 h.start found low
    (steps.not_read_after 9 h.start line v found (omega arith) reads (next_unread (next line) 9 (length line.symbols) found e)))

-- ---- where an operand is wanted

operand_fault : (whole : Line) (waiting : List Pending) (line : Line) (found : Found) → Awaits whole waiting line
    → IsFault 10 line found → IsFault 0 whole found
operand_fault whole waiting line found a h =
    outwards whole waiting line found a (fault_looser (wanted_in waiting) 10 line found (wanted_low waiting) h)

pub sign_unread : (whole : Line) (waiting : List Pending) (line : Line) (found : Found) → Awaits whole waiting line
    → located (length line.symbols) (sign_at line) ≡ Err found → IsFault 0 whole found
sign_unread whole waiting line found a h = operand_fault whole waiting line found a (steps.sign_unread line found h)

pub no_operand : (whole : Line) (waiting : List Pending) (line : Line) (found : Found) → Awaits whole waiting line
    → sign_at line ≡ Ok None → located (length line.symbols) (atom_at line) ≡ Err found → IsFault 0 whole found
no_operand whole waiting line found a none h = operand_fault whole waiting line found a (steps.atom_fails line found none h)

-- an operand that was read to its end
pub operand_read : (level : ℕ) (whole : Line) (waiting : List Pending) (start line : Line) (v : ℤ) → level ≤ 10
    → Awaits whole waiting start → Reads 10 10 start line v → HasOperand level whole waiting line v
operand_read level whole waiting start line v low a r = grind (arith, wanted_low, stops_eleven)

pub number_read : (whole : Line) (waiting : List Pending) (line : Line) (n : ℕ) → Awaits whole waiting line
    → located (length line.symbols) (atom_at line) ≡ Ok (Some n) → HasOperand 9 whole waiting (after_next line) (literal n)
number_read whole waiting line n a h =
    operand_read 9 whole waiting line (after_next line) (literal n) (omega arith) a (read_number line n (steps.numbers line n h))

-- ---- after an operand

pub looser_operand : (level : ℕ) (whole : Line) (waiting : List Pending) (line : Line) (v : ℤ) → level ≤ 9
    → HasOperand 9 whole waiting line v → HasOperand level whole waiting line v
looser_operand level whole waiting line v low h = grind arith

-- the whole expression of a level, with nothing of it after the line
whole_operand : (level : ℕ) (whole : Line) (waiting : List Pending) (line : Line) (v : ℤ) (stop : ℕ) → Stops stop line
    → (h : HasOperand level whole waiting line v) → Reads level stop h.start line v
whole_operand level whole waiting line v stop stops h =
    reads_looser level h.binding stop h.start line v h.tight (reads_stopped h.binding (h.binding + 1) stop h.start line v stops h.reads)

-- After its left operand an operator is pending.
pub operator_taken : (whole : Line) (waiting : List Pending) (line : Line) (o : Binary) (v : ℤ) → wanted_in waiting ≤ level_of o
    → HasOperand (level_of o) whole waiting line v → binary_at line ≡ Ok (Some o)
    → Awaits whole (pending.Operator (operator.Infix o v) ∷ waiting) (after_next line)
operator_taken whole waiting line o v loose h e = (
  h.start,
  h.awaits,
  record {
    from_operator = line;
    binds = loose;
    reads = whole_operand (level_of o) whole waiting line v (level_of o + 1) (operator_stops line o e) h;
    stands = e;
    after = refl;
  },
)

-- With nothing pending, the expression of the whole line is over.
pub expression_ended : (whole : Line) (waiting : List Pending) (line : Line) (v : ℤ) → innermost waiting ≡ None
    → HasOperand 0 whole waiting line v → binary_at line ≡ Ok None → Reads 0 0 whole line v
expression_ended whole [] line v none h e = rw (← h.awaits) (whole_operand 0 whole [] line v 0 (end_stops line e) h)
expression_ended whole (inner ∷ around) line v none h e = cc

nothing_waits : (op : Operator) → wanted_in (pending.Operator op ∷ []) ≤ 0 → ⊥
nothing_waits (operator.Prefix unary) low = omega arith
nothing_waits (operator.Infix o left) low = omega arith

group_end : (whole : Line) (around : List Pending) (line : Line) (v : ℤ)
    → (h : HasOperand 0 whole (pending.Group ∷ around) line v) → binary_at line ≡ Ok None
    → Reads 0 0 (after_next h.awaits.0) line v
group_end whole around line v h e =
    let reads = whole_operand 0 whole (pending.Group ∷ around) line v 0 (end_stops line e) h in rw h.awaits.2.1 at reads

-- What is in parentheses is over, and they are closed.
pub group_closed : (whole : Line) (waiting : List Pending) (line : Line) (v : ℤ) (inner : Pending)
    → innermost waiting ≡ Some inner → wanted_in waiting ≤ 0 → HasOperand 0 whole waiting line v → binary_at line ≡ Ok None
    → located (length line.symbols) (closing_at line) ≡ Ok tt → HasOperand 9 whole (outer waiting) (after_next line) v
group_closed whole [] line v inner is low h e close = cc
group_closed whole (pending.Group ∷ around) line v inner is low h e close =
    operand_read 9 whole around h.awaits.0 (after_next line) v (omega arith) h.awaits.1
    (read_group h.awaits.0 line v h.awaits.2.0 (group_end whole around line v h e) (steps.closes line close))
group_closed whole (pending.Operator op ∷ around) line v inner is low h e close = absurd (nothing_waits op low)

-- They aren't closed.
pub group_open : (whole : Line) (waiting : List Pending) (line : Line) (v : ℤ) (inner : Pending) (found : Found)
    → innermost waiting ≡ Some inner → wanted_in waiting ≤ 0 → HasOperand 0 whole waiting line v → binary_at line ≡ Ok None
    → located (length line.symbols) (closing_at line) ≡ Err found → IsFault 0 whole found
group_open whole [] line v inner found is low h e close = cc
group_open whole (pending.Group ∷ around) line v inner found is low h e close =
    operand_fault whole around h.awaits.0 found h.awaits.1
    (steps.closing_fails h.awaits.0 line v found h.awaits.2.0 (group_end whole around line v h e) close)
group_open whole (pending.Operator op ∷ around) line v inner found is low h e close = absurd (nothing_waits op low)
