-- A line has one outcome: one value, or one first fault.
use Rattle.std.proofs.Common.{◌≡◌, ℕ, ◌+◌, ◌-◌, ◌≤◌, drop, length, Result, Ok, Err, ℤ, ap, sym, ◌∙◌, arith, length-append}
use Rattle.std.proofs.Math.Seq.{drop-append_seam}
use Rattle.pp_expression.specs.declared.symbol.Found.{Found}
use Rattle.pp_expression.specs.declared.symbol.Value.{Value}
use Rattle.pp_expression.specs.Trees.{spelling}
use Rattle.pp_expression.specs.Lines.{Line, Reads}
use Rattle.pp_expression.specs.FirstFault.{Before, IsFirst, IsValue, Evaluates}
use Rattle.pp_expression.proofs.Run.{Halt, Outcome, Level, Settles, settles_once}
use Rattle.pp_expression.proofs.Unique.{reads_settles}
use Rattle.pp_expression.proofs.First.{spot, found}
use Rattle.pp_expression.proofs.PossibleFaults.{Sooner, possible_by, no_fault}
use Rattle.pp_expression.proofs.Sound.{found_met}

-- An expression at the front of a line has one value, and one end.
pub one_value : (level : ℕ) (line rest other_rest : Line) (number other : ℤ) → level ≤ 10 → Reads level level line rest number
    → Reads level level line other_rest other → (number ≡ other) × (rest ≡ other_rest)
one_value level line rest other_rest number other low a b =
    let same : Ok (number, rest) ≡ Ok (other, other_rest) =
    settles_once (Level level) line (Ok (number, rest)) (Ok (other, other_rest)) (reads_settles level line rest number low a)
    (reads_settles level line other_rest other low b) in
    let pair : (number, rest) ≡ (other, other_rest) = cc in
    (ap (λ (z : ℤ × Line). z.0) pair, ap (λ (z : ℤ × Line). z.1) pair)

-- what is no later than a fault and no sooner is that fault
not_sooner : (halt bound : Halt) → Before bound.left bound.order halt.left halt.order → Sooner halt bound → halt ≡ bound
not_sooner halt bound h k = grind arith

-- The run finds the first fault.
first_settles : (level : ℕ) (line : Line) (fault : Found) → level ≤ 10 → (first : IsFirst level line fault)
    → Settles (Level level) line (found fault.left first.order fault.kind)
first_settles level line fault low first =
    let by = possible_by level line fault.left first.order fault.kind low first.possible in
    let possible = (found_met level line by.halt low by.ordered by.settles).possible in
    let same = not_sooner by.halt (spot fault.left first.order fault.kind) (first.first by.halt.left by.halt.order by.halt.kind possible) by.sooner in
    rw same at by.settles

abbrev broken : Halt → Outcome
broken halt = Err halt

same_halt : (a b : Halt) → broken a ≡ broken b → a ≡ b
same_halt a b e = cc

-- A line has one first fault, found at one place.
pub one_fault : (level : ℕ) (line : Line) (fault other : Found) → level ≤ 10 → IsFirst level line fault → IsFirst level line other → fault ≡ other
one_fault level line fault other low a b =
    let halt = spot fault.left a.order fault.kind in
    let other_halt = spot other.left b.order other.kind in
    let same = same_halt halt other_halt (settles_once (Level level) line (broken halt) (broken other_halt) (first_settles level line fault low a)
    (first_settles level line other low b)) in
    let made : Halt → Found = λ z. record { kind = z.kind; left = z.left } in
    ap made same

-- No line has both a value and a first fault.
pub not_both : (level : ℕ) (line rest : Line) (number : ℤ) (fault : Found) → level ≤ 10 → Reads level level line rest number → IsFirst level line fault → ⊥
not_both level line rest number fault low reads first = no_fault level line rest number fault.left first.order fault.kind low reads first.possible

-- ---- what an evaluation gives

same_value : (line : Line) (a b : Value) → IsValue line a → IsValue line b → a ≡ b
same_value line a b x y =
    let same = one_value 0 line x.rest y.rest a.value b.value (omega arith) x.reads y.reads in
    let left : a.left ≡ b.left = x.after ∙ ap (λ (rest : Line). length rest.symbols) same.1 ∙ sym y.after in
    let of_value : ℤ → Value = λ value. record { value = value; left = a.left } in
    let of_left : ℕ → Value = λ left. record { value = b.value; left = left } in
    ap of_value same.0 ∙ ap of_left left

-- An evaluation of a line passes one outcome.
pub one_outcome : (line : Line) (a b : Result Value Found) → Evaluates line a → Evaluates line b → a ≡ b
one_outcome line (Ok a) (Ok b) x y = ap Ok (same_value line a b x y)
one_outcome line (Err a) (Err b) x y = ap Err (one_fault 0 line a b (omega arith) x y)
one_outcome line (Ok a) (Err b) x y = absurd (not_both 0 line x.rest a.value b (omega arith) x.reads y)
one_outcome line (Err a) (Ok b) x y = absurd (not_both 0 line y.rest b.value a (omega arith) y.reads x)

-- What stands after the expression is as many symbols of the line's end as its value says.
pub rest_is : (line : Line) (found : Value) → (is : IsValue line found) → is.rest.symbols ≡ drop (length line.symbols - found.left) line.symbols
rest_is line found is =
    let words = spelling is.reads.tree in
    let all : length line.symbols ≡ length words + length is.rest.symbols = ap length is.reads.begins.symbols ∙ length-append words is.rest.symbols in
    let taken : length words ≡ length line.symbols - found.left = omega (arith, all, is.after) in
    rw (← taken, is.reads.begins.symbols) (sym (drop-append_seam words is.rest.symbols))
