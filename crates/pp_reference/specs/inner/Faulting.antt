-- What the plain program says of faults and of the steps that give them.
use Rattle.std.specs.Prelude.{◌≡◌, ℕ, Bool, false, ◌&&◌, Option, Some, None, option_map, is_none}
use Rattle.std.specs.Prelude.{Result, Ok, Err}
use Rattle.pp_lexer.specs.declared.token.Location.{Location}
use Rattle.pp_model.specs.Places.{in_text}
use Rattle.pp_model.specs.Calls.{Answers}
use Rattle.pp_model.specs.Numbering.{list_numbering}
use Rattle.pp_model.specs.SourceReader.{SourceReader}
use Rattle.pp_model.specs.Moves.{fails}
use Rattle.pp_model.specs.Acts.{Acted}
use Rattle.pp_model.specs.inner.Acts.{items_left}
use Rattle.pp_model.specs.Reads.{Does}
use Rattle.pp_model.specs.Faults.{is_shown, after_fault}
use Rattle.pp_model.specs.Onward as onward
use Rattle.pp_model.specs.Onward.{Onward, act_on, IsFirstNumber, dead_after}
use Rattle.pp_model.specs.declared.read.Taken.{Taken}
use Rattle.pp_model.specs.declared.read.Taken.TheVariants as taken
use Rattle.pp_model.specs.declared.step.Step.{Step}
use Rattle.pp_model.specs.declared.step.Step.TheVariants as step
use Rattle.pp_reference.specs.declared.stop.Halt.{Halt}
use Rattle.pp_reference.specs.declared.stop.Halt.TheVariants as halt
use Rattle.pp_reference.specs.declared.source_reader.stepping.Stepped.{Stepped}

-- it says whether the answer is a fault that is shown; of a stop it says nothing
abbrev pub IsShownBy : {A : Type 0} → Result A Halt → Bool → Type 0
IsShownBy (Ok value) shown = shown ≡ false
IsShownBy (Err (halt.Fault fault)) shown = shown ≡ is_shown (fails fault)
IsShownBy (Err (halt.Stop stop)) shown = ⊥

-- the place of the word of a `#line`, and the number of its first expression, if it has one
abbrev pub Counts : Answers → SourceReader → Step → Option (Location × ℕ) → Type 0
Counts A r (step.LineNumber word tokens) counted =
    (number : Option ℕ)
    × IsFirstNumber A (in_text r.text word) tokens (list_numbering r.rules r.line_offset) r.definitions number
    × (counted ≡ option_map (λ n. (word, n)) number)
Counts A r did counted = counted ≡ None

-- what an act gives, with the reader after it
pub record GivesBy (A : Answers) (acted : Acted) (old new : SourceReader) (stepped : Stepped) : Type 0 where
  pub does : Does A old acted.step acted.after stepped.taken new
  pub counts : Counts A old acted.step stepped.counted

-- what the items that are left give, if the outermost `n` blocks don't count
abbrev pub Gives : Answers → ℕ → SourceReader → SourceReader → Stepped → Type 0
Gives A n old new stepped = GivesBy A (act_on n (items_left old) old) old new stepped

-- the reader that counts its lines from there
abbrev pub numbered_by : SourceReader → Option (Location × ℕ) → SourceReader
numbered_by r None = r
numbered_by r (Some counted) = onward.numbered_by r counted.0 (Some counted.1)

-- a fault that asks for nothing, if items are left
abbrev pub is_fault_among : Bool → Option Taken → Bool
is_fault_among left (Some (taken.Fault fault)) = left && is_none fault.1.asks
is_fault_among left given = false

-- the source after a fault of the items at this position, if the outermost `n` blocks don't count
abbrev pub went_on : ℕ → ℕ → Option (Location × ℕ) → Onward → Onward
went_on position n counted o =
    let r = record o.reader { position = position } in
    record { reader = numbered_by (after_fault n r) counted; dead = dead_after n r o.dead }
