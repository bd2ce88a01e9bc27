-- What a step of the preprocessor's source means for the definitions' reader of it, which goes on after faults.
use Rattle.std.proofs.Common.{◌≡◌, ℕ, true, false, drop, Option, Some, None}
use Rattle.std.specs.Prelude.{Ok, Err}
use Rattle.pp_lexer.specs.declared.token.Token.{Token}
use Rattle.pp_model.specs.Acts.{Acted}
use Rattle.pp_model.specs.Places.{PlacedFault}
use Rattle.pp_model.specs.Emitting.{answers_at, expansion_limit}
use Rattle.pp_model.specs.Onward.{act_on, is_of_items, IsPastFault}
use Rattle.pp_model.specs.Reads.{Does}
use Rattle.pp_model.specs.SourceReader.{SourceReader}
use Rattle.pp_model.specs.declared.read.Read.{Read}
use Rattle.pp_model.specs.declared.read.Taken.{Taken}
use Rattle.pp_model.specs.declared.read.Taken.TheVariants as taken
use Rattle.pp_macros.specs.Item.{PlacedStep, wants_memory}
use Rattle.pp_macros.specs.inner.Reader.{ReadsSource}
use Rattle.pp_macros.specs.inner.Reading.{unpainted_step}
use Rattle.pp_macros.specs.inner.Source.{Source}
use Rattle.pp_rs.specs.inner.StandsPast.{dead_count}
use Rattle.pp_rs.specs.inner.Stands.{StandsForReader}
use Rattle.pp_macros.specs.declared.step.PlacedExit.TheVariants.{Error, Continue, Finished}

-- what the items at the reader's position do, if the outermost `n` blocks there are dead
abbrev pub acts_past : ℕ → SourceReader → Acted
acts_past n r = act_on n (drop r.position r.items) r

-- A step of reading on, without the texts that it makes dead: it isn't a fault of the items, or such a fault is passed.
pub data GoesOn (n : ℕ) (r : SourceReader) (given : Option Taken) (t : SourceReader) : Type 0 where
  went : Does (answers_at expansion_limit) r (acts_past n r).step (acts_past n r).after given t
      → is_of_items r given ≡ false
      → GoesOn n r given t
  fell : (fault : PlacedFault) (s : SourceReader)
      → Does (answers_at expansion_limit) r (acts_past n r).step (acts_past n r).after given s
      → is_of_items r given ≡ true
      → given ≡ Some (taken.Fault fault)
      → IsPastFault (answers_at expansion_limit) n r (acts_past n r).step t
      → GoesOn n r given t

-- the reader goes on, and the source stands for it
pub record Simulated (given : Option Taken) (old : Source) (r : SourceReader) (new : Source) : Type 0 where
  pub after : SourceReader
  pub goes : GoesOn (dead_count old.dead_for_good) r given after
  pub stands : StandsForReader new after

-- what a step gives
abbrev pub given_by : PlacedStep Read → Option Taken
given_by (Ok read) = Some (taken.Token read)
given_by (Err Continue) = None
given_by (Err Finished) = Some taken.End
given_by (Err (Error fault)) = Some (taken.Fault fault)

abbrev pub Simulates : PlacedStep Read → Source → SourceReader → Source → Type 0
Simulates step old r new = Simulated (given_by step) old r new

-- the same of what its text gives, unpainted
abbrev pub SimulatesIn : PlacedStep Token → Source → SourceReader → Source → Type 0
SimulatesIn given old r new = Simulates (unpainted_step old.text given) old r new

-- each step of a source, unless memory was refused
abbrev pub SourceSimulates : Type 0
SourceSimulates =
    (old new : Source) (r : SourceReader) (step : PlacedStep Read) → StandsForReader old r → ReadsSource old step new
    → wants_memory step ≡ false → Simulates step old r new
