-- What adding definitions does to a preprocessor. No contract of a public call cites this.
use Rattle.std.specs.Prelude.{◌≡◌, List, All, ⊤}
use Rattle.pp_rs.specs.Comes.{State}
use Rattle.pp_rs.specs.Kept.{Preprocessing, Stands, is_spent, rules_of}
use Rattle.pp_print.specs.Runs.{IsAccepted}
use Rattle.pp_print.specs.SourceRuns.{Definition, Adds}
use Rattle.pp_print.specs.declared.ends.RunFault.{RunFault}
use Rattle.pp_print.specs.declared.ends.RunFault.TheVariants.{BadWord, OutOfMemory}

-- All definitions are accepted. For each state that the preprocessor stood for, it now stands for the state after they
-- were added. The rules stay.
pub record AreAdded (old : Preprocessing) (definitions : List Definition) (new : Preprocessing) : Type 0 where
  pub accepted : All IsAccepted definitions
  pub stands : (state : State) → Stands old state → (after : State) × Adds state definitions after × Stands new after
  pub spent : is_spent new ≡ is_spent old
  pub rules : rules_of new ≡ rules_of old

-- a fault in adding definitions: a bad one has the cause, or memory ran out
abbrev pub IsAddingFault : RunFault → Type 0 → Type 0
IsAddingFault BadWord Cause = Cause
IsAddingFault OutOfMemory Cause = ⊤
IsAddingFault _ Cause = ⊥
