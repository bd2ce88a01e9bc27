use Rattle.std.proofs.Common.{◌≡◌, ◌++◌, map, take, drop, All}
use Rattle.pp_rs.specs.Kept.{rules_of}
use Rattle.pp_c.specs.Calls.{answered_in, CanEnter}
use Rattle.pp_c.specs.inner.Settings.{takes_texts}
use Rattle.pp_c.specs.inner.Making.{HasAdded}
use Rattle.pp_c.proofs.preprocessing.give_all.Given as goal

abbrev pub invariant-loop-i : goal.invariant-loop-i
invariant-loop-i l =
    record {
      added : HasAdded l.setting l.fn.pp l.fn.output l.words l.fn.definitions l.i l.progress l.pp l.output;
      fit : All (CanEnter (takes_texts l.setting) l.words) (take l.i l.fn.definitions);
      written : l.definitions ≡ map (answered_in (takes_texts l.setting) (rules_of l.fn.pp) l.words) (take l.i l.fn.definitions) ++ drop l.i l.fn.definitions;
    }
