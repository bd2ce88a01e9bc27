use Rattle.std.proofs.Common.{◌≡◌, None}
use Rattle.pp_macros.specs.inner.Giving.{GivesEach}
use Rattle.pp_macros.specs.inner.Left.{work_of, IsSound}
use Rattle.pp_macros.specs.inner.Nesting.{seen_by}
use Rattle.pp_macros.specs.inner.Reader.{of_list}
use Rattle.pp_macros.specs.inner.Reading.{AllReadOrdinary}
use Rattle.pp_macros.proofs.macro_processor.MacroProcessor.give_frames.Given as goal

-- what was given so far
abbrev pub invariant-turns : goal.invariant-turns
invariant-turns l = record {
  gives : GivesEach (seen_by l.fn.self.below (of_list l.fn.list)) l.fn.self.here l.fn.items.items l.self.here l.items.items;
  sound : IsSound l.self.here (seen_by l.fn.self.below (of_list l.fn.list));
  holds : AllReadOrdinary l.items.items;
  free : l.self.here.held ≡ None;
  below : l.self.below ≡ l.fn.self.below;
}

abbrev pub decreases-turns : goal.decreases-turns
decreases-turns l = work_of 0 l.self.here (seen_by l.fn.self.below (of_list l.fn.list))
