use Rattle.std.proofs.Common.{◌≡◌, None}
use Rattle.pp_macros.specs.inner.Finishing.{TurnsOver}
use Rattle.pp_macros.specs.inner.Left.{IsSound, work_of}
use Rattle.pp_macros.specs.inner.Nesting.{listed_in, seen_by}
use Rattle.pp_macros.specs.inner.Reader.{of_list}
use Rattle.pp_macros.specs.inner.Reading.{AllReadOrdinary}
use Rattle.pp_macros.proofs.arguments.next_call.Given as goal

-- the turns so far, and a state from which the macros may give
abbrev pub invariant-items : goal.invariant-items
invariant-items l = record {
  over : TurnsOver l.fn.processor.here (listed_in l.fn.processor.below l.fn.lexer) l.fn.items.items l.processor.here
      (listed_in l.processor.below l.lexer) l.items.items;
  sound : IsSound l.processor.here (seen_by l.processor.below (of_list l.lexer));
  holds : AllReadOrdinary l.items.items;
  below : l.processor.below ≡ l.fn.processor.below;
  same : l.lexer.definitions ≡ l.fn.lexer.definitions;
  none : l.fault ≡ None;
}

abbrev pub decreases-items : goal.decreases-items
decreases-items l = work_of 0 l.processor.here (seen_by l.processor.below (of_list l.lexer))
