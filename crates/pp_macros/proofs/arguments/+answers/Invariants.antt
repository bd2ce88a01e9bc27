use Rattle.std.proofs.Common.{◌≡◌, ◌+◌, ◌*◌, List, ◌++◌, length, drop}
use Rattle.std.specs.Prelude.{None, Result}
use Rattle.pp_model.specs.Places.{PlacedFault}
use Rattle.pp_model.specs.declared.read.Read.{Read}
use Rattle.pp_model.specs.Emitting.{Each, Alone}
use Rattle.pp_model.proofs.calls.CollectLemmas.{after_items}
use Rattle.pp_macros.specs.inner.Defined.{meaning_of}
use Rattle.pp_macros.specs.inner.Finishing.{AreShort}
use Rattle.pp_macros.specs.inner.Frames.{names_of}
use Rattle.pp_macros.specs.inner.Nesting.{listed_in, open_names, seen_by}
use Rattle.pp_macros.specs.inner.Parts.{addition, lists_of, AreInOrder}
use Rattle.pp_macros.specs.inner.Reading.{AllReadOrdinary}
use Rattle.pp_macros.specs.inner.Left.{work_of}
use Rattle.pp_macros.specs.inner.Reader.{of_list}
use Rattle.pp_macros.proofs.taking.ListLeadsLemmas.{Reached}
use Rattle.pp_macros.proofs.taking.PartLemmas.{AreLeft}
use Rattle.pp_macros.proofs.arguments.+answers.Given as goal

abbrev pub decreases-finish : goal.decreases-finish
decreases-finish l = 8 * l.levels + 1

abbrev pub decreases-expand_call : goal.decreases-expand_call
decreases-expand_call l = 8 * l.levels

abbrev pub decreases-expand_list : goal.decreases-expand_list
decreases-expand_list l = 8 * l.levels + 2

abbrev pub decreases-expand_argument : goal.decreases-expand_argument
decreases-expand_argument l = 8 * l.levels + 4

abbrev pub decreases-expand_parts : goal.decreases-expand_parts
decreases-expand_parts l = 8 * l.levels + 5

abbrev pub decreases-expand_arguments : goal.decreases-expand_arguments
decreases-expand_arguments l = 8 * l.levels + 6

-- what was added so far, and the state from which the rest comes
abbrev pub invariant-expand_list-calls : goal.invariant-expand_list-calls
invariant-expand_list-calls l = record {
  keeps : l.items.items ≡ l.fn.items.items ++ addition l.fn.items.items l.items.items;
  reached : Reached l.levels l.scope.numbering l.scope.definitions.now (names_of l.fn.processor.below) l.fn.lexer.tokens l.processor.here (listed_in l.processor.below l.lexer)
      (addition l.fn.items.items l.items.items);
  holds : AllReadOrdinary l.items.items;
  below : l.processor.below ≡ l.fn.processor.below;
  same : l.lexer.definitions ≡ l.scope.definitions.now;
  none : l.fault ≡ None;
}

abbrev pub decreases-expand_list-calls : goal.decreases-expand_list-calls
decreases-expand_list-calls l = work_of l.levels l.processor.here (seen_by l.processor.below (of_list l.lexer))

-- the lists so far, and the parts that are left
abbrev pub invariant-expand_parts-loop-part : goal.invariant-expand_parts-loop-part
invariant-expand_parts-loop-part l = record {
  goes_on : (out : Result (List (List Read)) PlacedFault)
      → Each (Alone l.levels) l.scope.numbering (meaning_of l.scope.definitions.now) (open_names l.fn.processor) (lists_of l.fn.tokens (drop l.part-index l.parts)) out
      → Each (Alone l.levels) l.scope.numbering (meaning_of l.scope.definitions.now) (open_names l.fn.processor) (lists_of l.fn.tokens l.parts) (after_items (lists_of l.items.items l.expanded.items) out);
  short : AreShort l.levels l.scope.definitions.now (lists_of l.fn.tokens l.parts) (lists_of l.items.items l.expanded.items);
  order : AreInOrder 0 l.expanded.items (length l.items.items);
  left : AreLeft l.fn.tokens l.tokens (drop l.part-index l.parts);
  holds : AllReadOrdinary l.items.items;
  same : l.processor ≡ l.fn.processor;
  none : l.fault ≡ None;
}
