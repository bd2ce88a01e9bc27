use Rattle.std.proofs.Common.{◌≤◌, ◌+◌, ◌*◌, List, drop}
use Rattle.std.specs.Prelude.{Result}
use Rattle.pp_reference.specs.inner.Changes.{meaning_of}
use Rattle.pp_model.specs.Places.{PlacedFault}
use Rattle.pp_model.specs.Emitting.{Each, Alone, Collects, answers_at}
use Rattle.pp_model.specs.Reading.{Expander, Listed, argument_reading}
use Rattle.pp_reference.specs.inner.Seen.{seen, EmitsFrom}
use Rattle.pp_reference.specs.inner.SeenList.{list_state}
use Rattle.pp_model.specs.declared.read.Read.{Read}
use Rattle.pp_reference.specs.declared.emitted.Emitted.{Emitted}
use Rattle.pp_model.proofs.calls.CollectLemmas.{after_items}
use Rattle.pp_reference.proofs.expand.+answers.Given as goal

abbrev pub decreases-answer : goal.decreases-answer
decreases-answer l = 6 * l.levels

abbrev pub decreases-answer_alone : goal.decreases-answer_alone
decreases-answer_alone l = 6 * l.levels + 1

abbrev pub decreases-emit_alone : goal.decreases-emit_alone
decreases-emit_alone l = 6 * l.levels + 2

abbrev pub decreases-collect : goal.decreases-collect
decreases-collect l = 6 * l.levels + 3

abbrev pub decreases-expand_argument : goal.decreases-expand_argument
decreases-expand_argument l = 6 * l.levels + 4

abbrev pub decreases-expand_arguments : goal.decreases-expand_arguments
decreases-expand_arguments l = 6 * l.levels + 5

abbrev pub invariant-emit_alone-turns : goal.invariant-emit_alone-turns
invariant-emit_alone-turns l = record {
  goes_on : (item : Emitted) (end : Expander Listed) → EmitsFrom argument_reading (answers_at l.levels) (seen list_state l.expander) item end
      → EmitsFrom argument_reading (answers_at l.levels) (seen list_state l.initial.expander) item end;
  spent : l.budget.steps ≤ l.initial.budget.steps;
}

abbrev pub decreases-emit_alone-turns : goal.decreases-emit_alone-turns
decreases-emit_alone-turns l = l.budget.steps

abbrev pub invariant-collect-items : goal.invariant-collect-items
invariant-collect-items l = record {
  goes_on : (out : Result (List Read) PlacedFault) → Collects argument_reading (answers_at l.levels) (seen list_state l.expander) out
      → Collects argument_reading (answers_at l.levels) (seen list_state l.initial.expander) (after_items l.items.items out);
  spent : l.budget.steps ≤ l.initial.budget.steps;
}

abbrev pub decreases-collect-items : goal.decreases-collect-items
decreases-collect-items l = l.budget.steps

abbrev pub invariant-expand_arguments-loop-argument : goal.invariant-expand_arguments-loop-argument
invariant-expand_arguments-loop-argument l = record {
  goes_on : (out : Result (List (List Read)) PlacedFault) → Each (Alone l.levels) l.numbering (meaning_of l.visible) l.hidden (drop l.argument-index l.arguments) out
      → Each (Alone l.levels) l.numbering (meaning_of l.visible) l.hidden l.arguments (after_items l.expanded.items out);
  spent : l.budget.steps ≤ l.initial.budget.steps;
}
