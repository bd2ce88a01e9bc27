use Rattle.std.proofs.Common.{◌≤◌}
use Rattle.pp_model.specs.Emitting.{answers_at}
use Rattle.pp_model.specs.LineWords.{LineWords, Words}
use Rattle.pp_reference.specs.inner.Seen.{seen}
use Rattle.pp_reference.specs.inner.SeenList.{line_state}
use Rattle.pp_model.proofs.values.WordLemmas.{after_words}
use Rattle.pp_reference.proofs.line_words.read_into.Given as goal

abbrev pub invariant-words : goal.invariant-words
invariant-words l = record {
  goes_on : (rest : Words) → LineWords l.kind l.directive (answers_at l.levels) (seen line_state l.expander) rest
      → LineWords l.kind l.directive (answers_at l.levels) (seen line_state l.initial.expander) (after_words l.words.items rest);
  spent : l.budget.steps ≤ l.initial.budget.steps;
}

abbrev pub decreases-words : goal.decreases-words
decreases-words l = l.budget.steps
