use Rattle.std.proofs.Common.{◌≤◌}
use Rattle.pp_model.specs.Emitting.{answers_at}
use Rattle.pp_model.specs.Reading.{Expander}
use Rattle.pp_reference.specs.inner.Seen.{seen, EmitsFrom}
use Rattle.pp_reference.specs.declared.emitted.Emitted.{Emitted}
use Rattle.pp_reference.proofs.expand.emit.Given as goal

abbrev pub invariant-turns : goal.invariant-turns
invariant-turns g l = record {
  goes_on : (item : Emitted) (end : Expander g.R.Reader.State) → EmitsFrom g.R.Reader.reading (answers_at l.levels) (seen g.R.Reader.state l.expander) item end
      → EmitsFrom g.R.Reader.reading (answers_at l.levels) (seen g.R.Reader.state l.initial.expander) item end;
  spent : l.budget.steps ≤ l.initial.budget.steps;
}

abbrev pub decreases-turns : goal.decreases-turns
decreases-turns g l = l.budget.steps
