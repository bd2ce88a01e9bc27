use Rattle.pp_model.specs.Emitting.{answers_at, expansion_limit}
use Rattle.pp_model.specs.Onward.{Onward, ReadsOn}
use Rattle.pp_model.specs.declared.read.Taken.{Taken}
use Rattle.pp_reference.specs.inner.SeenSource.{source_state}
use Rattle.std.proofs.Common.{◌≤◌}
use Rattle.pp_reference.proofs.source.SourceReaderImpl.read.Given as goal

-- what is read from here on is what was to be read from the start
abbrev pub invariant-lines : goal.invariant-lines
invariant-lines l = record {
  goes_on : (x : Taken) (t : Onward) → ReadsOn (answers_at expansion_limit) (source_state l.self) x t
      → ReadsOn (answers_at expansion_limit) (source_state l.initial.self) x t;
  spent : l.budget.steps ≤ l.initial.budget.steps;
}

abbrev pub decreases-lines : goal.decreases-lines
decreases-lines l = l.budget.steps
