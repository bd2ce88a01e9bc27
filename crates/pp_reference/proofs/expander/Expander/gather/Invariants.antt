use Rattle.std.specs.Prelude.{Result}
use Rattle.pp_model.specs.Places.{PlacedFault}
use Rattle.pp_model.specs.Reading.{Expander}
use Rattle.pp_model.specs.Calls.{Gathered, Gathers}
use Rattle.pp_reference.specs.inner.Seen.{seen}
use Rattle.pp_model.proofs.calls.GatherLemmas.{after_tokens}
use Rattle.std.proofs.Common.{◌≤◌}
use Rattle.pp_reference.proofs.expander.Expander.gather.Given as goal

abbrev pub invariant-tokens : goal.invariant-tokens
invariant-tokens g l = record {
  goes_on : (rest : Result Gathered PlacedFault) (end : Expander g.R.Reader.State)
      → Gathers g.R.Reader.reading l.depth l.last (seen g.R.Reader.state l.self) rest end
      → Gathers g.R.Reader.reading 0 l.fn.paren (seen g.R.Reader.state l.initial.self) (after_tokens l.tokens.items rest) end;
  spent : l.budget.steps ≤ l.initial.budget.steps;
}

abbrev pub decreases-tokens : goal.decreases-tokens
decreases-tokens g l = l.budget.steps
