use Rattle.std.proofs.Common.{arith}
use Rattle.pp_lexer.specs.inner.Fronts.{is_quiet}
use Rattle.pp_lexer.proofs.characters.LanesLemmas.{passes_on}
use Rattle.pp_lexer.proofs.lexer.plain.lanes.quiet_length.Goals as goal

pub returns-then-run-lt-LANES-clause-passes : goal.returns-then-run-lt-LANES-clause-passes
returns-then-run-lt-LANES-clause-passes c =
    passes_on is_quiet c.args.bytes.now c.loads.at c.quiet_run-run.result c.loads.invariant.passes c.quiet_run-run.ensures.passes

pub loads-preserved : goal.loads-preserved
loads-preserved c = record {
  within = omega arith;
  passes = passes_on is_quiet c.args.bytes.now c.loads.at c.quiet_run-run.result c.loads.invariant.passes c.quiet_run-run.ensures.passes;
}
