use Rattle.std.proofs.Common.{◌≡◌, take, subst, arith}
use Rattle.std.specs.Prelude.{All}
use Rattle.std.proofs.lemmas.List.{take_all}
use Rattle.std.proofs.lemmas.List.Elements.{All-more}
use Rattle.glslpp_parts.specs.Definitions.{IsDefinable}
use Rattle.glslpp_parts.proofs.definitions.check_changes.Goals as goal

pub loop-change-preserved : goal.loop-change-preserved
loop-change-preserved c =
    All-more IsDefinable c.args.changes.now c.loop-change.change-index _ (omega arith) c.loop-change.invariant c.in_ok-check_change.ensures.ok

pub returns-clause-ok : goal.returns-clause-ok
returns-clause-ok c =
    let all : take c.loop-change.change-index c.args.changes.now ≡ c.args.changes.now = take_all c.loop-change.change-index c.args.changes.now (omega arith) in
    subst (All IsDefinable) all c.loop-change.invariant
