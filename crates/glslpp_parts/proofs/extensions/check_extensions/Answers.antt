use Rattle.std.proofs.Common.{◌≡◌, ℕ, List, take, subst, arith}
use Rattle.std.specs.Borrow.{Bor}
use Rattle.std.specs.Prelude.{All}
use Rattle.std.proofs.lemmas.List.{take_all}
use Rattle.std.proofs.lemmas.List.Elements.{All-more}
use Rattle.glslpp_parts.specs.Definitions.{IsFreeName}
use Rattle.glslpp_parts.proofs.extensions.check_extensions.Goals as goal

abbrev IsFree : Bor (List ℕ) → Type 0
IsFree name = IsFreeName name.now

pub loop-name-preserved : goal.loop-name-preserved
loop-name-preserved c =
    All-more IsFree c.args.names.now c.loop-name.name-index _ (omega arith) c.loop-name.invariant c.in_ok-check_name.ensures.ok

pub returns-clause-ok : goal.returns-clause-ok
returns-clause-ok c =
    let all : take c.loop-name.name-index c.args.names.now ≡ c.args.names.now = take_all c.loop-name.name-index c.args.names.now (omega arith) in
    subst (All IsFree) all c.loop-name.invariant
