use Rattle.std.proofs.Common.{◌∙◌, sym, arith, append_assoc}
use Rattle.std.proofs.lemmas.Grind.{common_steps}
use Rattle.pp_reference.proofs.calls.arguments_of.Goals as goal

pub loop-read-preserved : goal.loop-read-preserved
loop-read-preserved c = record {
  cut = rw (c.in_ok-push-2.ensures.items, append_assoc, c.nesting_after-after.ensures.is)
      (rw (c.in-Some.ensures, sym c.ends_argument.ensures ∙ c.if-ends_argument.false) at c.loop-read.invariant.cut);
  few = grind (arith, common_steps);
}
