use Rattle.std.proofs.Common.{ap}
use Rattle.pp_macros.specs.inner.Bodies.{BodyTokens, IsFound}
use Rattle.pp_macros.proofs.defined_names.BodyLemmas.{found_more}
use Rattle.pp_macros.proofs.define.Body.put.Goals as goal
use Rattle.pp_macros.proofs.define.Body.put.Goals.{then-is_empty+in_ok-reserve, else-is_empty}

pub invariant_of-self-2 : goal.invariant_of-self-2
invariant_of-self-2 c =
    let found : IsFound c.self.inside.parameters c.args.entry = rw (ap (λ (body : BodyTokens). body.parameters) c.self.view_is) c.requires.found in
    let more = found_more c.self.inside.parameters c.self.inside.entries.items c.args.entry c.self.invariant found c.requires.bare in
    rw (c.in_ok-push.ensures.items)
    (elim c.if-is_empty.branch [
      | then-is_empty+in_ok-reserve w ↦ rw (w.self-inside-is, w.in_ok-reserve.ensures.items) more
      | else-is_empty w ↦ rw (w.self-inside-is) more
    ])
