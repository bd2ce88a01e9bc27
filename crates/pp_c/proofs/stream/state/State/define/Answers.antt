use Rattle.std.proofs.Common.{◌∙◌, refl, sym}
use Rattle.pp_c.proofs.CallLemmas.{defines_added, defines_refused}
use Rattle.pp_c.proofs.stream.state.State.define.Goals as goal
use Rattle.pp_c.proofs.stream.state.State.define.Goals.{in-Ok-add_define, in-Err+else-is_out_of_memory}

pub returns-clause-defines : goal.returns-clause-defines
returns-clause-defines c =
    let name_is = (c.in-Ok.ensures {u = tt}).cases.0 in
    let content_is = (c.in_ok-content.ensures {u = tt}).same in
    elim c.match-add_define.branch [
      | in-Ok-add_define w ↦ rw (w.result-is, ← c.self.view_is, ← name_is, ← content_is)
          (defines_added _ _ c.in_default.is refl refl refl _ _ (w.in-Ok-add_define.ensures {u = tt}))
      | in-Err+else-is_out_of_memory w ↦ rw (w.result-is, ← c.self.view_is, ← name_is, ← content_is)
          (defines_refused _ _ c.in_default.is refl refl refl _ _ (w.in-Err.error, w.in-Err.place) (sym w.is_out_of_memory.ensures ∙ w.if-is_out_of_memory.false)
          (w.in-Err.ensures {u = tt}))
    ]
