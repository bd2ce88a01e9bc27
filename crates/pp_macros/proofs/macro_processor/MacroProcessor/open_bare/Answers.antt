use Rattle.std.proofs.Common.{◌∙◌, length, ap, arith, refl, List, [], ◌∷◌, ◌++◌}
use Rattle.pp_macros.specs.inner.Defined.{Macro}
use Rattle.pp_macros.specs.inner.Frames.{Frame, new_frame, bare_call}
use Rattle.pp_macros.proofs.open_frames.BaseLemmas.{pushed_here, pushed_within}
use Rattle.pp_macros.proofs.open_frames.CountLemmas.{counted_put, put_least}
use Rattle.pp_macros.proofs.macro_processor.MacroProcessor.open_bare.Goals as goal

pub overflow_add-index_mut : goal.overflow_add-index_mut
overflow_add-index_mut c =
    let least = put_least c.self.inside.counts.items c.make_room.new.counts.items c.self.inside.frames.items c.number-number.result c.index_mut.result.now
    c.self.invariant.0 c.in_ok-make_room.ensures.same c.in_ok-make_room.ensures.room c.index_mut.ensures.value in
    omega (arith, least, c.push_reserved.ensures.len, c.push_reserved.new.self.small, ap length c.reserve.ensures.items)

pub invariant_of-self-2 : goal.invariant_of-self-2
invariant_of-self-2 c =
    rw (c.push_reserved.ensures.items, c.bare.ensures, c.reserve.ensures.items) (
      counted_put c.self.inside.counts.items c.make_room.new.counts.items c.self.inside.frames.items (new_frame c.args.opened.value (bare_call c.args.text c.args.name) []) c.number-number.result c.index_mut.result.now
          (c.number-number.ensures ∙ c.number.ensures ∙ ap (λ (m : Macro). m.number) c.deref-2.ensures) c.self.invariant.0 c.in_ok-make_room.ensures.same c.in_ok-make_room.ensures.room c.index_mut.ensures.value,
      c.self.invariant.1,
      pushed_within c.self.inside.base c.self.inside.frames.items _ _ c.self.invariant.2 refl,
    )

-- the frame is the innermost
pub returns-clause-ok : goal.returns-clause-ok
returns-clause-ok c =
    pushed_here c.self.inside.held c.self.inside.base c.self.inside.frames.items _ c.args.self.now _ c.self.view_is c.self.invariant.2
    (c.push_reserved.ensures.items ∙ ap (λ (fs : List Frame). fs ++ c.bare.result ∷ []) c.reserve.ensures.items
    ∙ ap (λ (f : Frame). c.self.inside.frames.items ++ f ∷ []) c.bare.ensures)
