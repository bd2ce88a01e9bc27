use Rattle.std.proofs.Common.{◌∙◌, ap, arith, length-drop, refl, sym}
use Rattle.pp_macros.specs.inner.Nesting.{with_frames}
use Rattle.pp_macros.proofs.open_frames.BaseLemmas.{none_here, some_frame}
use Rattle.pp_macros.proofs.macro_processor.MacroProcessor.close_all.Goals as goal

pub frames-init : goal.frames-init
frames-init c = refl

pub frames-preserved : goal.frames-preserved
frames-preserved c = rw (c.close.ensures, c.frames.invariant) refl

pub frames-smaller : goal.frames-smaller
frames-smaller c =
    let some = some_frame c.frames.self.here.frames (sym c.has_frames.ensures ∙ c.frames-test.true) in
    rw c.close.ensures (omega (arith, some, length-drop 1 c.frames.self.here.frames))

pub returns : goal.returns
returns c = c.frames.invariant ∙ ap (with_frames c.args.self.now) (none_here c.frames.self.here.frames (sym c.has_frames.ensures ∙ c.frames-test.false))
