use Rattle.std.proofs.Common.{◌∙◌, sym, vec_len}
use Rattle.pp_macros.proofs.open_frames.BaseLemmas.{passes_here, closes_here, stays_here, kept_here}
use Rattle.pp_macros.proofs.open_frames.OpenMacroLemmas.{has_step}
use Rattle.pp_macros.proofs.macro_processor.MacroProcessor.pass_pause.Goals as goal

-- a pause
pub invariant_of-self-else-not-pass_pause : goal.invariant_of-self-else-not-pass_pause
invariant_of-self-else-not-pass_pause c =
    let kept = kept_here c.self.inside.held c.self.inside.base c.self.inside.frames.items c.args.self.now c.self.view_is
    c.requires.open c.in-Some.frame.now (vec_len c.self.inside.frames) c.self.inside.frames.ok.0 c.in-Some.ensures.value
    c.pass_pause.new.self c.self.inside.counts.items c.pass_pause.ensures.number c.self.invariant.0 in
    (kept.0, c.self.invariant.1, kept.1)

pub returns-else-not-pass_pause : goal.returns-else-not-pass_pause
returns-else-not-pass_pause c =
    passes_here c.self.inside.held c.self.inside.base c.self.inside.frames.items c.args.self.now c.self.view_is
    c.requires.open c.in-Some.frame.now (vec_len c.self.inside.frames) c.self.inside.frames.ok.0 c.in-Some.ensures.value
    c.pass_pause.new.self (has_step _ (sym c.pass_pause.ensures.some ∙ c.if-not-pass_pause.false)) c.pass_pause.ensures.step

-- the end of a frame
pub invariant_of-self : goal.invariant_of-self
invariant_of-self c =
    let kept = kept_here c.self.inside.held c.self.inside.base c.self.inside.frames.items c.args.self.now c.self.view_is
    c.requires.open c.in-Some.frame.now (vec_len c.self.inside.frames) c.self.inside.frames.ok.0 c.in-Some.ensures.value
    c.pass_pause.new.self c.self.inside.counts.items c.pass_pause.ensures.number c.self.invariant.0 in
    (kept.0, c.self.invariant.1, kept.1)

pub close-requires : goal.close-requires
close-requires c =
    stays_here c.self.inside.held c.self.inside.base c.self.inside.frames.items c.args.self.now c.self.view_is
    c.requires.open c.in-Some.frame.now (vec_len c.self.inside.frames) c.self.inside.frames.ok.0 c.in-Some.ensures.value
    c.pass_pause.new.self

pub returns-then-not-pass_pause : goal.returns-then-not-pass_pause
returns-then-not-pass_pause c =
    closes_here c.self.inside.held c.self.inside.base c.self.inside.frames.items c.args.self.now c.self.view_is
    c.requires.open c.in-Some.frame.now (vec_len c.self.inside.frames) c.self.inside.frames.ok.0 c.in-Some.ensures.value
    c.pass_pause.new.self _ (sym c.pass_pause.ensures.some ∙ c.if-not-pass_pause.true) c.close.ensures
