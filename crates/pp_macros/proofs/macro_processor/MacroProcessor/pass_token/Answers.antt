use Rattle.std.proofs.Common.{vec_len}
use Rattle.pp_macros.proofs.open_frames.BaseLemmas.{gives_here, passes_here, kept_here}
use Rattle.pp_macros.proofs.open_frames.OpenMacroLemmas.{given_open, goes_on}
use Rattle.pp_macros.proofs.macro_processor.MacroProcessor.pass_token.Goals as goal

pub pass_token-requires : goal.pass_token-requires
pass_token-requires c =
    rw (gives_here c.self.inside.held c.self.inside.base c.self.inside.frames.items c.args.self.now c.self.view_is
    (given_open _ c.requires) c.in-Some.frame.now (vec_len c.self.inside.frames) c.self.inside.frames.ok.0 c.in-Some.ensures.value)
    at c.requires

pub invariant_of-self : goal.invariant_of-self
invariant_of-self c =
    let kept = kept_here c.self.inside.held c.self.inside.base c.self.inside.frames.items c.args.self.now c.self.view_is
    (given_open _ c.requires) c.in-Some.frame.now (vec_len c.self.inside.frames) c.self.inside.frames.ok.0 c.in-Some.ensures.value
    c.pass_token.new.self c.self.inside.counts.items c.pass_token.ensures.number c.self.invariant.0 in
    (kept.0, c.self.invariant.1, kept.1)

pub returns : goal.returns
returns c =
    let gives = rw (gives_here c.self.inside.held c.self.inside.base c.self.inside.frames.items c.args.self.now c.self.view_is
    (given_open _ c.requires) c.in-Some.frame.now (vec_len c.self.inside.frames) c.self.inside.frames.ok.0 c.in-Some.ensures.value)
    at c.requires in
    passes_here c.self.inside.held c.self.inside.base c.self.inside.frames.items c.args.self.now c.self.view_is
    (given_open _ c.requires) c.in-Some.frame.now (vec_len c.self.inside.frames) c.self.inside.frames.ok.0 c.in-Some.ensures.value
    c.pass_token.new.self (goes_on _ gives) c.pass_token.ensures.step
