use Rattle.std.proofs.Common.{vec_len}
use Rattle.pp_macros.proofs.open_frames.BaseLemmas.{gives_here, makes_here, kept_here}
use Rattle.pp_macros.proofs.open_frames.OpenMacroLemmas.{given_open}
use Rattle.pp_macros.proofs.macro_processor.MacroProcessor.make_read.Goals as goal

pub make_read-requires : goal.make_read-requires
make_read-requires c =
    rw (gives_here c.self.inside.held c.self.inside.base c.self.inside.frames.items c.args.self.now c.self.view_is
    (given_open _ c.requires) c.in-Some.frame.now (vec_len c.self.inside.frames) c.self.inside.frames.ok.0 c.in-Some.ensures.value)
    at c.requires

pub invariant_of-self : goal.invariant_of-self
invariant_of-self c =
    let kept = kept_here c.self.inside.held c.self.inside.base c.self.inside.frames.items c.args.self.now c.self.view_is
    (given_open _ c.requires) c.in-Some.frame.now (vec_len c.self.inside.frames) c.self.inside.frames.ok.0 c.in-Some.ensures.value
    c.make_read.new.self c.self.inside.counts.items c.make_read.ensures.number c.self.invariant.0 in
    (kept.0, c.self.invariant.1, kept.1)

pub returns-clause-makes : goal.returns-clause-makes
returns-clause-makes c =
    makes_here c.self.inside.held c.self.inside.base c.self.inside.frames.items c.args.self.now c.self.view_is
    (given_open _ c.requires) c.in-Some.frame.now (vec_len c.self.inside.frames) c.self.inside.frames.ok.0 c.in-Some.ensures.value
    c.args.painted c.make_read.new.self c.make_read.result c.make_read.ensures.makes
