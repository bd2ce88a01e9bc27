use Rattle.std.proofs.Common.{◌∙◌}
use Rattle.pp_macros.proofs.open_frames.BaseLemmas.{nested, around_number}
use Rattle.pp_macros.proofs.macro_processor.MacroProcessor.nest.Goals as goal

pub returns-clause-is : goal.returns-clause-is
returns-clause-is c =
    nested c.self.inside.held c.self.inside.base _ c.self.inside.frames.items c.args.self.now
    (c.replace.ensures.after ∙ c.len.ensures ∙ c.self.inside.frames.ok.0) c.self.view_is c.requires

pub returns-clause-around : goal.returns-clause-around
returns-clause-around c =
    c.replace.ensures.value ∙ around_number c.self.inside.held c.self.inside.base c.self.inside.frames.items c.args.self.now c.self.view_is c.self.invariant.2
