use Rattle.std.proofs.Common.{◌∙◌, ap}
use Rattle.pp_macros.specs.inner.Nesting.{MacroProcessor}
use Rattle.pp_macros.proofs.open_frames.BaseLemmas.{ended}
use Rattle.pp_macros.proofs.macro_processor.MacroProcessor.unnest.Goals as goal

pub returns : goal.returns
returns c = λ frames outer parted number.
    rw c.take.ensures.after
    (ended c.self.inside.held c.self.inside.base c.args.around c.self.inside.frames.items frames outer c.close_all.new.self c.self.view_is
    (ap (λ (m : MacroProcessor). m.here.frames) c.close_all.ensures) (ap (λ (m : MacroProcessor). m.below) c.close_all.ensures ∙ parted) number)
