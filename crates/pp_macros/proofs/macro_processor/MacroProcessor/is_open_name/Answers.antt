use Rattle.std.proofs.Common.{◌∙◌}
use Rattle.pp_macros.proofs.open_frames.KnownLemmas.{value_open, value_not_open}
use Rattle.pp_macros.proofs.macro_processor.MacroProcessor.is_open_name.Goals as goal

pub returns-in-Some : goal.returns-in-Some
returns-in-Some c = λ names value known is. c.is_open.ensures ∙ value_open names value c.in-Some.id c.args.self.now known (rw c.in-Some.is at is)

pub returns-in-None : goal.returns-in-None
returns-in-None c = λ names value known is. value_not_open names value c.args.self.now known (rw c.in-None.is at is)
