use Rattle.std.proofs.Common.{◌≡◌, true, false, refl}
use Rattle.std.specs.Prelude.{Ok, Err}
use Rattle.pp_macros.specs.declared.step.PlacedExit.TheVariants.{Continue, Finished}
use Rattle.pp_directives.proofs.LineReadLemmas.{taken_fault}
use Rattle.pp_directives.proofs.LineTurnLemmas.{next_read}
use Rattle.pp_macros.proofs.taking.ExpanderLemmas.{next_no_pause}
use Rattle.pp_directives.proofs.LineKnownLemmas.{line_known}
use Rattle.pp_directives.proofs.line_words.WordReader.take.Goals as goal

pub take_list-requires : goal.take_list-requires
take_list-requires c = line_known _ _ c.args.line.now.expander c.args.line.now.lexer c.requires

pub returns-in-Ok : goal.returns-in-Ok
returns-in-Ok c = next_read _ _ _ _ _ _ _ c.requires (Ok c.in-Ok.read) c.in-Ok.ensures.takes refl

pub returns-in-Err-Finished : goal.returns-in-Err-Finished
returns-in-Err-Finished c = next_read _ _ _ _ _ _ _ c.requires (Err Finished) (rw c.in-Err-Finished.field-0-is at c.in-Err-Finished.ensures.takes) refl

pub returns-in-Err-Continue : goal.returns-in-Err-Continue
returns-in-Err-Continue c = absurd (let bad : true ≡ false =
    next_no_pause _ _ _ _ (Err Continue) (rw c.in-Err-Continue.field-0-is at c.in-Err-Continue.ensures.takes) in cc)

pub returns-in-Err-Error : goal.returns-in-Err-Error
returns-in-Err-Error c = taken_fault c.args.self.now.levels _ _ _ _ c.requires _ _ c.in-Err-Error.fault c.halt_of.result
    (rw c.in-Err-Error.field-0-is at c.in-Err-Error.ensures.takes) c.halt_of.ensures
