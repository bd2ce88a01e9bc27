-- What an expander over a source gives, one over a source that is read on gives too.
use Rattle.std.proofs.Common.{refl, subst, []}
use Rattle.pp_model.specs.Calls.{Answers}
use Rattle.pp_model.specs.Emitting.{Emits}
use Rattle.pp_model.specs.ExistenceLaws.{AnAnswer}
use Rattle.pp_model.specs.ExpansionLaws.{OneAnswer}
use Rattle.pp_model.specs.Onward.{Onward, onward_reading}
use Rattle.pp_model.specs.Reading.{Expander}
use Rattle.pp_model.specs.Reads.{source_reading}
use Rattle.pp_model.specs.RunToEnd.{going_on}
use Rattle.pp_model.specs.SourceReader.{SourceReader}
use Rattle.pp_model.specs.declared.read.Taken.{Taken}
use Rattle.pp_model.proofs.existence.SourceLemmas.{HasFinite}
use Rattle.pp_model.proofs.existence.Turns.{next_item}
use Rattle.pp_model.proofs.onward.EmitsBeginLemmas.{Giving, emits_begin}
use Rattle.pp_model.proofs.onward.ExistenceLemmas.{every_onward}
use Rattle.pp_model.proofs.source.ReadsLemmas.{source_reads_one}
use Rattle.pp_model.proofs.taking.EmittingLemmas.{one_item}

-- the same item, and the expander after it
pub record EmitsOn (A : Answers) (x : Taken) (e f : Expander SourceReader) : Type 0 where
  pub after : Expander Onward
  pub emits : Emits (onward_reading A) A (going_on [] e) x after
  pub giving : Giving A x f after
  pub fine : HasFinite after.reader.reader

pub emits_on : (A : Answers) (single : OneAnswer A) (answered : AnAnswer A) (x : Taken) (e f : Expander SourceReader) → HasFinite e.reader
    → Emits (source_reading A) A e x f → EmitsOn A x e f
emits_on A single answered x e f finite emits =
    let i = next_item (going_on [] e) (every_onward A answered (going_on [] e) finite) in
    let (g, there, giving) = emits_begin A i.item e (going_on [] e) i.after refl i.emits in
    let one = one_item (source_reading A) (source_reads_one A single) A single i.item x e g f there emits in
    record {
      after = i.after;
      emits = subst (λ (y : Taken). Emits (onward_reading A) A (going_on [] e) y i.after) one.0 i.emits;
      giving = subst (λ (h : Expander SourceReader). Giving A x h i.after) one.1 (subst (λ (y : Taken). Giving A y g i.after) one.0 giving);
      fine = i.fine;
    }
