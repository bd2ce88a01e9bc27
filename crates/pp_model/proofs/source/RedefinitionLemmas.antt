-- A `#define` of a name that is defined leaves the definitions as they are, and is a fault if it says something else.
use Rattle.std.proofs.Common.{◌≡◌, ◌∙◌, ap, Option, Some, inl, inr}
use Rattle.pp_model.specs.declared.read.Taken.{Taken}
use Rattle.pp_model.specs.Definitions.{Definition, Definitions}
use Rattle.pp_model.specs.Calls.{Answers}
use Rattle.pp_model.specs.SourceReader.{SourceReader}
use Rattle.pp_model.specs.Acts.{act}
use Rattle.pp_model.specs.Reads.{Defines}
use Rattle.pp_model.specs.RunLaws.{Redefined, RedefinitionIsChecked}
use Rattle.pp_model.specs.declared.definition.Named.{Named}
use Rattle.pp_model.specs.declared.step.Step.TheVariants as step
use Rattle.pp_model.proofs.existence.MoveLemmas.{moves}
use Rattle.pp_model.proofs.source.ReadsLemmas.{defines_that}

-- where the act defines a name, it leaves the definitions to the step
pub define_leaves : (r : SourceReader) (named : Named) → (act r).step ≡ step.Defines named → (act r).after.definitions ≡ r.definitions
define_leaves r = (moves r).left_to_step

abbrev definitions : SourceReader → Definitions
definitions r = r.definitions

checked : (named : Named) (old : Definition) (after r t : SourceReader) (o : Option Taken) → after.definitions ≡ r.definitions
    → Defines r.text named (Some old) after o t → Redefined named old r o t
checked named old after r t o left (p, inl same) = record {
  repeated = λ h. same.1;
  refused = λ other. absurd (other same.0);
  same_definitions = ap definitions p ∙ left;
}
checked named old after r t o left (p, inr other) = record {
  repeated = λ same. absurd (other.0 same);
  refused = λ h. other.1;
  same_definitions = ap definitions p ∙ left;
}

pub redefinition_is_checked : (A : Answers) → RedefinitionIsChecked A
redefinition_is_checked A named old r t o h k s =
    checked named old (act r).after r t o (define_leaves r named h) (defines_that A named (Some old) r o t h k s)
