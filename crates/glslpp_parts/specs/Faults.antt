-- Errors that the program finds and the library doesn't.
use Rattle.std.specs.Prelude.{◌≡◌, ℕ, List, codes}
use Rattle.glslpp_parts.specs.declared.diagnostic.Severity.TheVariants.{Error}
use Rattle.glslpp_parts.specs.declared.fault.Fault.{Fault}
use Rattle.glslpp_parts.specs.declared.fault.FaultKind.{FaultKind}
use Rattle.glslpp_parts.specs.declared.fault.FaultKind.TheVariants.{UnterminatedComment, LateVersion, SecondVersion}
use Rattle.glslpp_parts.specs.declared.fault.FaultKind.TheVariants.{MalformedVersion, MalformedExtension, OverBudget}
use Rattle.glslpp_parts.specs.declared.fault.FaultKind.TheVariants.{MalformedInclude, MissingInclude, DeepInclude}

-- the name of an error in the items of JSON
abbrev pub name_of : FaultKind → List ℕ
name_of UnterminatedComment = codes "UnterminatedComment"
name_of LateVersion = codes "LateVersion"
name_of SecondVersion = codes "SecondVersion"
name_of MalformedVersion = codes "MalformedVersion"
name_of MalformedExtension = codes "MalformedExtension"
name_of OverBudget = codes "OverBudget"
name_of MalformedInclude = codes "MalformedInclude"
name_of MissingInclude = codes "MissingInclude"
name_of DeepInclude = codes "DeepInclude"

-- what was found is said as an error
abbrev pub IsError : Fault → Type 0
IsError fault = fault.diagnostic.severity ≡ Error
