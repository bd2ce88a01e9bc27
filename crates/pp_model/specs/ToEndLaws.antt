-- Laws of runs to the end: there is exactly one, and it begins as the run that ends with the first error.
use Rattle.std.specs.Prelude.{◌≡◌, ℕ, List, Option}
use Rattle.pp_lexer.specs.declared.rules.Rules.{Rules}
use Rattle.pp_model.specs.Calls.{Answers}
use Rattle.pp_model.specs.Onward.{Onward, StepsOn}
use Rattle.pp_model.specs.ExistenceLaws.{IsFinite}
use Rattle.pp_model.specs.Run.{Call, IsRunBy}
use Rattle.pp_model.specs.RunToEnd.{IsRunToEndBy, to_first_error}
use Rattle.pp_model.specs.declared.call.Reply.{Reply}
use Rattle.pp_model.specs.declared.read.Taken.{Taken}

-- One token or line of a source has at most one outcome, and one reader is after it, after a fault too.
abbrev pub OneStepOn : Answers → Type 0
OneStepOn A =
    (o : Onward) (x y : Option Taken) (s t : Onward)
    → StepsOn A o x s
    → StepsOn A o y t
    → (x ≡ y) × (s ≡ t)

-- One token or line of a source has an outcome, or gives nothing.
abbrev pub AStepOn : Answers → Type 0
AStepOn A = (o : Onward) → IsFinite o.reader.definitions → (x : Option Taken) × (t : Onward) × StepsOn A o x t

-- By the same rules equal texts and calls have equal replies to the end.
abbrev pub OneRunToEnd : Type 0
OneRunToEnd =
    (rules : Rules) (text : List ℕ) (calls : List Call) (x y : List Reply)
    → IsRunToEndBy rules text calls x
    → IsRunToEndBy rules text calls y
    → x ≡ y

-- Every text and list of calls has replies to the end, by any rules.
abbrev pub ARunToEnd : Type 0
ARunToEnd =
    (rules : Rules) (text : List ℕ) (calls : List Call)
    → (replies : List Reply) × IsRunToEndBy rules text calls replies

-- Up to and with the first error item they are the replies of the run that ends with it.
abbrev pub RunToEndBegins : Type 0
RunToEndBegins =
    (rules : Rules) (text : List ℕ) (calls : List Call) (replies : List Reply)
    → IsRunToEndBy rules text calls replies
    → IsRunBy rules text calls (to_first_error replies)
