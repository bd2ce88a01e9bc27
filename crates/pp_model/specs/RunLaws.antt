-- Laws of reading a source, and of runs: each has at most one outcome, and a name that is defined is not redefined.
use Rattle.std.specs.Prelude.{◌≡◌, ℕ, Bool, List, Option, Some, None, Result}
use Rattle.pp_expression.specs.declared.symbol.Value.{Value}
use Rattle.pp_expression.specs.declared.symbol.Found.{Found}
use Rattle.pp_expression.specs.Lines.{Line}
use Rattle.pp_expression.specs.FirstFault.{Evaluates}
use Rattle.pp_model.specs.declared.place.Place.{Place}
use Rattle.pp_lexer.specs.declared.token.PreprocessorError.TheVariants.{DefineRedefined}
use Rattle.pp_lexer.specs.declared.token.Token.{Token}
use Rattle.pp_lexer.specs.declared.rules.Rules.{Rules}
use Rattle.pp_model.specs.declared.read.Taken.{Taken}
use Rattle.pp_model.specs.declared.read.Taken.TheVariants as taken
use Rattle.pp_model.specs.Places.{PlacedFault, placed}
use Rattle.pp_model.specs.Definitions.{Definition, Definitions, IsSameDefinition}
use Rattle.pp_model.specs.Reading.{Expander}
use Rattle.pp_model.specs.Calls.{Answers}
use Rattle.pp_model.specs.LineWords.{Words}
use Rattle.pp_model.specs.LineValues.{IsCondition, Numbers, IsLineNumber}
use Rattle.pp_model.specs.SourceReader.{SourceReader}
use Rattle.pp_model.specs.Acts.{act}
use Rattle.pp_model.specs.Reads.{Steps}
use Rattle.pp_model.specs.Run.{by_rules, Call, Runs, IsRunBy}
use Rattle.pp_model.specs.declared.call.Reply.{Reply}
use Rattle.pp_model.specs.declared.definition.Named.{Named}
use Rattle.pp_model.specs.declared.step.Step.TheVariants as step
use Rattle.pp_model.specs.declared.numbering.Numbering.{Numbering}

-- A line has at most one value or first fault.
abbrev pub OneEvaluation : Type 0
OneEvaluation = (line : Line) (x y : Result Value Found) → Evaluates line x → Evaluates line y → x ≡ y

-- The condition of an `#if` or `#elif` has at most one outcome: it holds, it doesn't, or it has a fault.
abbrev pub OneCondition : Answers → Type 0
OneCondition A =
    (directive : Place) (tokens : List Token) (numbering : Numbering) (definitions : Definitions)
    (x y : Result Bool PlacedFault)
    → IsCondition A directive tokens numbering definitions x
    → IsCondition A directive tokens numbering definitions y
    → x ≡ y

-- The words of a `#line` give at most one number or fault.
abbrev pub OneNumber : Type 0
OneNumber =
    (directive : Place) (words : Words) (x y : Result ℕ PlacedFault)
    → Numbers directive words x
    → Numbers directive words y
    → x ≡ y

-- A `#line` gives at most one number or fault.
abbrev pub OneLineNumber : Answers → Type 0
OneLineNumber A =
    (directive : Place) (tokens : List Token) (numbering : Numbering) (definitions : Definitions)
    (x y : Result ℕ PlacedFault)
    → IsLineNumber A directive tokens numbering definitions x
    → IsLineNumber A directive tokens numbering definitions y
    → x ≡ y

-- One token or line of a source has at most one outcome, which may be nothing, and one reader after it.
abbrev pub OneStep : Answers → Type 0
OneStep A =
    (r : SourceReader) (x y : Option Taken) (s t : SourceReader)
    → Steps A r x s
    → Steps A r y t
    → (x ≡ y) × (s ≡ t)

-- From one state of a source, equal calls have equal replies.
abbrev pub OneReplies : Answers → Type 0
OneReplies A =
    (rules : Rules) (e : Expander SourceReader) (calls : List Call) (x y : List Reply)
    → Runs (by_rules A) rules e calls x
    → Runs (by_rules A) rules e calls y
    → x ≡ y

-- By the same rules equal texts and calls have equal replies.
abbrev pub OneRun : Type 0
OneRun =
    (rules : Rules) (text : List ℕ) (calls : List Call) (x y : List Reply)
    → IsRunBy rules text calls x
    → IsRunBy rules text calls y
    → x ≡ y

-- A name that is defined is defined again: the same definition gives nothing, another is a fault, and the old one
-- stays.
pub record Redefined (named : Named) (old : Definition) (r : SourceReader) (o : Option Taken)
    (t : SourceReader) : Type 0 where
  pub repeated : IsSameDefinition old named.definition → o ≡ None
  pub refused : (IsSameDefinition old named.definition → ⊥)
      → o ≡ Some (taken.Fault (placed r.text (DefineRedefined, named.location)))
  pub same_definitions : t.definitions ≡ r.definitions

-- A `#define` of a name that is defined is compared with the old definition.
abbrev pub RedefinitionIsChecked : Answers → Type 0
RedefinitionIsChecked A =
    (named : Named) (old : Definition) (r t : SourceReader) (o : Option Taken)
    → (act r).step ≡ step.Defines named
    → r.definitions named.name ≡ Some old
    → Steps A r o t
    → Redefined named old r o t
