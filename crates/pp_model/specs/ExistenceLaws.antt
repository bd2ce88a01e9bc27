-- Laws of expansion, of reading and of runs: each step has an outcome. They ask that finitely many names are defined,
-- as in each state of a run. With endless names, each defined as the next one, macros would open for ever.
use Rattle.std.specs.Prelude.{◌≡◌, ℕ, Bool, true, false, List, [], ◌∷◌, Option, Some, Result}
use Rattle.pp_lexer.specs.Lexed.{Seen}
use Rattle.pp_model.specs.declared.place.Place.{Place}
use Rattle.pp_lexer.specs.declared.token.Token.{Token}
use Rattle.pp_lexer.specs.declared.rules.Rules.{Rules}
use Rattle.pp_model.specs.Places.{PlacedFault}
use Rattle.pp_model.specs.Names.{Name, is_in}
use Rattle.pp_model.specs.Definitions.{Definition, Definitions}
use Rattle.pp_model.specs.Reading.{Reading, Expander, Listed}
use Rattle.pp_model.specs.Taking.{Takes}
use Rattle.pp_model.specs.Calls.{Gathered, Gathers, Answers, Site, Called, Calls}
use Rattle.pp_model.specs.Emitting.{Emits, Alones, Collects}
use Rattle.pp_model.specs.LineWords.{Operand, Words, LineWords}
use Rattle.pp_model.specs.LineValues.{IsCondition, IsLineNumber}
use Rattle.pp_model.specs.SourceReader.{SourceReader}
use Rattle.pp_model.specs.Reads.{Steps}
use Rattle.pp_model.specs.Run.{Gives, Call, IsRunBy}
use Rattle.pp_model.specs.RunStates.{IsReached}
use Rattle.pp_model.specs.declared.call.Reply.{Reply}
use Rattle.pp_model.specs.declared.outcome.Outcome.{Outcome}
use Rattle.pp_model.specs.declared.outcome.Outcome.TheVariants as outcome
use Rattle.pp_model.specs.declared.read.Read.{Read}
use Rattle.pp_model.specs.declared.read.Taken.{Taken}
use Rattle.pp_model.specs.declared.word.LineKind.{LineKind}
use Rattle.pp_model.specs.declared.numbering.Numbering.{Numbering}

abbrev pub is_given_token : Outcome → Bool
is_given_token (outcome.Token token) = true
is_given_token _ = false

-- Finitely many names are defined: each of them is among these.
pub record IsFinite (definitions : Definitions) : Type 0 where
  pub names : List Name
  pub among : (name : Name) (definition : Definition) → definitions name ≡ Some definition → is_in name names ≡ true

-- A reader gives something next.
abbrev pub AReading : {R : Type 0} → Reading R → Type 0
AReading {R} I = (r : R) → IsFinite (I.visible r) → (x : Taken) × (t : R) × I.Reads r x t

-- Something is taken from an expander.
abbrev pub ATaking : {R : Type 0} → Reading R → Type 0
ATaking {R} I = (e : Expander R) → IsFinite (I.visible e.reader) → (x : Taken) × (f : Expander R) × Takes I e x f

-- The search for the end of a call gathers a list of tokens, or meets a fault.
abbrev pub AGathering : {R : Type 0} → Reading R → Type 0
AGathering {R} I = (n : ℕ) (last : Place) (e : Expander R) → IsFinite (I.visible e.reader)
    → (x : Result Gathered PlacedFault) × (f : Expander R) × Gathers I n last e x f

-- A call at a site gives a list of arguments, or a fault.
abbrev pub AnAnswer : Answers → Type 0
AnAnswer A = (definition : Definition) (site : Site) → IsFinite site.visible
    → (x : Result (List (List Read)) PlacedFault) × A definition site x

-- An argument alone gives a list of tokens, or a fault.
abbrev pub AnArgument : Alones → Type 0
AnArgument deeper =
    (tokens : List Read) (numbering : Numbering) (visible : Definitions) (hidden : List Name)
    → IsFinite visible
    → (x : Result (List Read) PlacedFault) × deeper tokens numbering visible hidden x

-- The search for a call after the name of a function-like macro finds a call, none, or a fault.
abbrev pub ACall : {R : Type 0} → Reading R → Answers → Type 0
ACall {R} I A = (definition : Definition) (e : Expander R) → IsFinite (I.visible e.reader)
    → (x : Called) × (f : Expander R) × Calls I A definition e x f

-- An expander has a next item.
abbrev pub AnItem : {R : Type 0} → Reading R → Answers → Type 0
AnItem {R} I A = (e : Expander R) → IsFinite (I.visible e.reader) → (x : Taken) × (f : Expander R) × Emits I A e x f

-- Over a list of tokens an expander has a list of items, or a first fault.
abbrev pub AList : Reading Listed → Answers → Type 0
AList I A = (e : Expander Listed) → IsFinite e.reader.visible → (x : Result (List Read) PlacedFault) × Collects I A e x

-- The operand of a `defined` has an answer, or a fault.
abbrev pub AnOperand : Answers → Type 0
AnOperand A = (kind : LineKind) (directive : Place) (e : Expander Listed) → IsFinite e.reader.visible
    → (x : Result Bool PlacedFault) × (f : Expander Listed) × Operand kind directive A e x f

-- The line of an `#if`, `#elif` or `#line` has a list of words, with an ending.
abbrev pub ALine : Answers → Type 0
ALine A = (kind : LineKind) (directive : Place) (e : Expander Listed) → IsFinite e.reader.visible
    → (words : Words) × LineWords kind directive A e words

-- The condition of an `#if` or `#elif` holds or not, or has a fault.
abbrev pub ACondition : Answers → Type 0
ACondition A =
    (directive : Place) (tokens : List Token) (numbering : Numbering) (definitions : Definitions)
    → IsFinite definitions
    → (x : Result Bool PlacedFault) × IsCondition A directive tokens numbering definitions x

-- A `#line` gives a number, or a fault.
abbrev pub ALineNumber : Answers → Type 0
ALineNumber A =
    (directive : Place) (tokens : List Token) (numbering : Numbering) (definitions : Definitions)
    → IsFinite definitions
    → (x : Result ℕ PlacedFault) × IsLineNumber A directive tokens numbering definitions x

-- One token or line of a source has an outcome, or gives nothing.
abbrev pub AStep : Answers → Type 0
AStep A = (r : SourceReader) → IsFinite r.definitions → (x : Option Taken) × (t : SourceReader) × Steps A r x t

-- In each state of a run finitely many names are defined.
abbrev pub RunDefinesFinitelyMany : Answers → Type 0
RunDefinesFinitelyMany A =
    (rules : Rules) (source : List Seen) (e : Expander SourceReader)
    → IsReached A rules source e
    → IsFinite e.reader.definitions

-- From this state these tokens are given, one after another, and then this outcome, which is an error, an `#include`
-- line or the end.
pub data Ends (A : Answers) : Expander SourceReader → List Token → Outcome → Type 0 where
  last : (o : Outcome) (tokens : List Token) (e f : Expander SourceReader)
      → Gives A e o f
      → is_given_token o ≡ false
      → tokens ≡ []
      → Ends A e tokens o
  first : (token : Token) (o : Outcome) (rest tokens : List Token) (e f : Expander SourceReader)
      → Gives A e (outcome.Token token) f
      → Ends A f rest o
      → tokens ≡ token ∷ rest
      → Ends A e tokens o

-- A source gives finitely many tokens, and then an error, an `#include` line or the end.
abbrev pub AnEnd : Answers → Type 0
AnEnd A = (e : Expander SourceReader) → IsFinite e.reader.definitions
    → (tokens : List Token) × (last : Outcome) × Ends A e tokens last

-- Every text and list of calls has replies, by any rules.
abbrev pub ARun : Type 0
ARun =
    (rules : Rules) (text : List ℕ) (calls : List Call)
    → (replies : List Reply) × IsRunBy rules text calls replies
