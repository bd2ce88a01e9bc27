-- The states of a run, and what holds in each of them: no macro is open twice, no `__LINE__` is given,
-- and an end that was given stays.
use Rattle.std.specs.Prelude.{◌≡◌, ℕ, Bool, true, false, List, ◌∷◌, ◌++◌, All}
use Rattle.std.specs.List.{list_any}
use Rattle.pp_lexer.specs.Lexed.{Seen}
use Rattle.pp_lexer.specs.declared.token.Token.{Token}
use Rattle.pp_lexer.specs.declared.rules.Rules.{Rules}
use Rattle.pp_model.specs.Names.{Name, is_identifier, line_name}
use Rattle.pp_model.specs.Reading.{Expander}
use Rattle.pp_model.specs.Calls.{Answers}
use Rattle.pp_model.specs.Emitting.{Emits}
use Rattle.pp_model.specs.SourceReader.{SourceReader}
use Rattle.pp_model.specs.Reads.{source_reading}
use Rattle.pp_model.specs.Run.{by_rules, Call, items_by, start_by, with_added, with_included, Runs}
use Rattle.pp_model.specs.ApartMarks.{HasApartMarks}
use Rattle.pp_model.specs.declared.call.Reply.{Reply}
use Rattle.pp_model.specs.declared.call.Reply.TheVariants as reply
use Rattle.pp_model.specs.declared.outcome.Outcome.TheVariants as outcome
use Rattle.pp_model.specs.declared.read.Taken.{Taken}
use Rattle.pp_model.specs.declared.read.Taken.TheVariants as taken

-- Definitions that are added, texts that are included, and items that are given, lead from one state to another. Error
-- items do so too, though a run ends with its first one. `includes` says whether texts may be included on the way.
pub data LeadsTo (A : Answers) (includes : Bool) : Expander SourceReader → Expander SourceReader → Type 0 where
  nowhere : (e f : Expander SourceReader) → f ≡ e → LeadsTo A includes e f
  adding : (name : Name) (tokens : List Token) (e f : Expander SourceReader)
      → LeadsTo A includes (with_added name tokens e) f
      → LeadsTo A includes e f
  including : (text : List ℕ) (rules : Rules) (e f : Expander SourceReader)
      → includes ≡ true
      → LeadsTo A includes (with_included (items_by rules text) e) f
      → LeadsTo A includes e f
  giving : (x : Taken) (e f g : Expander SourceReader)
      → Emits (source_reading A) A e x f
      → LeadsTo A includes f g
      → LeadsTo A includes e g

-- a state of a run of the source by these rules
abbrev pub IsReached : Answers → Rules → List Seen → Expander SourceReader → Type 0
IsReached A rules source e = LeadsTo A true (start_by rules source) e

-- No macro is open twice: in no state of a run does the list hold two end marks of one name.
abbrev pub RunKeepsMarksApart : Answers → Type 0
RunKeepsMarksApart A =
    (rules : Rules) (source : List Seen) (e : Expander SourceReader)
    → IsReached A rules source e
    → HasApartMarks e.list

-- whether the reply is the identifier `__LINE__`
abbrev pub gives_line_name : Reply → Bool
gives_line_name (reply.Given (outcome.Token token)) = is_identifier line_name token.value
gives_line_name _ = false

-- No reply of a run is the identifier `__LINE__`.
abbrev pub RunShowsNoLineName : Answers → Type 0
RunShowsNoLineName A =
    (rules : Rules) (source : List Seen) (calls : List Call) (replies : List Reply)
    → Runs (by_rules A) rules (start_by rules source) calls replies
    → All (λ given. gives_line_name given ≡ false) replies

-- After the end was given, nothing but the end is given, whatever is added, unless a text is included.
abbrev pub EndStays : Answers → Type 0
EndStays A =
    (rules : Rules) (source : List Seen) (x : Taken) (e f g h : Expander SourceReader)
    → IsReached A rules source e
    → Emits (source_reading A) A e taken.End f
    → LeadsTo A false f g
    → Emits (source_reading A) A g x h
    → x ≡ taken.End

-- whether the reply is an item, which the end is not
abbrev pub gives_item : Reply → Bool
gives_item (reply.Given outcome.End) = false
gives_item (reply.Given o) = true
gives_item _ = false

abbrev pub is_included : Reply → Bool
is_included reply.Included = true
is_included _ = false

-- After the end, wherever it is among the replies of a run, no reply is an item, unless a text is included after it.
abbrev pub RunEndsForGood : Answers → Type 0
RunEndsForGood A =
    (rules : Rules) (source : List Seen) (calls : List Call) (former later : List Reply)
    → Runs (by_rules A) rules (start_by rules source) calls (former ++ (reply.Given outcome.End ∷ later))
    → list_any is_included later ≡ false
    → All (λ given. gives_item given ≡ false) later
