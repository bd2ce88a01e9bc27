-- Calls one after another, each in the state after the one before: together they are a run.
use Rattle.std.specs.Prelude.{◌≡◌, ℕ, true, false, List, [], ◌∷◌, ◌++◌, None, Ok, Err}
use Rattle.std.specs.Str.{chars}
use Rattle.pp_lexer.specs.Lexed.{Seen}
use Rattle.pp_lexer.specs.declared.token.Token.{Token}
use Rattle.pp_lexer.specs.declared.rules.Rules.{Rules}
use Rattle.pp_model.specs.Places.{Fault, PlacedFault, unplaced}
use Rattle.pp_model.specs.Reading.{Expander}
use Rattle.pp_model.specs.Calls.{Answers}
use Rattle.pp_model.specs.Emitting.{Emits}
use Rattle.pp_model.specs.SourceReader.{SourceReader, is_full}
use Rattle.pp_model.specs.Reads.{source_reading}
use Rattle.pp_model.specs.Run.{Comings, by_rules, Call, add_define, include, next, with_included, items_by}
use Rattle.pp_model.specs.Run.{content_tokens, with_added, is_fault, start_by, Runs}
use Rattle.pp_model.specs.declared.call.Reply.{Reply}
use Rattle.pp_model.specs.declared.call.Reply.TheVariants as reply
use Rattle.pp_model.specs.declared.outcome.Outcome.{Outcome}
use Rattle.pp_model.specs.declared.outcome.Outcome.TheVariants as outcome
use Rattle.pp_model.specs.declared.read.Taken.TheVariants as taken

-- one call in a state, its reply, and the state after it; a `next` that gives an error item is left out
pub data AnswersIn (C : Comings) (rules : Rules)
    : Expander SourceReader → Call → Reply → Expander SourceReader → Type 0 where
  adds : (name content : List ℕ) (tokens : List Token) (call : Call) (answer : Reply) (e f : Expander SourceReader)
      → content_tokens (items_by rules content) ≡ Ok tokens
      → call ≡ add_define name content
      → answer ≡ reply.Added
      → f ≡ with_added (chars name) tokens e
      → AnswersIn C rules e call answer f
  refuses : (name content : List ℕ) (fault : Fault) (call : Call) (answer : Reply) (e f : Expander SourceReader)
      → content_tokens (items_by rules content) ≡ Err fault
      → call ≡ add_define name content
      → answer ≡ reply.Refused fault
      → f ≡ e
      → AnswersIn C rules e call answer f
  includes : (text : List ℕ) (call : Call) (answer : Reply) (e f : Expander SourceReader)
      → is_full e.reader ≡ false
      → call ≡ include text
      → answer ≡ reply.Included
      → f ≡ with_included (items_by rules text) e
      → AnswersIn C rules e call answer f
  refuses_text : (text : List ℕ) (call : Call) (answer : Reply) (e f : Expander SourceReader)
      → is_full e.reader ≡ true
      → call ≡ include text
      → answer ≡ reply.TooDeep
      → f ≡ e
      → AnswersIn C rules e call answer f
  gives : (o : Outcome) (call : Call) (answer : Reply) (e f : Expander SourceReader)
      → C e o f
      → is_fault o ≡ false
      → call ≡ next
      → answer ≡ reply.Given o
      → AnswersIn C rules e call answer f

-- these calls one after another have these replies, and lead to this state
pub data Chain (C : Comings) (rules : Rules)
    : Expander SourceReader → List Call → List Reply → Expander SourceReader → Type 0 where
  none : (e f : Expander SourceReader) (calls : List Call) (replies : List Reply)
      → calls ≡ []
      → replies ≡ []
      → f ≡ e
      → Chain C rules e calls replies f
  one_more : (e f g : Expander SourceReader) (before calls : List Call) (call : Call) (answered replies : List Reply)
      (answer : Reply)
      → Chain C rules e before answered f
      → AnswersIn C rules f call answer g
      → calls ≡ before ++ call ∷ []
      → replies ≡ answered ++ answer ∷ []
      → Chain C rules e calls replies g

-- Calls that follow one another from the start of a source are a run, and so they are with an
-- error item that comes after them.
pub record ChainsAreRuns (A : Answers) : Type 0 where
  pub whole : (rules : Rules) (source : List Seen) (calls : List Call) (replies : List Reply)
      (f : Expander SourceReader)
      → Chain (by_rules A) rules (start_by rules source) calls replies f
      → Runs (by_rules A) rules (start_by rules source) calls replies
  pub to_error : (rules : Rules) (source : List Seen) (calls : List Call) (replies : List Reply)
      (f g : Expander SourceReader) (fault : PlacedFault)
      → Chain (by_rules A) rules (start_by rules source) calls replies f
      → Emits (source_reading A) A f (taken.Fault fault) g
      → fault.1.asks ≡ None
      → Runs (by_rules A) rules (start_by rules source) (calls ++ next ∷ [])
      (replies ++ reply.Given (outcome.Fault (unplaced fault)) ∷ [])
