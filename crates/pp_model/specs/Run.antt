-- Runs: lists of calls of `add_define`, `include` and `next`, with the replies to them (docs/RULES.md, "Runs").
use Rattle.std.specs.Prelude.{◌≡◌, ℕ, Bool, true, false, if◌then◌else◌, List, [], map, ◌∷◌, Option, Some, None, Result}
use Rattle.std.specs.Prelude.{Ok, Err, ◌+◌, ◌<◌, ◌^◌, ◌-◌, length, ⊤}
use Rattle.std.specs.Str.{chars}
use Rattle.pp_lexer.specs.Items as lexer
use Rattle.pp_lexer.specs.Lexed.{Seen, seen}
use Rattle.pp_lexer.specs.Rules.{pp_rs}
use Rattle.pp_lexer.specs.Spots.{spots_of}
use Rattle.pp_lexer.specs.declared.rules.Rules.{Rules}
use Rattle.pp_lexer.specs.declared.token.Token.{Token}
use Rattle.pp_model.specs.Places.{Fault}
use Rattle.pp_model.specs.Names.{Name}
use Rattle.pp_model.specs.Definitions.{object_like, with_change}
use Rattle.pp_model.specs.Painting.{item_of}
use Rattle.pp_model.specs.Reading.{Expander}
use Rattle.pp_model.specs.Calls.{Answers}
use Rattle.pp_model.specs.Emitting.{first_before, Emits, answers_at, expansion_limit}
use Rattle.pp_model.specs.Lines.{ends_line}
use Rattle.pp_model.specs.Conversions.{conversion}
use Rattle.pp_expression.specs.Answers.{◌>>=◌}
use Rattle.pp_model.specs.SourceReader.{SourceReader, reader_at_start, with_text, is_full}
use Rattle.pp_model.specs.Reads.{source_reading}
use Rattle.pp_model.specs.declared.call.Call.{Call as Called}
use Rattle.pp_model.specs.declared.call.Call.TheVariants as called
use Rattle.pp_model.specs.declared.call.Reply.{Reply}
use Rattle.pp_model.specs.declared.call.Reply.TheVariants as reply
use Rattle.pp_model.specs.declared.outcome.Outcome.{Outcome}
use Rattle.pp_model.specs.declared.read.Taken.{Taken}
use Rattle.pp_model.specs.declared.read.Taken.TheVariants as taken
use Rattle.pp_model.specs.declared.outcome.Outcome.TheVariants as outcome

-- a call: `add_define` of a name with a content, `include` of a text, all as UTF-8, or `next`
pub data Call : Type 0 where
  add_define : List ℕ → List ℕ → Call
  include : List ℕ → Call
  next : Call

-- the call of the definitions that a call of the program is
abbrev pub call_of : Called → Call
call_of (called.AddDefine name content) = add_define name.now content.now
call_of (called.Include text) = include text.now
call_of called.Next = next

-- the content of an added definition, or an included text, is short enough for the lexer
abbrev pub HasRoom : Called → Type 0
HasRoom (called.AddDefine name content) = length content.now < 2 ^ 32 - 1
HasRoom (called.Include text) = length text.now < 2 ^ 32 - 1
HasRoom called.Next = ⊤

-- the items of a text by these rules
abbrev pub items_by : Rules → List ℕ → List Seen
items_by rules text = map seen (lexer.items_by rules (spots_of text))

-- the same by pp-rs's rules
abbrev pub items_of : List ℕ → List Seen
items_of text = items_by pp_rs text

-- the tokens of an added content, without its newlines, or the first error or `#` in it
abbrev pub content_tokens : List Seen → Result (List Token) Fault
content_tokens [] = Ok []
content_tokens (s ∷ rest) =
    if ends_line s.item then content_tokens rest
    else (s.item >>= λ token. conversion token >>= λ first. first_before first (content_tokens rest))

-- an expander over the start of a source that is read by these rules
abbrev pub start_by : Rules → List Seen → Expander SourceReader
start_by rules source = record { held = None; list = []; reader = reader_at_start rules source; hidden = [] }

-- the same by pp-rs's rules
abbrev pub start : List Seen → Expander SourceReader
start source = start_by pp_rs source

-- the name is the object-like macro with these tokens of one more content as its body from now on
abbrev pub with_added : Name → List Token → Expander SourceReader → Expander SourceReader
with_added name tokens e =
    let text = e.reader.contents + 1 in
    record e {
      reader = record e.reader {
        definitions = with_change e.reader.definitions name (Some (object_like text tokens));
        contents = text;
      };
    }

-- what is held, unless it is the end
abbrev pub without_end : Option Taken → Option Taken
without_end (Some taken.End) = None
without_end held = held

-- the included text with these items is read next; an end that was found is none
abbrev pub with_included : List Seen → Expander SourceReader → Expander SourceReader
with_included items e = record e { held = without_end e.held; reader = with_text items e.reader }

abbrev pub is_fault : Outcome → Bool
is_fault (outcome.Fault fault) = true
is_fault _ = false

-- the reply is an error item, with which the run is over
abbrev pub ends_run : Reply → Bool
ends_run (reply.Given (outcome.Fault fault)) = true
ends_run _ = false

-- what comes next in a state, and the state after it
abbrev pub Comings : Type 1
Comings = Expander SourceReader → Outcome → Expander SourceReader → Type 0

-- the next item, without its paint, and the state after it, if calls have these answers
pub record Gives (A : Answers) (e : Expander SourceReader) (o : Outcome) (f : Expander SourceReader) : Type 0 where
  pub taken : Taken
  pub emits : Emits (source_reading A) A e taken f
  pub is : o ≡ item_of taken

-- what comes next by the definitions, if calls have these answers
abbrev pub by_rules : Answers → Comings
by_rules A = Gives A

-- The replies to the calls, if `C` says what comes next, and contents are read by these rules. They end with the first
-- error item: the replies after it are left open.
pub data Runs (C : Comings) (rules : Rules) : Expander SourceReader → List Call → List Reply → Type 0 where
  done : (e : Expander SourceReader) (replies : List Reply) → replies ≡ [] → Runs C rules e [] replies
  added : (name content : List ℕ) (tokens : List Token) (e : Expander SourceReader) (calls : List Call)
      (rest replies : List Reply)
      → content_tokens (items_by rules content) ≡ Ok tokens
      → Runs C rules (with_added (chars name) tokens e) calls rest
      → replies ≡ reply.Added ∷ rest
      → Runs C rules e (add_define name content ∷ calls) replies
  refused : (name content : List ℕ) (fault : Fault) (e : Expander SourceReader) (calls : List Call)
      (rest replies : List Reply)
      → content_tokens (items_by rules content) ≡ Err fault
      → Runs C rules e calls rest
      → replies ≡ reply.Refused fault ∷ rest
      → Runs C rules e (add_define name content ∷ calls) replies
  included : (text : List ℕ) (e : Expander SourceReader) (calls : List Call) (rest replies : List Reply)
      → is_full e.reader ≡ false
      → Runs C rules (with_included (items_by rules text) e) calls rest
      → replies ≡ reply.Included ∷ rest
      → Runs C rules e (include text ∷ calls) replies
  too_deep : (text : List ℕ) (e : Expander SourceReader) (calls : List Call) (rest replies : List Reply)
      → is_full e.reader ≡ true
      → Runs C rules e calls rest
      → replies ≡ reply.TooDeep ∷ rest
      → Runs C rules e (include text ∷ calls) replies
  given : (o : Outcome) (e f : Expander SourceReader) (calls : List Call) (rest replies : List Reply)
      → C e o f
      → is_fault o ≡ false
      → Runs C rules f calls rest
      → replies ≡ reply.Given o ∷ rest
      → Runs C rules e (next ∷ calls) replies
  failed : (fault : Fault) (e f : Expander SourceReader) (calls : List Call) (replies : List Reply)
      → C e (outcome.Fault fault) f
      → replies ≡ reply.Given (outcome.Fault fault) ∷ []
      → Runs C rules e (next ∷ calls) replies

-- the run of a source by these rules: arguments may be expanded inside one another up to the limit
abbrev pub IsRunBy : Rules → List ℕ → List Call → List Reply → Type 0
IsRunBy rules text calls replies =
    Runs (by_rules (answers_at expansion_limit)) rules (start_by rules (items_by rules text)) calls replies

-- the same by pp-rs's rules
abbrev pub IsRun : List ℕ → List Call → List Reply → Type 0
IsRun text calls replies = IsRunBy pp_rs text calls replies
