-- Runs to the end: errors, and what follows them, too (docs/RULES.md, Runs and After an error).
use Rattle.std.specs.Prelude.{◌≡◌, ℕ, true, false, if◌then◌else◌, List, [], ◌∷◌, Ok, Err}
use Rattle.std.specs.Str.{chars}
use Rattle.pp_lexer.specs.Rules.{pp_rs}
use Rattle.pp_lexer.specs.declared.rules.Rules.{Rules}
use Rattle.pp_lexer.specs.declared.token.Token.{Token}
use Rattle.pp_model.specs.Places.{Fault}
use Rattle.pp_model.specs.Painting.{item_of}
use Rattle.pp_model.specs.Reading.{Expander}
use Rattle.pp_model.specs.Calls.{Answers}
use Rattle.pp_model.specs.Emitting.{Emits, answers_at, expansion_limit}
use Rattle.pp_model.specs.SourceReader.{SourceReader, is_full}
use Rattle.pp_model.specs.Run.{Call, add_define, include, next, items_by, content_tokens, start_by, with_added}
use Rattle.pp_model.specs.Run.{with_included, ends_run}
use Rattle.pp_model.specs.Onward.{Onward, onward_reading}
use Rattle.pp_model.specs.declared.call.Reply.{Reply}
use Rattle.pp_model.specs.declared.call.Reply.TheVariants as reply
use Rattle.pp_model.specs.declared.read.Taken.{Taken}

-- an expander whose reader goes on, if the rest of these texts is dead
abbrev pub going_on : List ℕ → Expander SourceReader → Expander Onward
going_on dead e =
    record { held = e.held; list = e.list; reader = record { reader = e.reader; dead = dead }; hidden = e.hidden }

-- the same without what is dead
abbrev pub without_dead : Expander Onward → Expander SourceReader
without_dead e = record { held = e.held; list = e.list; reader = e.reader.reader; hidden = e.hidden }

-- a change of what is read
abbrev pub changed_by : (Expander SourceReader → Expander SourceReader) → Expander Onward → Expander Onward
changed_by change e = going_on e.reader.dead (change (without_dead e))

-- The replies to the calls.
pub data RunsToEnd (A : Answers) (rules : Rules) : Expander Onward → List Call → List Reply → Type 0 where
  done : (e : Expander Onward) (replies : List Reply) → replies ≡ [] → RunsToEnd A rules e [] replies
  added : (name content : List ℕ) (tokens : List Token) (e : Expander Onward) (calls : List Call)
      (rest replies : List Reply)
      → content_tokens (items_by rules content) ≡ Ok tokens
      → RunsToEnd A rules (changed_by (with_added (chars name) tokens) e) calls rest
      → replies ≡ reply.Added ∷ rest
      → RunsToEnd A rules e (add_define name content ∷ calls) replies
  refused : (name content : List ℕ) (fault : Fault) (e : Expander Onward) (calls : List Call)
      (rest replies : List Reply)
      → content_tokens (items_by rules content) ≡ Err fault
      → RunsToEnd A rules e calls rest
      → replies ≡ reply.Refused fault ∷ rest
      → RunsToEnd A rules e (add_define name content ∷ calls) replies
  included : (text : List ℕ) (e : Expander Onward) (calls : List Call) (rest replies : List Reply)
      → is_full e.reader.reader ≡ false
      → RunsToEnd A rules (changed_by (with_included (items_by rules text)) e) calls rest
      → replies ≡ reply.Included ∷ rest
      → RunsToEnd A rules e (include text ∷ calls) replies
  too_deep : (text : List ℕ) (e : Expander Onward) (calls : List Call) (rest replies : List Reply)
      → is_full e.reader.reader ≡ true
      → RunsToEnd A rules e calls rest
      → replies ≡ reply.TooDeep ∷ rest
      → RunsToEnd A rules e (include text ∷ calls) replies
  given : (x : Taken) (e f : Expander Onward) (calls : List Call) (rest replies : List Reply)
      → Emits (onward_reading A) A e x f
      → RunsToEnd A rules f calls rest
      → replies ≡ reply.Given (item_of x) ∷ rest
      → RunsToEnd A rules e (next ∷ calls) replies

-- the run of a source by these rules to its end
abbrev pub IsRunToEndBy : Rules → List ℕ → List Call → List Reply → Type 0
IsRunToEndBy rules text calls replies =
    RunsToEnd (answers_at expansion_limit) rules (going_on [] (start_by rules (items_by rules text))) calls replies

-- the same by pp-rs's rules
abbrev pub IsRunToEnd : List ℕ → List Call → List Reply → Type 0
IsRunToEnd text calls replies = IsRunToEndBy pp_rs text calls replies

-- the replies up to and with the first error item
abbrev pub to_first_error : List Reply → List Reply
to_first_error [] = []
to_first_error (first ∷ rest) = first ∷ (if ends_run first then [] else to_first_error rest)
