-- The reader of the definitions that the plain program's reader of a source is, and what one call of it does.
use Rattle.std.specs.Prelude.{◌≡◌, ℕ, Bool, true, false, List, Ok, Err}
use Rattle.std.specs.Str.{chars}
use Rattle.pp_lexer.specs.Items.{Lexeme}
use Rattle.pp_lexer.specs.declared.token.PreprocessorError.{PreprocessorError}
use Rattle.pp_lexer.specs.declared.token.PreprocessorError.TheVariants.{OutOfMemory}
use Rattle.pp_lexer.specs.declared.token.Token.{Token}
use Rattle.pp_lexer.specs.declared.rules.Rules.{Rules}
use Rattle.pp_model.specs.Places.{Fault}
use Rattle.pp_model.specs.Painting.{item_of}
use Rattle.pp_model.specs.Reading.{Expander}
use Rattle.pp_model.specs.Calls.{Answers}
use Rattle.pp_model.specs.Emitting.{Emits}
use Rattle.pp_model.specs.SourceReader.{is_full}
use Rattle.pp_reference.specs.inner.ReaderState.{reader_of}
use Rattle.pp_model.specs.Run.{Call, add_define, include, next, items_by, content_tokens, with_added}
use Rattle.pp_model.specs.Run.{with_included}
use Rattle.pp_model.specs.Onward.{Onward, onward_reading}
use Rattle.pp_model.specs.RunToEnd.{changed_by}
use Rattle.pp_model.specs.declared.call.Reply.{Reply}
use Rattle.pp_model.specs.declared.call.Reply.TheVariants as reply
use Rattle.pp_model.specs.declared.read.Taken.{Taken}
use Rattle.pp_reference.specs.declared.source.Source.{Source}
use Rattle.pp_reference.specs.declared.stop.Halt.{Halt}
use Rattle.pp_reference.specs.declared.stop.Halt.TheVariants as halt

abbrev pub source_state : Source → Onward
source_state source = record { reader = reader_of source.reader; dead = source.dead.items }

-- the error is that memory ran out
abbrev pub is_out_of_memory : PreprocessorError → Bool
is_out_of_memory OutOfMemory = true
is_out_of_memory _ = false

abbrev pub is_refused : Lexeme → Bool
is_refused (Ok token) = false
is_refused (Err fault) = is_out_of_memory fault.0

-- the reply to one call, if contents and texts are read by these rules, and the state after it
pub data Replying (A : Answers) (rules : Rules) : Expander Onward → Call → Reply → Expander Onward → Type 0 where
  added : (name content : List ℕ) (tokens : List Token) (e f : Expander Onward) (r : Reply)
      → content_tokens (items_by rules content) ≡ Ok tokens
      → r ≡ reply.Added
      → f ≡ changed_by (with_added (chars name) tokens) e
      → Replying A rules e (add_define name content) r f
  refused : (name content : List ℕ) (fault : Fault) (e f : Expander Onward) (r : Reply)
      → content_tokens (items_by rules content) ≡ Err fault
      → r ≡ reply.Refused fault
      → f ≡ e
      → Replying A rules e (add_define name content) r f
  included : (text : List ℕ) (e f : Expander Onward) (r : Reply)
      → is_full e.reader.reader ≡ false
      → r ≡ reply.Included
      → f ≡ changed_by (with_included (items_by rules text)) e
      → Replying A rules e (include text) r f
  too_deep : (text : List ℕ) (e f : Expander Onward) (r : Reply)
      → is_full e.reader.reader ≡ true
      → r ≡ reply.TooDeep
      → f ≡ e
      → Replying A rules e (include text) r f
  given : (x : Taken) (e f : Expander Onward) (r : Reply)
      → Emits (onward_reading A) A e x f
      → r ≡ reply.Given (item_of x)
      → Replying A rules e next r f

-- the reply to a content that is refused with this fault; a stop has no reply
abbrev pub RefusedBy : Halt → Reply → Type 0
RefusedBy (halt.Fault fault) r = r ≡ reply.Refused fault
RefusedBy (halt.Stop stop) r = ⊥
