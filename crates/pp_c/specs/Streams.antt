-- Streams: a source whose items a caller in C takes call by call, with definitions and texts between them.
use Rattle.std.specs.Prelude.{◌≡◌, ◌≢◌, ℕ, ◌+◌, ◌<◌, ◌≤◌, Bool, true, false, List, [], ◌∷◌, ◌++◌, length, replicate}
use Rattle.std.specs.Prelude.{Option, Some, None, Result, Ok, Err}
use Rattle.pp_model.specs.Places.{Fault}
use Rattle.pp_model.specs.Run.{Call, add_define, next, items_by, content_tokens}
use Rattle.pp_rs.specs.Kept.{Preprocessing}
use Rattle.pp_rs.specs.declared.rules.Rules.{Rules}
use Rattle.pp_rs.specs.declared.token.Token.{Token}
use Rattle.pp_c.specs.Ends.{HasRoom}
use Rattle.pp_c.specs.Entries.{room_of}
use Rattle.pp_c.specs.Preprocessed.{Given, given_entries, entries_of, lines_in, answers_of, AreAnswersBy, AreWritten}
use Rattle.pp_c.specs.Preprocessed.{EndsAtLine}
use Rattle.pp_c.specs.inner.Reached.{Reached}
use Rattle.pp_c.specs.declared.items.Item.{Item}
use Rattle.pp_c.specs.declared.items.Sizes.{Sizes}
use Rattle.pp_c.specs.declared.status.Shortage.{Shortage}
use Rattle.pp_c.specs.declared.status.Shortage.TheVariants.{Memory, Budget}

-- what a caller of a stream can keep of it: by whose rules the source is read, the source, all calls so far, and all
-- answers of `next` that were given, of which `None` is the end
pub record Log : Type 0 where
  pub rules : Rules
  pub source : List ℕ
  pub calls : List Call
  pub answers : List (Option Given)

-- before the first call
abbrev pub log_of : Rules → List ℕ → Log
log_of rules source = record { rules = rules; source = source; calls = []; answers = [] }

-- with one more call
abbrev pub with_call : Call → Log → Log
with_call call log = record log { calls = log.calls ++ call ∷ [] }

-- with more calls of `next`, and more answers
abbrev pub with_answers : ℕ → List (Option Given) → Log → Log
with_answers count answers log = record log {
  calls = log.calls ++ replicate count next;
  answers = log.answers ++ answers;
}

-- What a stream keeps: the preprocessor of its source, the item that was read and not given for want of room, what ran
-- out, so that no item comes any more, and whether there is a budget.
pub record Streaming : Type 0 where
  pub preprocessing : Preprocessing
  pub waiting : Option Given
  pub ran_out : Option Shortage
  pub is_bounded : Bool

-- the answer that was read and is given next, if there is one
abbrev pub if_waiting : Option Given → List (Option Given)
if_waiting None = []
if_waiting (Some given) = Some given ∷ []

-- the answers that were read: those that were given, and the one that is given next, if there is one
abbrev pub answers_read : Log → Streaming → List (Option Given)
answers_read log stream = log.answers ++ if_waiting stream.waiting

-- The stream is where these calls have led: their answers are those of the run.
pub record HasMade (log : Log) (stream : Streaming) : Type 0 where
  pub are : AreAnswersBy log.rules log.source log.calls (answers_read log stream)
  pub last : Preprocessing
  pub reached : Reached log.rules log.source log.calls (answers_read log stream) last
  pub goes_on : stream.ran_out ≡ None → stream.preprocessing ≡ last

-- a stream goes on, and this item is given next, if one was read
abbrev pub GoesOnWith : Option Given → Streaming → Type 0
GoesOnWith waiting stream = (stream.waiting ≡ waiting) × (stream.ran_out ≡ None)

-- a stream before its first call
pub record IsOpened (rules : Rules) (is_bounded : Bool) (source : List ℕ) (stream : Streaming) : Type 0 where
  pub made : HasMade (log_of rules source) stream
  pub goes_on : GoesOnWith None stream
  pub bounded : stream.is_bounded ≡ is_bounded

-- one more call was made, and nothing else changes
pub record MakesCall (call : Call) (old new : Streaming) : Type 0 where
  pub made : (log : Log) → HasMade log old → HasMade (with_call call log) new
  pub waiting : new.waiting ≡ old.waiting
  pub ran_out : new.ran_out ≡ old.ran_out
  pub bounded : new.is_bounded ≡ old.is_bounded

-- the first error of a content, if it has one
abbrev pub fault_of : Result (List Token) Fault → Option Fault
fault_of (Ok tokens) = None
fault_of (Err fault) = Some fault

-- a definition was added, or has this fault
pub record Defines (name content : List ℕ) (fault : Option Fault) (old new : Streaming) : Type 0 where
  pub makes : MakesCall (add_define name content) old new
  pub reply : (log : Log) → HasMade log old → fault ≡ fault_of (content_tokens (items_by log.rules content))

-- `next` was called so often that there are these answers: one that waited before is among them, and one that waits now
-- isn't
pub record GivesAnswers (answers : List (Option Given)) (old new : Streaming) : Type 0 where
  pub asked : ℕ
  pub count : asked + length (if_waiting old.waiting) ≡ length answers + length (if_waiting new.waiting)
  pub made : (log : Log) → HasMade log old → HasMade (with_answers asked answers log) new
  pub bounded : new.is_bounded ≡ old.is_bounded

-- why a batch of at most this many items ends after these, which fit into this room, before the end
pub data StopsAfter (most items_room texts_room : ℕ) (given : List Given) (new : Streaming) : Type 0 where
  -- as many were asked for
  enough : length given ≡ most → GoesOnWith None new → StopsAfter most items_room texts_room given new
  -- no item more fits
  full : 0 < length given
      → items_room ≤ length (entries_of given)
      → GoesOnWith None new
      → StopsAfter most items_room texts_room given new
  -- the next one doesn't fit
  no_room : (following : Given)
      → 0 < length given
      → ¬ (HasRoom items_room texts_room (room_of (entries_of (given ++ following ∷ []))))
      → GoesOnWith (Some following) new
      → StopsAfter most items_room texts_room given new
  -- memory or the budget ran out for the next one
  short : (shortage : Shortage)
      → 0 < length given
      → new.waiting ≡ None
      → new.ran_out ≡ Some shortage
      → StopsAfter most items_room texts_room given new

-- an item waits that takes this much room, and nothing was given
pub record IsTooLarge (given : List Given) (has_ended : Bool) (new : Streaming) (sizes : Sizes) : Type 0 where
  pub item : Given
  pub waits : GoesOnWith (Some item) new
  pub room : sizes ≡ room_of (given_entries item)
  pub none : given ≡ []
  pub goes_on : has_ended ≡ false

-- The next items of a stream were written, at most `most`, and the answer says where they end.
pub record GivesItems (most answer : ℕ) (old new : Streaming) (items items_after : List Item)
    (texts texts_after : List ℕ) (sizes : Sizes) : Type 0 where
  pub given : List Given
  pub has_ended : Bool
  pub gives : GivesAnswers (answers_of given has_ended) old new
  pub done : answer ≡ 0
      → (has_ended ≡ true) × (length given < most) × (lines_in given ≡ 0) × GoesOnWith None new
  pub partial : answer ≡ 7
      → (has_ended ≡ false) × (length given ≤ most) × (lines_in given ≡ 0)
      × StopsAfter most (length items) (length texts) given new
  pub asking : answer ≡ 9
      → (has_ended ≡ false) × (length given ≤ most) × EndsAtLine 0 given × GoesOnWith None new
  pub written : answer ≢ 1 → AreWritten (entries_of given) items items_after texts texts_after sizes
  pub too_small : answer ≡ 1 → IsTooLarge given has_ended new sizes

-- the number that says what ran out
abbrev pub shortage_number : Shortage → ℕ
shortage_number Memory = 5
shortage_number Budget = 6

-- nothing was given, since this ran out
pub record GivesNothing (answer : ℕ) (old new : Streaming) : Type 0 where
  pub shortage : Shortage
  pub ran_out : new.ran_out ≡ Some shortage
  pub number : answer ≡ shortage_number shortage
  pub stays : (log : Log) → HasMade log old → HasMade log new
  pub waiting : new.waiting ≡ old.waiting
  pub bounded : new.is_bounded ≡ old.is_bounded
