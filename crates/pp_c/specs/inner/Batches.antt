-- How far a batch of a stream has got. No contract of a public call cites this.
use Rattle.std.specs.Prelude.{◌≡◌, ℕ, ◌+◌, ◌<◌, ◌≤◌, nat_eq, nat_lt, nat_le, Bool, true, false, ◌&&◌, ◌||◌, MatchBool}
use Rattle.std.specs.Prelude.{List, [], ◌∷◌, ◌++◌, map, length, replicate, Option, Some, None, IfSome, IsSome, is_some}
use Rattle.std.specs.Prelude.{option_map}
use Rattle.pp_model.specs.Run.{next}
use Rattle.pp_rs.specs.Kept.{Preprocessing, is_spent}
use Rattle.pp_rs.specs.TokenRefs.{token_of}
use Rattle.pp_rs.specs.declared.pp.token_ref.TokenRef.{TokenRef}
use Rattle.pp_c.specs.Preprocessed.{Given, token, given_entries, entries_of, asks, lines_in, answers_of, EndsAtLine}
use Rattle.pp_c.specs.Streams.{if_waiting, Streaming}
use Rattle.pp_c.specs.inner.Making.{given_of, is_all, IsSmall, Made}
use Rattle.pp_c.specs.inner.Refusing.{refusal_for}
use Rattle.pp_c.specs.inner.Taking.{HaveRoom, Takes}
use Rattle.pp_c.specs.declared.output.Output.{Output}
use Rattle.pp_c.specs.declared.status.End.{End}
use Rattle.pp_c.specs.declared.status.End.TheVariants.{All, Front, Include}
use Rattle.pp_c.specs.declared.status.Refusal.{Refusal}
use Rattle.pp_c.specs.declared.status.Shortage.{Shortage}
use Rattle.pp_c.specs.declared.status.Shortage.TheVariants.{Budget}
use Rattle.pp_c.specs.declared.stream.batch.Batch.{Batch}
use Rattle.pp_c.specs.declared.stream.batch.Waiting.{Waiting}

-- the item that waits, as the definitions have it
abbrev pub item_in : Waiting → Given
item_in waiting = given_of waiting.item waiting.place waiting.asked

-- the item that waits in a batch, if one does
abbrev pub waiting_in : Batch → Option Given
waiting_in batch = option_map item_in batch.waiting

-- `next` was called as often as there are answers more, and with one that waited before they are these, but for one
-- that waits now
pub record Reads (old : Preprocessing) (waited : Option Given) (answers : List (Option Given)) (new : Preprocessing)
    (waiting : Option Given) : Type 0 where
  pub more : List (Option Given)
  pub made : Made old (replicate (length more) next) more new
  pub same : if_waiting waited ++ more ≡ answers ++ if_waiting waiting
  pub unspent : is_spent new ≡ false

-- the batch takes no more tokens: an item waits, as many were given as may be, or no item more fits
abbrev pub is_full : Batch → Bool
is_full batch =
    is_some batch.waiting || (nat_le batch.most batch.given
    || (nat_lt 0 batch.given && nat_le (length batch.output.items.now) batch.output.sizes.items))

-- nothing was given yet
pub record BeginsBatch (batch : Batch) : Type 0 where
  pub none : batch.given ≡ 0
  pub some : 0 < batch.most
  pub room : HaveRoom batch.output []
  pub small : IsSmall batch.output

-- this item fits after those before it, and was given
pub record GivesOne (item : Given) (old new : Batch) : Type 0 where
  pub fits : HaveRoom old.output [] → HaveRoom old.output (given_entries item)
  pub takes : Takes old.output (given_entries item) new.output
  pub count : new.given ≡ old.given + 1
  pub most : new.most ≡ old.most
  pub waiting : waiting_in new ≡ None

-- this item doesn't fit after those before it, and waits
pub record KeepsOne (item : Given) (old new : Batch) : Type 0 where
  pub over : HaveRoom old.output [] → ¬ (HaveRoom old.output (given_entries item))
  pub count : new.given ≡ old.given
  pub most : new.most ≡ old.most
  pub waiting : waiting_in new ≡ Some item

-- the batch takes tokens, and this one was given, or waits
pub data TakesNext (old : Batch) (reference : TokenRef) (new : Batch) : Type 0 where
  gives : is_full old ≡ false → GivesOne (token (token_of reference)) old new → TakesNext old reference new
  keeps : is_full old ≡ false
      → KeepsOne (token (token_of reference)) old new
      → new.output ≡ old.output
      → TakesNext old reference new

-- this item was given, and the batch ends there if it asks for a text; or it waits, and is counted if it is the first
abbrev pub GivesWaiting : Given → Batch → Option End → Batch → Type 0
GivesWaiting item old None new = GivesOne item old new × (asks item ≡ false)
GivesWaiting item old (Some Include) new = GivesOne item old new × (asks item ≡ true)
GivesWaiting item old (Some Front) new =
    KeepsOne item old new
    × MatchBool (nat_eq old.given 0) (Takes old.output (given_entries item) new.output) (new.output ≡ old.output)
GivesWaiting item old (Some All) new = ⊥

-- so many items were given so far, all fit, and none of them asks for a text
pub record HasGiven (begun : Preprocessing) (waited : Option Given) (first : Output) (most number : ℕ)
    (now : Preprocessing) (waiting : Option Given) (output : Output) : Type 0 where
  pub given : List Given
  pub reads : Reads begun waited (map Some given) now waiting
  pub takes : Takes first (entries_of given) output
  pub room : HaveRoom first (entries_of given)
  pub count : number ≡ length given
  pub within : number ≤ most
  pub quiet : lines_in given ≡ 0
  pub more : IfSome waiting (λ item. number < most)

-- the batch has got so far
abbrev pub HasGot : Preprocessing → Option Given → Output → ℕ → Preprocessing → Batch → Type 0
HasGot begun waited first most now batch =
    HasGiven begun waited first most batch.given now (waiting_in batch) batch.output

-- where a batch ends, and why there
pub data StopsAt (most : ℕ) (first : Output) (given : List Given) (waiting : Option Given) (output : Output)
    (end : End) : Type 0 where
  at_end : end ≡ All
      → length given < most
      → lines_in given ≡ 0
      → waiting ≡ None
      → HaveRoom first (entries_of given)
      → Takes first (entries_of given) output
      → StopsAt most first given waiting output end
  at_line : end ≡ Include
      → length given ≤ most
      → EndsAtLine 0 given
      → waiting ≡ None
      → HaveRoom first (entries_of given)
      → Takes first (entries_of given) output
      → StopsAt most first given waiting output end
  enough : end ≡ Front
      → length given ≡ most
      → lines_in given ≡ 0
      → waiting ≡ None
      → HaveRoom first (entries_of given)
      → Takes first (entries_of given) output
      → StopsAt most first given waiting output end
  full : end ≡ Front
      → 0 < length given
      → length given ≤ most
      → lines_in given ≡ 0
      → length first.items.now ≤ first.sizes.items + length (entries_of given)
      → waiting ≡ None
      → HaveRoom first (entries_of given)
      → Takes first (entries_of given) output
      → StopsAt most first given waiting output end
  no_room : (following : Given)
      → end ≡ Front
      → 0 < length given
      → length given ≤ most
      → lines_in given ≡ 0
      → ¬ (HaveRoom first (entries_of (given ++ following ∷ [])))
      → waiting ≡ Some following
      → HaveRoom first (entries_of given)
      → Takes first (entries_of given) output
      → StopsAt most first given waiting output end
  too_large : (following : Given)
      → end ≡ Front
      → given ≡ []
      → ¬ (HaveRoom first (given_entries following))
      → waiting ≡ Some following
      → Takes first (given_entries following) output
      → StopsAt most first given waiting output end

-- the batch is given
pub record GivesBatch (most : ℕ) (end : End) (begun : Preprocessing) (waited : Option Given) (first : Output)
    (new : Preprocessing) (waiting : Option Given) (output : Output) : Type 0 where
  pub given : List Given
  pub reads : Reads begun waited (answers_of given (is_all end)) new waiting
  pub stops : StopsAt most first given waiting output end

-- memory or the budget ran out for an item, after these
pub record RunsOut (most number : ℕ) (begun : Preprocessing) (waited : Option Given) (first : Output)
    (waiting : Option Given) (output : Output) : Type 0 where
  pub last : Preprocessing
  pub given : HasGiven begun waited first most number last waiting output
  pub none : waiting ≡ None

-- A batch that had got so far has got further, and an item waits; or it ends.
abbrev pub EndsReading : Option End → Preprocessing → Batch → Preprocessing → Batch → Type 0
EndsReading None old before new after =
    IsSome (waiting_in after)
    × ((begun : Preprocessing) (waited : Option Given) (first : Output)
    → IsSmall first
    → HasGot begun waited first before.most old before
    → HasGot begun waited first before.most new after)
EndsReading (Some end) old before new after =
    (begun : Preprocessing) (waited : Option Given) (first : Output)
    → IsSmall first
    → HasGot begun waited first before.most old before
    → GivesBatch before.most end begun waited first new (waiting_in after) after.output

-- memory or the budget ran out for a batch that had got so far
abbrev pub RunsOutFrom : Preprocessing → Batch → Batch → Type 0
RunsOutFrom old before after =
    (begun : Preprocessing) (waited : Option Given) (first : Output)
    → IsSmall first
    → HasGot begun waited first before.most old before
    → RunsOut before.most after.given begun waited first (waiting_in after) after.output

-- nothing is given, since memory or the budget ran out now or before
pub record IsShort (refusal : Refusal) (old new : Streaming) : Type 0 where
  pub shortage : Shortage
  pub is : refusal ≡ refusal_for shortage
  pub ran_out : new.ran_out ≡ Some shortage
  pub waiting : new.waiting ≡ old.waiting
  pub bounded : new.is_bounded ≡ old.is_bounded
  pub before : (known : Shortage) → old.ran_out ≡ Some known → (shortage ≡ known) × (new ≡ old)
  pub within : old.ran_out ≡ None → shortage ≡ Budget → old.is_bounded ≡ true

-- a batch of the stream is given, or memory or the budget ran out after some items
pub data EndsBatch (most : ℕ) (end : End) (old : Streaming) (first : Output) (new : Streaming) (output : Output)
    : Type 0 where
  ended : GivesBatch most end old.preprocessing old.waiting first new.preprocessing new.waiting output
      → old.ran_out ≡ None
      → new.ran_out ≡ None
      → new.is_bounded ≡ old.is_bounded
      → EndsBatch most end old first new output
  cut : (number : ℕ) (shortage : Shortage)
      → end ≡ Front
      → 0 < number
      → RunsOut most number old.preprocessing old.waiting first new.waiting output
      → old.ran_out ≡ None
      → new.ran_out ≡ Some shortage
      → new.is_bounded ≡ old.is_bounded
      → EndsBatch most end old first new output
