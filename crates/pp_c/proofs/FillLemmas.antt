-- How a batch of a stream is filled.
use Rattle.std.proofs.Common.{◌≡◌, ◌≢◌, ◌⊎◌, inl, inr, ◌∙◌, ℕ, ◌<◌, ◌≤◌, Bool, true, false, ◌&&◌, ◌||◌, [], length, refl, ap, Option, Some, None, Ok, arith}
use Rattle.std.specs.Prelude.{nat_eq, nat_lt, nat_le, is_some, option_map, IsSome, MatchBool}
use Rattle.std.proofs.lemmas.Bool.{eqb-false, leb-false, leb-true}
use lib.Dec.{eqb→eq}
use Rattle.pp_rs.specs.Giving.{AreGiven, nothing, one_more}
use Rattle.pp_rs.specs.Kept.{Preprocessing}
use Rattle.pp_rs.specs.Preprocessing.{IsNextItem}
use Rattle.pp_rs.specs.TokenRefs.{token_of}
use Rattle.pp_rs.specs.declared.pp.token_ref.TokenRef.{TokenRef}
use Rattle.pp_c.specs.Preprocessed.{Given, given_entries, token as made_token}
use Rattle.pp_c.specs.declared.output.Output.{Output}
use Rattle.pp_c.specs.declared.status.End.{End}
use Rattle.pp_c.specs.declared.status.End.TheVariants.{All, Front, Include}
use Rattle.pp_c.specs.declared.stream.batch.Waiting.{Waiting}
use Rattle.pp_c.specs.declared.stream.batch.Batch.{Batch}
use Rattle.pp_c.specs.inner.Batches.{is_full, item_in, waiting_in, EndsReading, HasGiven, HasGot, KeepsOne, TakesNext, gives, keeps, GivesBatch, GivesWaiting, RunsOut, RunsOutFrom}
use Rattle.pp_c.specs.inner.Making.{IsSmall}
use Rattle.pp_c.specs.inner.Taking.{HaveRoom, Takes}
use Rattle.pp_c.proofs.BatchLemmas.{batch_asks, batch_no_room, batch_too_large, given_more, given_waits, still_room}
use Rattle.pp_c.proofs.NextLemmas.{next_token}
use Rattle.pp_c.proofs.StreamLemmas.{reads_call}

none_waits : (waiting : Option Waiting) (rest : Bool) → (is_some waiting || rest) ≡ false → option_map item_in waiting ≡ None
none_waits None rest e = refl
none_waits (Some waiting) rest e = let bad : true ≡ false = e in cc

less_by : (waiting : Option Waiting) (given most : ℕ) (rest : Bool) → (is_some waiting || (nat_le most given || rest)) ≡ false → given < most
less_by (Some waiting) given most rest e = let bad : true ≡ false = e in cc
less_by None given most rest e = less_if (nat_le most given) refl e
  where
    less_if : (all : Bool) → nat_le most given ≡ all → (all || rest) ≡ false → given < most
    less_if true is bad = let wrong : true ≡ false = bad in cc
    less_if false is more = leb-false most given is

-- a batch that isn't full has no item that waits
pub open_waits : (batch : Batch) → is_full batch ≡ false → waiting_in batch ≡ None
open_waits batch wants = none_waits batch.waiting _ wants

-- more may be given in it
pub open_less : (batch : Batch) → is_full batch ≡ false → batch.given < batch.most
open_less batch wants = less_by batch.waiting batch.given batch.most _ wants

full_by : (waiting : Option Waiting) (given most room sizes : ℕ) → option_map item_in waiting ≡ None
    → (is_some waiting || (nat_le most given || (nat_lt 0 given && nat_le room sizes))) ≡ true → (most ≤ given) ⊎ ((0 < given) × (room ≤ sizes))
full_by (Some waiting) given most room sizes none e = cc
full_by None given most room sizes none e = enough_if (nat_le most given) refl e
  where
    over_if : (some over : Bool) → nat_lt 0 given ≡ some → nat_le room sizes ≡ over → (some && over) ≡ true → (0 < given) × (room ≤ sizes)
    over_if true true positive above is = (leb-true 1 given positive, leb-true room sizes above)
    over_if true false positive above is = let bad : false ≡ true = is in cc
    over_if false over positive above is = let bad : false ≡ true = is in cc

    enough_if : (all : Bool) → nat_le most given ≡ all → (all || (nat_lt 0 given && nat_le room sizes)) ≡ true → (most ≤ given) ⊎ ((0 < given) × (room ≤ sizes))
    enough_if true all is = inl (leb-true most given all)
    enough_if false all is = inr (over_if (nat_lt 0 given) (nat_le room sizes) refl refl is)

-- a full batch in which no item waits has as many as may be given, or no room
pub full_without : (batch : Batch) → is_full batch ≡ true → waiting_in batch ≡ None
    → (batch.most ≤ batch.given) ⊎ ((0 < batch.given) × (length batch.output.items.now ≤ batch.output.sizes.items))
full_without batch full none = full_by batch.waiting batch.given batch.most _ _ none full

-- the item that waits
pub held_in : (waiting : Option Given) → IsSome waiting → (item : Given) × (waiting ≡ Some item)
held_in None e = let bad : false ≡ true = e in cc
held_in (Some item) e = (item, refl)

-- tokens are given, or wait
pub fewer : (p : Preprocessing) (old : Batch) (q : Preprocessing) (new : Batch) → AreGiven TakesNext p old q new → old.given ≤ new.given
fewer p old q new (nothing p' batch e f) = omega (arith, ap (λ (b : Batch). b.given) f)
fewer p old q new (one_more token now p' between batch given came line (gives wants one)) = omega (arith, fewer p old now between given, one.count)
fewer p old q new (one_more token now p' between batch given came line (keeps wants one same)) = omega (arith, fewer p old now between given, one.count)

pub same_most : (p : Preprocessing) (old : Batch) (q : Preprocessing) (new : Batch) → AreGiven TakesNext p old q new → new.most ≡ old.most
same_most p old q new (nothing p' batch e f) = ap (λ (b : Batch). b.most) f
same_most p old q new (one_more token now p' between batch given came line (gives wants one)) = one.most ∙ same_most p old now between given
same_most p old q new (one_more token now p' between batch given came line (keeps wants one same)) = one.most ∙ same_most p old now between given

module _ (begun : Preprocessing) (waited : Option Given) (first : Output) (most : ℕ) (small : IsSmall first) where
  module _ (now : Preprocessing) (old : Batch) (same : old.most ≡ most) (h : HasGot begun waited first most now old) (wants : is_full old ≡ false) where
    none : waiting_in old ≡ None
    none = open_waits old wants

    before : HasGiven begun waited first most old.given now None old.output
    before = rw none at h

    less : old.given < most
    less = rw same at (open_less old wants)

    -- a token is given
    gives_token : (reference : TokenRef) (new : Preprocessing) (after : Batch) → IsNextItem now (Some (Ok (token_of reference))) new
        → TakesNext old reference after → HasGot begun waited first most new after
    gives_token reference new after came (gives _ one) =
        let item = made_token (token_of reference) in
        let waits = given_waits begun waited first most small old.given now old.output before new item
        (reads_call (Some item) now new (next_token now new before.reads.unspent (token_of reference) came)) less in
        rw (one.waiting, one.count)
        (given_more begun waited first most small old.given new item old.output waits after.output
        (one.fits (still_room begun waited first most small old.given new item old.output waits)) one.takes refl)
    gives_token reference new after came (keeps _ one output) =
        let item = made_token (token_of reference) in
        rw (one.waiting, one.count, output)
        (given_waits begun waited first most small old.given now old.output before new item
        (reads_call (Some item) now new (next_token now new before.reads.unspent (token_of reference) came)) less)

  -- tokens are given, up to one that waits
  pub given_on : (old : Preprocessing) (batch : Batch) → batch.most ≡ most → HasGot begun waited first most old batch
      → (last : Preprocessing) (taken : Batch) → AreGiven TakesNext old batch last taken → HasGot begun waited first most last taken
  given_on old batch same h last taken (nothing p b e f) = rw (e, f) h
  given_on old batch same h last taken (one_more reference now p between b given came line took) =
      let most_now = same_most old batch now between given ∙ same in
      gives_token now between most_now (given_on old batch same h now between given) (open_of took) reference last taken came took
    where
      open_of : {x : Batch} {t : TokenRef} {y : Batch} → TakesNext x t y → is_full x ≡ false
      open_of (gives wants one) = wants
      open_of (keeps wants one output) = wants

  module _ (p : Preprocessing) (old : Batch) (same : old.most ≡ most) (h : HasGot begun waited first most p old) where
    here : HasGot begun waited first old.most p old
    here = rw same h

    -- it gets further, or ends, or memory or the budget runs out
    pub reads_on : (q : Preprocessing) (new : Batch) → EndsReading None p old q new → HasGot begun waited first most q new
    reads_on q new r = rw same at (r.1 begun waited first small here)

    pub reads_last : (end : End) (q : Preprocessing) (new : Batch) → EndsReading (Some end) p old q new
        → GivesBatch most end begun waited first q (waiting_in new) new.output
    reads_last end q new r = rw same at (r begun waited first small here)

    pub runs_out : (new : Batch) → RunsOutFrom p old new → RunsOut most new.given begun waited first (waiting_in new) new.output
    runs_out new r = rw same at (r begun waited first small here)

  module _ (now : Preprocessing) (old new : Batch) (item : Given) (waits : waiting_in old ≡ Some item) (h : HasGot begun waited first most now old) where
    held : HasGiven begun waited first most old.given now (Some item) old.output
    held = rw waits at h

    room : HaveRoom old.output []
    room = still_room begun waited first most small old.given now item old.output held

    -- the item that waited is given
    pub settles : GivesWaiting item old None new → HasGot begun waited first most now new
    settles (one, quiet) =
        rw (one.waiting, one.count) (given_more begun waited first most small old.given now item old.output held new.output (one.fits room) one.takes quiet)

    waits_by : (is_first : Bool) → nat_eq old.given 0 ≡ is_first → KeepsOne item old new
        → MatchBool is_first (Takes old.output (given_entries item) new.output) (new.output ≡ old.output)
        → GivesBatch most Front begun waited first now (waiting_in new) new.output
    waits_by true e one takes =
        rw one.waiting (batch_too_large begun waited first most small old.given now item old.output held new.output (eqb→eq old.given 0 (rw e tt)) (one.over room) takes)
    waits_by false e one output =
        let some : old.given ≢ 0 = eqb-false old.given 0 e in
        rw (one.waiting, output) (batch_no_room begun waited first most small old.given now item old.output held (omega (arith, some)) (one.over room))

    -- the batch ends with it, or before it
    pub settles_last : (end : End) → GivesWaiting item old (Some end) new
        → GivesBatch most end begun waited first now (waiting_in new) new.output
    settles_last All wrong = absurd wrong
    settles_last Front (one, output) = waits_by (nat_eq old.given 0) refl one output
    settles_last Include (one, asking) =
        rw one.waiting (batch_asks begun waited first most small old.given now item old.output held new.output (one.fits room) one.takes asking)
