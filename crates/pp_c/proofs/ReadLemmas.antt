-- What is read of a stream for its next item.
use Rattle.std.proofs.Common.{◌≡◌, ◌⊎◌, inl, inr, ◌∙◌, Bool, true, false, ◌||◌, ◌<◌, ◌≤◌, length, Option, Some, None, is_some, refl, ap, arith}
use Rattle.std.specs.Prelude.{option_map}
use Rattle.pp_macros.specs.Item.{Item}
use Rattle.pp_rs.specs.Giving.{ComesUnlessFull, GivesTokens}
use Rattle.pp_rs.specs.Kept.{Preprocessing, error_place, asked_line}
use Rattle.pp_rs.specs.Preprocessing.{IsNextItem, is_refusal}
use Rattle.pp_c.specs.Preprocessed.{Given}
use Rattle.pp_c.specs.declared.output.Output.{Output}
use Rattle.pp_c.specs.declared.status.End.TheVariants.{All, Front}
use Rattle.pp_c.specs.declared.stream.batch.Waiting.{Waiting}
use Rattle.pp_c.specs.declared.stream.batch.Batch.{Batch}
use Rattle.pp_c.specs.inner.Batches.{is_full, item_in, waiting_in, EndsReading, HasGiven, HasGot, GivesBatch, RunsOutFrom, TakesNext}
use Rattle.pp_c.specs.inner.Making.{given_of, IsSmall}
use Rattle.pp_c.proofs.BatchLemmas.{batch_ends, batch_enough, batch_full, batch_short, given_waits}
use Rattle.pp_c.proofs.FillLemmas.{fewer, full_without, given_on, open_less, open_waits, same_most}
use Rattle.pp_c.proofs.NextLemmas.{next_end, next_item}
use Rattle.pp_c.proofs.StreamLemmas.{reads_call}

-- one waits as an item, or none
pub waits_as : (waiting : Option Waiting) → is_some (option_map item_in waiting) ≡ is_some waiting
waits_as None = refl
waits_as (Some waiting) = refl

full_if : (waits : Bool) (rest : Bool) → waits ≡ true → (waits || rest) ≡ true
full_if true rest e = refl
full_if false rest e = let bad : false ≡ true = e in cc

none_if : (waiting : Option Waiting) → is_some waiting ≡ false → option_map item_in waiting ≡ None
none_if None e = refl
none_if (Some waiting) e = let bad : true ≡ false = e in cc

-- an item comes only if the sink isn't full
open_if : (full : Bool) (p q : Preprocessing) (item : Item) → ComesUnlessFull full p (Some item) q → full ≡ false
open_if true p q item h = let bad : Some item ≡ None = h.0 in cc
open_if false p q item h = refl

pub same_twice : {A : Type 0} (x y : A) → (x ≡ y) ⊎ (x ≡ y) → x ≡ y
same_twice x y (inl e) = e
same_twice x y (inr e) = e

-- what waits already is read
pub reads_before : (p : Preprocessing) (batch : Batch) → is_some batch.waiting ≡ true → EndsReading None p batch p batch
reads_before p batch waits = (waits_as batch.waiting ∙ waits, λ begun waited first small h. h)

module _ (p : Preprocessing) (batch : Batch) (q : Preprocessing) (after : Batch) where
  abbrev Gave : Option Item → Type 0
  Gave answer = GivesTokens TakesNext (λ old new. new ≡ old) is_full p batch answer q after

  -- the batch has got as far as the tokens that came
  at_last : (answer : Option Item) (g : Gave answer) (begun : Preprocessing) (waited : Option Given) (first : Output) → IsSmall first
      → HasGot begun waited first batch.most p batch → HasGot begun waited first batch.most g.last g.taken
  at_last answer g begun waited first small h = given_on begun waited first batch.most small p batch refl h g.last g.taken g.given

  pub most_kept : (answer : Option Item) (g : Gave answer) → after ≡ g.taken → after.most ≡ batch.most
  most_kept answer g same = ap (λ (b : Batch). b.most) same ∙ same_most p batch g.last g.taken g.given

  -- as many as before, or more
  pub no_fewer : (answer : Option Item) (g : Gave answer) → after ≡ g.taken → batch.given ≤ after.given
  no_fewer answer g same = omega (arith, fewer p batch g.last g.taken g.given, ap (λ (b : Batch). b.given) same)

  module _ (g : Gave None) where
    -- nothing was read after a token that filled it
    stops_there : is_full after ≡ true → q ≡ g.last
    stops_there full = let there : is_full g.taken ≡ true = rw (g.sink refl) at full in (rw there at g.next).1

    at_stop : is_full after ≡ true → (begun : Preprocessing) (waited : Option Given) (first : Output) → IsSmall first
        → HasGot begun waited first batch.most p batch → HasGot begun waited first batch.most q after
    at_stop full begun waited first small h = rw (stops_there full, g.sink refl) (at_last None g begun waited first small h)

    -- a token waits
    pub reads_token : is_some after.waiting ≡ true → EndsReading None p batch q after
    reads_token waits = (waits_as after.waiting ∙ waits, at_stop (full_if (is_some after.waiting) _ waits))

    module _ (free : is_some after.waiting ≡ false) where
      none : waiting_in after ≡ None
      none = none_if after.waiting free

      full_ends : (begun : Preprocessing) (waited : Option Given) (first : Output) → IsSmall first → HasGiven begun waited first batch.most after.given q None after.output
          → (after.most ≤ after.given) ⊎ ((0 < after.given) × (length after.output.items.now ≤ after.output.sizes.items))
          → GivesBatch batch.most Front begun waited first q None after.output
      full_ends begun waited first small got (inl all) =
          batch_enough begun waited first batch.most small after.given q after.output got
          (let within : after.given ≤ batch.most = got.within in omega (arith, within, all, most_kept None g (g.sink refl)))
      full_ends begun waited first small got (inr (some, over)) = batch_full begun waited first batch.most small after.given q after.output got some over

      -- the batch is full
      pub reads_full : is_full after ≡ true → EndsReading (Some Front) p batch q after
      reads_full full begun waited first small h =
          rw none (full_ends begun waited first small (rw none at (at_stop full begun waited first small h)) (full_without after full none))

      -- the end is read
      pub reads_end : is_full after ≡ false → EndsReading (Some All) p batch q after
      reads_end wants begun waited first small h =
          let there : is_full g.taken ≡ false = rw (g.sink refl) at wants in
          let came : IsNextItem g.last None q = rw there at g.next in
          let got : HasGot begun waited first batch.most g.last after = rw (g.sink refl) (at_last None g begun waited first small h) in
          let free_got : HasGiven begun waited first batch.most after.given g.last None after.output = rw none at got in
          let most : after.most ≡ batch.most = most_kept None g (g.sink refl) in
          let less : after.given < batch.most = rw most at (open_less after wants) in
          rw none (batch_ends begun waited first batch.most small after.given g.last after.output free_got q less
          (reads_call None g.last q (next_end g.last q free_got.reads.unspent came)))

  module _ (item : Item) (g : Gave (Some item)) where
    wants : is_full g.taken ≡ false
    wants = open_if (is_full g.taken) g.last q item g.next

    came : IsNextItem g.last (Some item) q
    came = rw wants at g.next

    got_free : (begun : Preprocessing) (waited : Option Given) (first : Output) → IsSmall first
        → HasGot begun waited first batch.most p batch → HasGiven begun waited first batch.most g.taken.given g.last None g.taken.output
    got_free begun waited first small h =
        let none : waiting_in g.taken ≡ None = open_waits g.taken wants in
        rw none at (at_last (Some item) g begun waited first small h)

    -- an item is read, and waits
    pub reads_item : is_refusal (Some item) ≡ false → (new : Batch) → waiting_in new ≡ Some (given_of item (error_place q) (asked_line q)) → new.given ≡ after.given
        → new.output ≡ after.output → EndsReading None p batch q new
    reads_item reported new waits count output = (
      rw waits refl,
      λ begun waited first small h.
          let same = g.sink reported in
          let free = got_free begun waited first small h in
          let most : g.taken.most ≡ batch.most = same_most p batch g.last g.taken g.given in
          let less : g.taken.given < batch.most = rw most at (open_less g.taken wants) in
          rw (waits, count, output, same)
          (given_waits begun waited first batch.most small g.taken.given g.last g.taken.output free q (given_of item (error_place q) (asked_line q))
          (reads_call (Some (given_of item (error_place q) (asked_line q))) g.last q (next_item g.last q free.reads.unspent item reported came)) less),
    )

    -- memory or the budget runs out
    pub reads_short : RunsOutFrom p batch after
    reads_short begun waited first small h =
        let same : after ≡ g.taken = same_twice after g.taken g.refused in
        let none : waiting_in g.taken ≡ None = open_waits g.taken wants in
        rw (same, none) (batch_short begun waited first batch.most small g.taken.given g.last g.taken.output (got_free begun waited first small h))
