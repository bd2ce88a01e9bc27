-- Items that are given in a batch of a stream.
use Rattle.std.proofs.Common.{◌≡◌, ◌∙◌, ℕ, zero, suc, nat_eq, ◌+◌, ◌-◌, ◌<◌, ◌≤◌, Bool, true, false, List, [], ◌∷◌, ◌++◌, map, length, refl, ap, Option, Some, None, IfSome, arith}
use lib.Dec.{eqb→eq}
use Rattle.std.specs.Prelude.{not, Result, Ok, Err, OnErr}
use Rattle.std.proofs.lemmas.List.{append-nil, map_push, length_push}
use Rattle.pp_rs.specs.Kept.{Preprocessing, is_spent}
use Rattle.pp_c.specs.Entries.{Entry, room_of}
use Rattle.pp_c.specs.Preprocessed.{Given, given_entries, entries_of, asks, lines_in}
use Rattle.pp_c.specs.inner.Batches.{Reads, HasGiven, at_end, at_line, enough, full, no_room, too_large, GivesBatch, RunsOut}
use Rattle.pp_c.specs.inner.Making.{IsSmall}
use Rattle.pp_c.specs.inner.Taking.{HaveRoom, Takes}
use Rattle.pp_c.specs.declared.output.Output.{Output}
use Rattle.pp_c.specs.declared.status.End.TheVariants.{All, Front, Include}
use Rattle.pp_c.proofs.ProgressLemmas.{entries_of-append, lines_push, line_is, takes_item}
use Rattle.pp_c.proofs.StreamLemmas.{reads_none, reads_settled, reads_waiting, reads_then}
use Rattle.pp_c.proofs.TakingLemmas.{takes_none, takes_more, exact_room, room_of_last, room_then}

-- how many lines ask
quiet_more : (given : List Given) (g : Given) → lines_in given ≡ 0 → asks g ≡ false → lines_in (given ++ g ∷ []) ≡ 0
quiet_more given g quiet e =
    let one : lines_in (g ∷ []) ≡ 0 = line_is g false e in
    omega (arith, lines_push given g, one, quiet)

entries_push : (given : List Given) (g : Given) → entries_of (given ++ g ∷ []) ≡ entries_of given ++ given_entries g
entries_push given g = entries_of-append given (g ∷ []) ∙ ap (λ es. entries_of given ++ es) (append-nil (given_entries g))

-- whatever waits
if_some : {A P : Type 0} (waiting : Option A) → P → IfSome waiting (λ item. P)
if_some None p = tt
if_some (Some item) p = p

module _ (begun : Preprocessing) (waited : Option Given) (first : Output) (most : ℕ) (small : IsSmall first) where
  -- before the first item
  pub given_none : is_spent begun ≡ false → 0 < most → HaveRoom first [] → HasGiven begun waited first most 0 begun waited first
  given_none unspent some room = record {
    given = [];
    reads = reads_none begun waited unspent;
    takes = takes_none first;
    room = room;
    count = refl;
    within = omega arith;
    quiet = refl;
    more = if_some waited some;
  }

  module _ (count : ℕ) (now : Preprocessing) (output : Output) (h : HasGiven begun waited first most count now None output) where
    -- at the end
    pub batch_ends : (new : Preprocessing) → count < most → Reads now None (None ∷ []) new None → GivesBatch most All begun waited first new None output
    batch_ends new less reads = record {
      given = h.given;
      reads = reads_then begun now new waited None None (map Some h.given) (None ∷ []) h.reads reads;
      stops = at_end refl (omega (arith, less, h.count)) h.quiet refl h.room h.takes;
    }

    -- as many as were asked for
    pub batch_enough : count ≡ most → GivesBatch most Front begun waited first now None output
    batch_enough all = record {
      given = h.given;
      reads = h.reads;
      stops = enough refl (omega (arith, all, h.count)) h.quiet refl h.room h.takes;
    }

    -- no item more fits
    pub batch_full : 0 < count → length output.items.now ≤ output.sizes.items → GivesBatch most Front begun waited first now None output
    batch_full some over = record {
      given = h.given;
      reads = h.reads;
      stops =
          let e = exact_room first output (entries_of h.given) small.items small.texts h.takes h.room in
          full refl (omega (arith, some, h.count)) (omega (arith, h.count, h.within)) h.quiet (omega (arith, over, e.0, h.takes.items_room)) refl h.room h.takes;
    }

    -- memory or the budget ran out for the next one
    pub batch_short : RunsOut most count begun waited first None output
    batch_short = record { last = now; given = h; none = refl }

    -- the next one waits
    pub given_waits : (new : Preprocessing) (g : Given) → Reads now None (Some g ∷ []) new None → count < most
        → HasGiven begun waited first most count new (Some g) output
    given_waits new g reads less = record {
      given = h.given;
      reads =
          rw (append-nil (map Some h.given)) at
          (reads_then begun now new waited None (Some g) (map Some h.given) [] h.reads (reads_waiting now new None g reads));
      takes = h.takes;
      room = h.room;
      count = h.count;
      within = h.within;
      quiet = h.quiet;
      more = less;
    }

  module _ (count : ℕ) (now : Preprocessing) (g : Given) (output : Output) (h : HasGiven begun waited first most count now (Some g) output) where
    -- there is no less room than for what was given
    pub still_room : HaveRoom output []
    still_room =
        let all : HaveRoom first (entries_of h.given ++ []) = rw (append-nil (entries_of h.given)) h.room in
        room_of_last first output (entries_of h.given) [] small.items small.texts h.takes all

    -- the one that waits, with those before it
    with_it : Reads begun waited (map Some (h.given ++ g ∷ [])) now None
    with_it = rw (map_push Some h.given g) (reads_settled begun now waited g (map Some h.given) h.reads)

    -- it doesn't fit with those before it
    pub batch_no_room : 0 < count → ¬ (HaveRoom output (given_entries g)) → GivesBatch most Front begun waited first now (Some g) output
    batch_no_room some over = record {
      given = h.given;
      reads = h.reads;
      stops = no_room g refl (omega (arith, some, h.count)) (omega (arith, h.count, h.within)) h.quiet
          (λ room. over (room_of_last first output (entries_of h.given) (given_entries g) small.items small.texts h.takes (rw (entries_push h.given g) at room)))
          refl h.room h.takes;
    }

    -- it is the first, and doesn't fit
    pub batch_too_large : (output_after : Output) → count ≡ 0 → ¬ (HaveRoom output (given_entries g)) → Takes output (given_entries g) output_after
        → GivesBatch most Front begun waited first now (Some g) output_after
    batch_too_large output_after none over takes = by_given h.given refl
      where
        by_given : (given : List Given) → h.given ≡ given → GivesBatch most Front begun waited first now (Some g) output_after
        by_given [] e =
            let before : Takes first [] output = rw e at h.takes in
            record {
              given = [];
              reads = rw e at h.reads;
              stops = too_large g refl refl (λ room. over (room_of_last first output [] (given_entries g) small.items small.texts before room)) refl
                  (takes_more first output output_after [] (given_entries g) small.items small.texts before takes);
            }
        by_given (x ∷ xs) e = absurd (omega (arith, none, h.count, ap length e))

    module _ (output_after : Output) (fits : HaveRoom output (given_entries g)) (takes : Takes output (given_entries g) output_after) where
      is_small : IsSmall output
      is_small = record { items = omega (arith, small.items, h.takes.items_room); texts = omega (arith, small.texts, h.takes.texts_room) }

      room_more : HaveRoom first (entries_of (h.given ++ g ∷ []))
      room_more = rw (entries_push h.given g) (room_then first output (entries_of h.given) (given_entries g) small.items small.texts h.takes h.room fits)

      takes_it : Takes first (entries_of (h.given ++ g ∷ [])) output_after
      takes_it = takes_item first output output_after h.given g is_small h.takes takes

      -- one more
      pub given_more : asks g ≡ false → HasGiven begun waited first most (count + 1) now None output_after
      given_more e = record {
        given = h.given ++ g ∷ [];
        reads = with_it;
        takes = takes_it;
        room = room_more;
        count = omega (arith, h.count, length_push h.given g);
        within = omega (arith, h.more);
        quiet = quiet_more h.given g h.quiet e;
        more = tt;
      }

      -- the one that asks for its text
      pub batch_asks : asks g ≡ true → GivesBatch most Include begun waited first now None output_after
      batch_asks e = record {
        given = h.given ++ g ∷ [];
        reads = with_it;
        stops = at_line refl (omega (arith, h.count, h.more, length_push h.given g)) (record { front = h.given; line = g; is = refl; asking = e; lines = h.quiet }) refl room_more takes_it;
      }

-- an item fits exactly if its room is left
pub fits_by : (output : Output) (entries : List Entry) → IsSmall output → HaveRoom output []
    → (room_of entries).items ≤ length output.items.now - output.sizes.items → (room_of entries).texts ≤ length output.texts.now - output.sizes.texts
    → HaveRoom output entries
fits_by output entries small none i t = record {
  items = omega (arith, i, small.items, none.items);
  texts = omega (arith, t, small.texts, none.texts);
}

pub fits_then : (output : Output) (entries : List Entry) → HaveRoom output entries
    → ((room_of entries).items ≤ length output.items.now - output.sizes.items) × ((room_of entries).texts ≤ length output.texts.now - output.sizes.texts)
fits_then output entries h = (omega (arith, h.items), omega (arith, h.texts))

-- a count is the first, or isn't
pub first_by : (count : ℕ) → nat_eq count 0 ≡ true → count ≡ 0
first_by count e = eqb→eq count 0 (rw e tt)

pub later_by : (count : ℕ) → nat_eq count 0 ≡ false → 0 < count
later_by zero e = let bad : true ≡ false = e in cc
later_by (suc count) e = omega arith

-- what isn't denied
pub holds_by : (b : Bool) → not b ≡ false → b ≡ true
holds_by true e = refl
holds_by false e = let bad : true ≡ false = e in cc

-- an error says it
pub if_err : {A B : Type 0} {P : Type 0} (result : Result A B) → P → OnErr result P
if_err (Ok value) p = tt
if_err (Err fault) p = p
