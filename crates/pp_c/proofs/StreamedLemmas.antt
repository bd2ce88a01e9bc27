-- What a call that asks a stream for items gives in C.
use Rattle.std.proofs.Common.{◌≡◌, ◌∙◌, ℕ, ◌<◌, ◌≤◌, ◌^◌, ◌≢◌, ◌⊎◌, inl, inr, List, [], ◌∷◌, ◌++◌, map, length, refl, ap, sym, Some, None, arith}
use Rattle.pp_c.specs.Ends.{HasRoom}
use Rattle.pp_c.specs.Entries.{Entry, room_of}
use Rattle.pp_c.specs.Preprocessed.{Given, given_entries, entries_of, lines_in, answers_of, EndsAtLine, AreWritten, HasAskedItems}
use Rattle.pp_c.specs.Streams.{Streaming, GoesOnWith, GivesAnswers, StopsAfter, IsTooLarge, GivesItems}
use Rattle.pp_c.specs.Streams as stops
use Rattle.pp_c.specs.inner.Batches.{StopsAt, at_end, at_line, enough, full, no_room, too_large, EndsBatch, ended, cut}
use Rattle.pp_c.specs.inner.Making.{is_all}
use Rattle.pp_c.specs.inner.Taking.{HaveRoom, Takes}
use Rattle.pp_c.specs.declared.items.Item.{Item}
use Rattle.pp_c.specs.declared.items.Sizes.{Sizes}
use Rattle.pp_c.specs.declared.output.Output.{Output}
use Rattle.pp_c.specs.declared.status.End.{End}
use Rattle.pp_c.specs.declared.status.End.TheVariants.{All, Front, Include}
use Rattle.pp_c.proofs.PreprocessedLemmas.{are_written}
use Rattle.pp_c.proofs.StreamLemmas.{answers_given}

-- nothing was written yet
pub record IsFresh (output : Output) (items : List Item) (texts : List ℕ) : Type 0 where
  pub items_are : output.items.now ≡ items
  pub texts_are : output.texts.now ≡ texts
  pub sizes : output.sizes ≡ record { items = 0; texts = 0 }
  pub items_small : length items < 2 ^ 63
  pub texts_small : length texts < 2 ^ 63

module _ (first output : Output) (items items_after : List Item) (texts texts_after : List ℕ) (sizes : Sizes) (fresh : IsFresh first items texts)
    (items_new : items_after ≡ output.items.now) (texts_new : texts_after ≡ output.texts.now) (sizes_new : sizes ≡ output.sizes) where
  no_items : first.sizes.items ≡ 0
  no_items = ap (λ (s : Sizes). s.items) fresh.sizes

  no_texts : first.sizes.texts ≡ 0
  no_texts = ap (λ (s : Sizes). s.texts) fresh.sizes

  as_many : length first.items.now ≡ length items
  as_many = ap length fresh.items_are

  as_long : length first.texts.now ≡ length texts
  as_long = ap length fresh.texts_are

  written : (entries : List Entry) → Takes first entries output → AreWritten entries items items_after texts texts_after sizes
  written entries takes =
      are_written entries first output items items_after texts texts_after sizes fresh.items_small fresh.texts_small fresh.items_are fresh.texts_are fresh.sizes takes
      items_new texts_new sizes_new

  room_is : (entries : List Entry) → Takes first entries output → sizes ≡ room_of entries
  room_is entries takes = let w = written entries takes in w.room

  -- what has room in the one has it in the other
  has_room : (entries : List Entry) → HaveRoom first entries → HasRoom (length items) (length texts) (room_of entries)
  has_room entries h = record {
    items = omega (arith, h.items, no_items, as_many);
    texts = omega (arith, h.texts, no_texts, as_long);
  }

  have_room : (entries : List Entry) → HasRoom (length items) (length texts) (room_of entries) → HaveRoom first entries
  have_room entries h = record {
    items = omega (arith, h.items, no_items, as_many, fresh.items_small);
    texts = omega (arith, h.texts, no_texts, as_long, fresh.texts_small);
  }

  module _ (most answer : ℕ) (end : End) (old new : Streaming) (has : HasAskedItems answer) (done : answer ≡ 0 → end ≡ All) (partial : answer ≡ 7 → end ≡ Front) (asking : answer ≡ 9 → end ≡ Include)
      (room : (answer ≡ 0) ⊎ (answer ≡ 7) ⊎ (answer ≡ 9) → HasRoom (length items) (length texts) sizes)
      (too_small : answer ≡ 1 → ¬ (HasRoom (length items) (length texts) sizes)) where
    -- items that fit
    fitting : (given : List Given) → GivesAnswers (answers_of given (is_all end)) old new → HaveRoom first (entries_of given) → Takes first (entries_of given) output
        → (end ≡ All → (length given < most) × (lines_in given ≡ 0) × GoesOnWith None new)
        → (end ≡ Front → (length given ≤ most) × (lines_in given ≡ 0) × StopsAfter most (length items) (length texts) given new)
        → (end ≡ Include → (length given ≤ most) × EndsAtLine 0 given × GoesOnWith None new)
        → GivesItems most answer old new items items_after texts texts_after sizes
    fitting given gives h takes all front include = record {
      given = given;
      has_ended = is_all end;
      gives = gives;
      done = λ e. let h = all (done e) in (ap is_all (done e), h.0, h.1, h.2);
      partial = λ e. let h = front (partial e) in (ap is_all (partial e), h.0, h.1, h.2);
      asking = λ e. let h = include (asking e) in (ap is_all (asking e), h.0, h.1, h.2);
      written = λ other. written (entries_of given) takes;
      too_small = λ e. absurd (too_small e (rw (room_is (entries_of given) takes) (has_room (entries_of given) h)));
    }

    -- the end is one of three
    not_front : end ≡ All → end ≡ Front → ⊥
    not_front a b = let bad : All ≡ Front = sym a ∙ b in cc

    not_line : end ≡ All → end ≡ Include → ⊥
    not_line a b = let bad : All ≡ Include = sym a ∙ b in cc

    not_both : end ≡ Front → end ≡ Include → ⊥
    not_both a b = let bad : Front ≡ Include = sym a ∙ b in cc

    -- with room the first item isn't too large
    never_large : (item : Given) → ¬ (HaveRoom first (given_entries item)) → Takes first (given_entries item) output → (answer ≡ 0) ⊎ (answer ≡ 7) ⊎ (answer ≡ 9) → ⊥
    never_large item over takes e = over (have_room (given_entries item) (rw (room_is (given_entries item) takes) at (room e)))

    with_room : HasAskedItems answer → answer ≢ 1 → (answer ≡ 0) ⊎ (answer ≡ 7) ⊎ (answer ≡ 9)
    with_room (inl (inl few)) other = inl (omega (arith, few, other))
    with_room (inl (inr seven)) other = inr (inl seven)
    with_room (inr nine) other = inr (inr nine)

    items_by : (given : List Given) → GivesAnswers (answers_of given (is_all end)) old new → new.ran_out ≡ None → StopsAt most first given new.waiting output end
        → GivesItems most answer old new items items_after texts texts_after sizes
    items_by given gives ready (at_end e less quiet none h takes) =
        fitting given gives h takes (λ a. (less, quiet, (none, ready))) (λ f. absurd (not_front e f)) (λ i. absurd (not_line e i))
    items_by given gives ready (at_line e less line none h takes) =
        fitting given gives h takes (λ a. absurd (not_line a e)) (λ f. absurd (not_both f e)) (λ i. (less, line, (none, ready)))
    items_by given gives ready (enough e all quiet none h takes) =
        fitting given gives h takes (λ a. absurd (not_front a e)) (λ f. (omega (arith, all), quiet, stops.enough all (none, ready))) (λ i. absurd (not_both e i))
    items_by given gives ready (full e some less quiet over none h takes) =
        fitting given gives h takes (λ a. absurd (not_front a e))
        (λ f. (less, quiet, stops.full some (omega (arith, over, no_items, as_many)) (none, ready))) (λ i. absurd (not_both e i))
    items_by given gives ready (no_room following e some less quiet over waits h takes) =
        fitting given gives h takes (λ a. absurd (not_front a e))
        (λ f. (less, quiet, stops.no_room following some (λ r. over (have_room (entries_of (given ++ following ∷ [])) r)) (waits, ready))) (λ i. absurd (not_both e i))
    items_by given gives ready (too_large item e none over waits takes) = record {
      given = given;
      has_ended = is_all end;
      gives = gives;
      done = λ n. absurd (never_large item over takes (inl n));
      partial = λ n. absurd (never_large item over takes (inr (inl n)));
      asking = λ n. absurd (never_large item over takes (inr (inr n)));
      written = λ other. absurd (never_large item over takes (with_room has other));
      too_small = λ n. record { item = item; waits = (waits, ready); room = room_is (given_entries item) takes; none = none; goes_on = ap is_all e };
    }

    pub streamed : EndsBatch most end old first new output → GivesItems most answer old new items items_after texts texts_after sizes
    streamed (ended h before ready bounded) =
        items_by h.given (answers_given (answers_of h.given (is_all end)) old new new.preprocessing before h.reads (λ e. refl) bounded) ready h.stops
    streamed (cut count shortage e some h before short bounded) =
        let g = h.given in
        let gives : GivesAnswers (map Some g.given) old new = answers_given (map Some g.given) old new h.last before g.reads (λ ready. absurd (never ready)) bounded in
        fitting g.given (rw e gives) g.room g.takes (λ a. absurd (not_front a e))
        (λ f. (omega (arith, g.count, g.within), g.quiet, stops.short shortage (omega (arith, some, g.count)) h.none short)) (λ i. absurd (not_both e i))
      where
        never : new.ran_out ≡ None → ⊥
        never ready = cc
