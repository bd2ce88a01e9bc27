-- Items that are given one after another, between the definitions.
use Rattle.std.proofs.Common.{◌≡◌, ◌∙◌, ℕ, zero, suc, if◌then◌else◌, ◌+◌, ◌-◌, ◌<◌, ◌≤◌, Bool, true, false, List, [], ◌∷◌, ◌++◌, map, refl, ap, sym, Option, Some, None, arith, append_assoc}
use Rattle.std.proofs.Common.{MatchOption}
use Rattle.std.specs.Prelude.{option_map}
use Rattle.std.proofs.lemmas.List.Sums.{sum_by-append}
use Rattle.std.proofs.lemmas.List.{replicate_more, flat_map_more, map_push, length_push}
use Rattle.std.proofs.Math.ListN.{replicate}
use Rattle.pp_model.specs.Run.{Call, next}
use Rattle.pp_rs.specs.Kept.{Preprocessing}
use Rattle.pp_c.specs.Entries.{Entry}
use Rattle.pp_c.specs.Preprocessed.{Given, given_entries, entries_of, asks, lines_in}
use Rattle.pp_c.specs.inner.Making.{GivesNext, Made, NextIsWritten, is_all, is_front, made_of, taken, end_after, passes_after, AskedBy, IsSmall, HasCome, Approaches, GoesOn}
use Rattle.pp_c.specs.inner.Making as made
use Rattle.pp_c.specs.inner.Taking.{Takes}
use Rattle.pp_c.specs.declared.output.Output.{Output}
use Rattle.pp_c.specs.declared.preprocessing.Progress.{Progress}
use Rattle.pp_c.specs.declared.status.End.{End}
use Rattle.pp_c.specs.declared.status.End.TheVariants.{All, Front, Include}
use Rattle.pp_c.proofs.MadeLemmas.{made_then}
use Rattle.pp_c.proofs.TakingLemmas.{takes_none, takes_more}

pub entries_of-append : (xs ys : List Given) → entries_of (xs ++ ys) ≡ entries_of xs ++ entries_of ys
entries_of-append [] ys = refl
entries_of-append (x ∷ xs) ys =
    ap (λ es. given_entries x ++ es) (entries_of-append xs ys) ∙ sym (append_assoc (given_entries x) (entries_of xs) (entries_of ys))

-- one more
pub takes_item : (first output new : Output) (given : List Given) (g : Given) → IsSmall output → Takes first (entries_of given) output
    → Takes output (given_entries g) new → Takes first (entries_of (given ++ g ∷ [])) new
takes_item first output new given g small h more =
    rw (← flat_map_more given_entries [] given g) (takes_more first output new (entries_of given) (given_entries g)
    (omega (arith, small.items, h.items_room)) (omega (arith, small.texts, h.texts_room)) h more)

pub still_small : (output new : Output) (es : List Entry) → IsSmall output → Takes output es new → IsSmall new
still_small output new es small h = record {
  items = omega (arith, small.items, h.items_room);
  texts = omega (arith, small.texts, h.texts_room);
}

pub made_one : (answer : Option Given) (old new : Preprocessing) → GivesNext old answer new → Made old (next ∷ []) (answer ∷ []) new
made_one answer old new g = made.gave answer old new new [] _ [] _ g (made.none new new [] [] refl refl refl) refl refl

-- no line was passed before the first item
none_asked : (passed : Option ℕ) → AskedBy passed Front passed []
none_asked None = refl
none_asked (Some lines) = omega arith

-- nothing came
pub come_none : (passed : Option ℕ) (start : Preprocessing) (first : Output) (progress : Progress)
    → progress ≡ record { given = 0; passes = passed; end = Front } → IsSmall first → HasCome passed start first [] progress start first
come_none passed start first progress e small = rw e (record {
  given = [];
  made = made.none start start [] [] refl refl refl;
  takes = takes_none first;
  count = refl;
  asked = none_asked passed;
  small = small;
})

-- one line more, or none
pub lines_push : (given : List Given) (g : Given) → lines_in (given ++ g ∷ []) ≡ lines_in given + lines_in (g ∷ [])
lines_push given g = sum_by-append _ given (g ∷ [])

pub line_is : (g : Given) (asking : Bool) → asks g ≡ asking → lines_in (g ∷ []) ≡ (if asking then 1 else 0)
line_is g true e = rw e refl
line_is g false e = rw e refl

pub is_front_is : (end : End) → is_front end ≡ true → end ≡ Front
is_front_is Front e = refl
is_front_is All e = cc
is_front_is Include e = cc

-- after an item the end isn't reached
pub not_all : (asking : Bool) (passes : Option ℕ) → is_all (end_after asking passes Front) ≡ false
not_all false passes = refl
not_all true None = refl
not_all true (Some zero) = refl
not_all true (Some (suc lines)) = refl

-- after an item the lines are counted
asked_more : (passed passes : Option ℕ) (given : List Given) (g : Given) (asking : Bool) → asks g ≡ asking → AskedBy passed Front passes given
    → AskedBy passed (end_after asking passes Front) (passes_after asking passes) (given ++ g ∷ [])
asked_more None None given g false e h = refl
asked_more None None given g true e h = refl
asked_more None (Some lines) given g asking e h = cc
asked_more (Some passed) None given g asking e h = absurd h
asked_more (Some passed) (Some lines) given g false e h = let one : lines_in (g ∷ []) ≡ 0 = line_is g false e in omega (arith, h, one, lines_push given g)
asked_more (Some passed) (Some zero) given g true e h = record { front = given; line = g; is = refl; asking = e; lines = omega (arith, h) }
asked_more (Some passed) (Some (suc lines)) given g true e h =
    let one : lines_in (g ∷ []) ≡ 1 = line_is g true e in omega (arith, h, one, lines_push given g)

-- at the end they stay
asked_at_end : (passed passes : Option ℕ) (given : List Given) → AskedBy passed Front passes given → AskedBy passed All passes given
asked_at_end None passes given h = h
asked_at_end (Some passed) passes given h = h

module _ (passed : Option ℕ) (start : Preprocessing) (first : Output) (calls : List Call) (progress : Progress) (old : Preprocessing) (output : Output)
    (new : Preprocessing) (after : Output) (going : progress.end ≡ Front) (h : HasCome passed start first calls progress old output) where
  made_so_far : Made start calls (map Some h.given) old
  made_so_far = rw going at h.made

  come_item : (g : Given) → GivesNext old (Some g) new → Takes output (given_entries g) after
      → HasCome passed start first (calls ++ next ∷ []) (taken (asks g) progress) new after
  come_item g gives takes = record {
    given = h.given ++ g ∷ [];
    made = rw (going, not_all (asks g) progress.passes, map_push Some h.given g)
        (made_then start old new calls (next ∷ []) (map Some h.given) (Some g ∷ []) made_so_far (made_one (Some g) old new gives));
    takes = takes_item first output after h.given g h.small h.takes takes;
    count = omega (arith, h.count, length_push h.given g);
    asked = rw going (asked_more passed progress.passes h.given g (asks g) refl (rw going at h.asked));
    small = still_small output after (given_entries g) h.small takes;
  }

  come_end : GivesNext old None new → after ≡ output → HasCome passed start first (calls ++ next ∷ []) (record progress { end = All }) new after
  come_end gives same = rw same (record {
    given = h.given;
    made = made_then start old new calls (next ∷ []) (map Some h.given) (None ∷ []) made_so_far (made_one None old new gives);
    takes = h.takes;
    count = h.count;
    asked = asked_at_end passed progress.passes h.given (rw going at h.asked);
    small = h.small;
  })

-- one call of `next` more
calls_more : (calls : List Call) (made before : ℕ) → before ≤ made
    → calls ++ replicate (made + 1 - before) next ≡ (calls ++ replicate (made - before) next) ++ next ∷ []
calls_more calls made before h =
    let e : made + 1 - before ≡ made - before + 1 = omega arith in
    ap (λ n. calls ++ replicate n next) e ∙ ap (λ cs. calls ++ cs) (sym (replicate_more (made - before) next))
    ∙ sym (append_assoc calls (replicate (made - before) next) (next ∷ []))

pub made_going : (progress : Progress) → is_front progress.end ≡ true → made_of progress ≡ progress.given
made_going progress e = rw (is_front_is progress.end e) (omega arith)

-- after an item
pub made_taken : (asking : Bool) (progress : Progress) → is_front progress.end ≡ true → made_of (taken asking progress) ≡ progress.given + 1
made_taken asking progress e = rw (is_front_is progress.end e, not_all asking progress.passes) (omega arith)

module _ (start : Preprocessing) (first : Output) (begun : Progress) (old : Preprocessing) (output : Output) (progress : Progress)
    (new : Preprocessing) (after : Output) (going : is_front progress.end ≡ true) (h : GoesOn start first begun old output progress) where
  goes_by : (answer : Option Given) (asking : Bool) → GivesNext old answer new → MatchOption answer (after ≡ output) (λ given. Takes output (given_entries given) after)
      → Some asking ≡ option_map asks answer → GoesOn start first begun new after (taken asking progress)
  goes_by None asking gives takes e = cc
  goes_by (Some g) asking gives takes e =
      let same : asking ≡ asks g = cc in
      let m = made_going progress going in
      let t = made_taken asking progress going in
      let n : made_of (taken asking progress) ≡ made_of progress + 1 = omega (arith, t, m) in
      record {
        fewer = omega (arith, h.fewer, n);
        come = λ passed begin out calls came.
            rw (n, calls_more calls (made_of progress) (made_of begun) h.fewer)
            (rw same (come_item passed begin out (calls ++ replicate (made_of progress - made_of begun) next) progress old output new after (is_front_is progress.end going)
            (h.come passed begin out calls came) g gives takes));
      }

  ends_by : (answer : Option Given) → GivesNext old answer new → MatchOption answer (after ≡ output) (λ given. Takes output (given_entries given) after)
      → None ≡ option_map asks answer → GoesOn start first begun new after (record progress { end = All })
  ends_by (Some g) gives takes e = cc
  ends_by None gives takes e =
      let m = made_going progress going in
      let n : made_of (record progress { end = All }) ≡ made_of progress + 1 = omega (arith, m) in
      record {
        fewer = omega (arith, h.fewer, n);
        come = λ passed begin out calls came.
            rw (n, calls_more calls (made_of progress) (made_of begun) h.fewer)
            (come_end passed begin out (calls ++ replicate (made_of progress - made_of begun) next) progress old output new after (is_front_is progress.end going)
            (h.come passed begin out calls came) gives takes);
      }

  pub goes_more : (asking : Bool) → NextIsWritten old new output after (Some asking) → GoesOn start first begun new after (taken asking progress)
  goes_more asking w = goes_by w.answer asking w.gives w.takes w.is_more

  pub goes_to_end : NextIsWritten old new output after None → GoesOn start first begun new after (record progress { end = All })
  goes_to_end w = ends_by w.answer w.gives w.takes w.is_more

module _ (count : ℕ) (begun progress : Progress) (h : Approaches count begun progress) (going : is_front progress.end ≡ true) (less : progress.given < count) where
  begun_going : (front : Bool) → is_front begun.end ≡ front → is_front begun.end ≡ true
  begun_going true e = e
  begun_going false e = let same = h.ended e in let bad : false ≡ true = sym e ∙ ap (λ (p : Progress). is_front p.end) (sym same) ∙ going in cc

  pub approaches_item : (asking : Bool) → Approaches count begun (taken asking progress)
  approaches_item asking =
      let b = begun_going (is_front begun.end) refl in
      let g = h.goes b going in
      let n = made_taken asking progress going in
      record {
        ended = λ e. cc;
        goes = λ e f. (omega (arith, g), omega (arith, g, less));
        ends = λ e f. (omega (arith, g), omega (arith, less, n));
      }

  pub approaches_end : Approaches count begun (record progress { end = All })
  approaches_end =
      let b = begun_going (is_front begun.end) refl in
      let g = h.goes b going in
      record {
        ended = λ e. cc;
        goes = λ e f. cc;
        ends = λ e f. (omega (arith, g), omega (arith, less));
      }
