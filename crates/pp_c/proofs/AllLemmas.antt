-- The items of a source, with all definitions added at their numbers.
use Rattle.std.proofs.Common.{◌≡◌, ◌∙◌, ℕ, ◌+◌, ◌-◌, ◌≤◌, min, max, Bool, true, false, List, [], ◌∷◌, ◌++◌, map, length, drop, refl, ap, sym, if◌then◌else◌, Option, Some, None, arith, append_assoc, length-append}
use Rattle.std.proofs.lemmas.List.{append-nil, map-append, drop_all}
use Rattle.std.proofs.Math.ListN.{replicate}
use Rattle.pp_model.specs.Run.{Call, next}
use Rattle.pp_rs.specs.Kept.{Preprocessing, is_spent, rules_of}
use Rattle.pp_c.specs.Calls.{calls_from, entering}
use Rattle.pp_c.specs.Preprocessed.{Given, answers_of, entries_of, times_asked}
use Rattle.pp_c.specs.inner.Making.{Made, is_all, is_front, made_of, AskedBy, IsAsked, StopsBy, IsWithin, up_to, IsSmall, HasCome, IsUntil, GoesOn, HasRest, IsPossible, HasAdded, HasAll, AddsOne}
use Rattle.pp_c.specs.inner.Settings.{takes_texts}
use Rattle.pp_c.specs.declared.items.Definition.{Definition}
use Rattle.pp_c.specs.declared.output.Output.{Output}
use Rattle.pp_c.specs.declared.options.Setting.{Setting}
use Rattle.pp_c.specs.declared.preprocessing.Progress.{Progress}
use Rattle.pp_c.specs.declared.status.End.{End}
use Rattle.pp_c.specs.declared.status.End.TheVariants.{All, Front, Include}
use Rattle.pp_c.proofs.MadeLemmas.{made_then, made_rules}
use Rattle.pp_c.proofs.ProgressLemmas.{entries_of-append, come_none, is_front_is, made_going}
use Rattle.pp_c.proofs.TakingLemmas.{takes_more}

none_within : (most : Option ℕ) → IsWithin most 0
none_within None = tt
none_within (Some most) = omega arith

-- before the first definition
pub none_added : (setting : Setting) (start : Preprocessing) (first : Output) (words : List ℕ) (definitions : List Definition) (progress : Progress)
    → progress ≡ record { given = 0; passes = setting.passes; end = Front } → is_spent start ≡ false → IsSmall first
    → HasAdded setting start first words definitions 0 progress start first
none_added setting start first words definitions progress e unspent small = record {
  calls = [];
  come = come_none setting.passes start first progress e small;
  plan = λ all possible. rw e;
  within = rw e (none_within setting.most_items);
  unspent = unspent;
}

-- before each definition the rules are those of the start
pub same_rules : (setting : Setting) (start : Preprocessing) (first : Output) (words : List ℕ) (definitions : List Definition) (at : ℕ) (begun progress : Progress)
    (old between : Preprocessing) (output after : Output) → HasAdded setting start first words definitions at begun old output
    → GoesOn old output begun between after progress → rules_of between ≡ rules_of start
same_rules setting start first words definitions at begun progress old between output after h goes =
    let come = goes.come setting.passes start first h.calls h.come in
    made_rules start between _ _ come.made

-- a definition more
pub come_added : (passed : Option ℕ) (start : Preprocessing) (first : Output) (calls more : List Call) (progress : Progress) (old new : Preprocessing) (output : Output)
    → HasCome passed start first calls progress old output → Made old more [] new → HasCome passed start first (calls ++ more) progress new output
come_added passed start first calls more progress old new output h m = record {
  given = h.given;
  made = rw (← append-nil (answers_of h.given (is_all progress.end))) (made_then start old new calls more (answers_of h.given (is_all progress.end)) [] h.made m);
  takes = h.takes;
  count = h.count;
  asked = h.asked;
  small = h.small;
}

-- how many items were given, and how many will be
module _ (count : ℕ) (begun progress all : ℕ) where
  goes_by_most : (most : Option ℕ) → progress ≡ max begun (up_to most count) → progress ≤ all → IsWithin most all
      → (min count all - begun ≡ progress - begun) × (max begun (min count all) ≡ progress)
  goes_by_most None reached less within = (omega (arith, reached, less), omega (arith, reached, less))
  goes_by_most (Some most) reached less within = (omega (arith, reached, less, within), omega (arith, reached, less, within))

  below_count : (most : Option ℕ) → progress ≤ up_to most count → progress ≤ count
  below_count None less = less
  below_count (Some most) less = omega (arith, less)

module _ (most : Option ℕ) (count : ℕ) (begun progress : Progress) (all : ℕ) (h : IsUntil (up_to most count) begun progress) (fewer : made_of begun ≤ made_of progress)
    (possible : IsPossible most progress all) where
  -- what is possible for both
  record IsPlanned : Type 0 where
    pub before : IsPossible most begun all
    pub calls : min count all - made_of begun ≡ made_of progress - made_of begun
    pub after : max (made_of begun) (min count all) ≡ made_of progress

  planned_by : (e f : Bool) → is_front begun.end ≡ e → is_front progress.end ≡ f → IsPlanned
  planned_by false f p q =
      let same = h.ended p in
      let done : all ≡ made_of begun = possible.ended (ap (λ (r : Progress). is_front r.end) same ∙ p) ∙ ap made_of same in
      record {
        before = record { ended = λ e. done; goes_on = λ e. cc; within = possible.within };
        calls = omega (arith, done, ap made_of same);
        after = omega (arith, done, ap made_of same);
      }
  planned_by true true p q =
      let less = possible.goes_on q in
      let m = made_going begun p in
      let n = made_going progress q in
      let both = goes_by_most count begun.given progress.given all most (h.reached p q) less possible.within in
      record {
        before = record { ended = λ e. cc; goes_on = λ e. omega (arith, h.reached p q, less); within = possible.within };
        calls = rw (m, n) both.0;
        after = rw (m, n) both.1;
      }
  planned_by true false p q =
      let ends = h.ends p q in
      let done = possible.ended q in
      let less = below_count count begun.given (made_of progress) all most ends.1 in
      let m = made_going begun p in
      record {
        before = record { ended = λ e. cc; goes_on = λ e. omega (arith, ends.0, done); within = possible.within };
        calls = omega (arith, ends.0, less, done, m);
        after = omega (arith, ends.0, less, done, m);
      }

  planned : IsPlanned
  planned = planned_by (is_front begun.end) (is_front progress.end) refl refl

-- so far no more was asked for than may be
within_by : (most : Option ℕ) (count : ℕ) (begun progress : Progress) → IsUntil (up_to most count) begun progress → IsWithin most (made_of begun)
    → (e f : Bool) → is_front begun.end ≡ e → is_front progress.end ≡ f → IsWithin most (made_of progress)
within_by None count begun progress h within e f p q = tt
within_by (Some most) count begun progress h within false f p q = rw (h.ended p) within
within_by (Some most) count begun progress h within true true p q =
    omega (arith, h.reached p q, made_going begun p, made_going progress q, within)
within_by (Some most) count begun progress h within true false p q = omega (arith, h.ends p q)

module _ (setting : Setting) (start : Preprocessing) (first : Output) (words : List ℕ) (definitions : List Definition) (at : ℕ) (begun progress : Progress)
    (old between new : Preprocessing) (output after : Output) (definition changed : Definition) where
  abbrev texts : Bool
  texts = takes_texts setting

  -- the calls up to a definition and with it
  plan_more : (calls : List Call) → drop at definitions ≡ definition ∷ drop (at + 1) definitions → IsUntil (up_to setting.most_items definition.after) begun progress
      → made_of begun ≤ made_of progress
      → ((all : ℕ) → IsPossible setting.most_items begun all → calls_from texts words all 0 definitions ≡ calls ++ calls_from texts words all (made_of begun) (drop at definitions))
      → (all : ℕ) → IsPossible setting.most_items progress all
      → calls_from texts words all 0 definitions ≡ ((calls ++ replicate (made_of progress - made_of begun) next) ++ entering texts words definition ∷ [])
      ++ calls_from texts words all (made_of progress) (drop (at + 1) definitions)
  plan_more calls d until fewer plan all possible =
      let p = planned setting.most_items definition.after begun progress all until fewer possible in
      plan all p.before
      ∙ ap (λ ds. calls ++ calls_from texts words all (made_of begun) ds) d
      ∙ rw (p.calls, p.after) (simp append_assoc)

  pub one_added : drop at definitions ≡ definition ∷ drop (at + 1) definitions → HasAdded setting start first words definitions at begun old output
      → IsUntil (up_to setting.most_items definition.after) begun progress → is_spent between ≡ false → GoesOn old output begun between after progress
      → AddsOne texts words definition changed between new → HasAdded setting start first words definitions (at + 1) progress new after
  one_added d h until unspent goes adds = record {
    calls = (h.calls ++ replicate (made_of progress - made_of begun) next) ++ entering texts words definition ∷ [];
    come = come_added setting.passes start first _ (entering texts words definition ∷ []) progress between new after (goes.come setting.passes start first h.calls h.come) adds.made;
    plan = plan_more h.calls d until goes.fewer h.plan;
    within = within_by setting.most_items definition.after begun progress until h.within (is_front begun.end) (is_front progress.end) refl refl;
    unspent = adds.spent ∙ unspent;
  }

-- the lines that were passed are counted so
asked_of : (passed passes : Option ℕ) (end : End) (given : List Given) → AskedBy passed end passes given → IsAsked passed end given
asked_of None passes All given h = tt
asked_of None passes Front given h = tt
asked_of None passes Include given h = h
asked_of (Some passed) None All given h = absurd h
asked_of (Some passed) None Front given h = absurd h
asked_of (Some passed) (Some lines) All given h = omega (arith, h)
asked_of (Some passed) (Some lines) Front given h = omega (arith, h)
asked_of (Some passed) passes Include given h = h

-- a call that doesn't count lines doesn't end at one
ends_all : (passes : Option ℕ) (end : End) (given : List Given) → AskedBy None end passes given → is_front end ≡ false → end ≡ All
ends_all passes All given h e = refl
ends_all passes Front given h e = cc
ends_all passes Include given h e = absurd h

module _ (setting : Setting) (start : Preprocessing) (first : Output) (words : List ℕ) (definitions : List Definition) (at : ℕ) (progress : Progress)
    (old new : Preprocessing) (output after : Output) (over : length definitions ≤ at) (h : HasAdded setting start first words definitions at progress old output) where
  -- the calls that are left
  last_calls : (all : ℕ) → IsPossible setting.most_items progress all
      → calls_from (takes_texts setting) words all 0 definitions ≡ h.calls ++ replicate (all - made_of progress) next
  last_calls all possible = h.plan all possible ∙ ap (λ ds. h.calls ++ calls_from (takes_texts setting) words all (made_of progress) ds) (drop_all at definitions over)

module _ (setting : Setting) (start : Preprocessing) (first : Output) (words : List ℕ) (definitions : List Definition) (at : ℕ) (progress : Progress)
    (old new : Preprocessing) (output after : Output) (over : length definitions ≤ at) (unbound : setting.most_items ≡ None) (quiet : setting.passes ≡ None)
    (h : HasAdded setting start first words definitions at progress old output) where
  possible_by : (all : ℕ) → (is_front progress.end ≡ false → all ≡ made_of progress) → (is_front progress.end ≡ true → progress.given ≤ all)
      → IsPossible setting.most_items progress all
  possible_by all ended goes = record { ended = ended; goes_on = goes; within = rw unbound tt }

  all_by : (front : Bool) → is_front progress.end ≡ front → HasRest progress old output new after → HasAll setting All start first words definitions new after
  all_by false e rest =
      let same = rest.ended e in
      let asked : AskedBy None progress.end progress.passes h.come.given = rw quiet at h.come.asked in
      let end : progress.end ≡ All = ends_all progress.passes progress.end h.come.given asked e in
      let m : made_of progress ≡ length h.come.given + 1 = rw end (omega (arith, h.come.count)) in
      let n : length h.come.given + 1 - made_of progress ≡ 0 = omega (arith, m) in
      let possible = possible_by (length h.come.given + 1) (λ f. sym m) (λ f. cc) in
      let c : calls_from (takes_texts setting) words (length h.come.given + 1) 0 definitions ≡ h.calls =
      last_calls setting start first words definitions at progress old new output after over h (length h.come.given + 1) possible ∙ rw n (append-nil h.calls) in
      rw (same.0, same.1) (record {
        given = h.come.given;
        made = rw c (rw end at h.come.made);
        stops = rw unbound tt;
        asked = rw quiet tt;
        takes = h.come.takes;
      })
  all_by true e rest =
      let r = rest.rest e in
      let given = h.come.given ++ r.more in
      let l = length-append h.come.given r.more in
      let m = made_going progress e in
      let end = is_front_is progress.end e in
      let n : length given + 1 - made_of progress ≡ length r.more + 1 = omega (arith, m, h.come.count, l) in
      let possible = possible_by (length given + 1) (λ f. cc) (λ f. omega (arith, h.come.count, l)) in
      let c : calls_from (takes_texts setting) words (length given + 1) 0 definitions ≡ h.calls ++ replicate (length r.more + 1) next =
      last_calls setting start first words definitions at progress old new output after over h (length given + 1) possible ∙ rw n in
      record {
        given = given;
        made = rw (c, map-append Some h.come.given r.more, append_assoc (map Some h.come.given) (map Some r.more) (None ∷ []))
            (made_then start old new h.calls (replicate (length r.more + 1) next) (map Some h.come.given) (map Some r.more ++ None ∷ []) (rw end at h.come.made) r.made);
        stops = rw unbound tt;
        asked = rw quiet tt;
        takes = rw (entries_of-append h.come.given r.more) (takes_more first output after (entries_of h.come.given) (entries_of r.more)
            (omega (arith, h.come.small.items, h.come.takes.items_room)) (omega (arith, h.come.small.texts, h.come.takes.texts_room)) h.come.takes r.takes);
      }

  -- all items
  pub all_given : HasRest progress old output new after → HasAll setting All start first words definitions new after
  all_given rest = all_by (is_front progress.end) refl rest

module _ (setting : Setting) (most : ℕ) (start : Preprocessing) (first : Output) (words : List ℕ) (definitions : List Definition) (at : ℕ) (progress last : Progress)
    (old new : Preprocessing) (output after : Output) (over : length definitions ≤ at) (bound : setting.most_items ≡ Some most)
    (h : HasAdded setting start first words definitions at progress old output) (until : IsUntil most progress last) where
  -- how many were asked for in the end, and what is possible before
  record IsLast : Type 0 where
    pub possible : IsPossible (Some most) progress (made_of last)
    pub stops : StopsBy (Some most) last.end last.given

  -- where the items end after as many calls as may be
  stops_ended : (count : ℕ) (end : End) → is_front end ≡ false → count + (if is_all end then 1 else 0) ≤ most → StopsBy (Some most) end count
  stops_ended count All e less = omega (arith, less)
  stops_ended count Include e less = omega (arith, less)
  stops_ended count Front e less = cc

  stops_going : (count : ℕ) (end : End) → is_front end ≡ true → count ≡ most → StopsBy (Some most) end count
  stops_going count Front e same = same
  stops_going count All e same = cc
  stops_going count Include e same = cc

  within_most : made_of progress ≤ most
  within_most = rw bound at h.within

  last_by : (e f : Bool) → is_front progress.end ≡ e → is_front last.end ≡ f → IsLast
  last_by false f p q =
      let same = until.ended p in
      let within = within_most in
      let n : made_of last ≡ made_of progress = ap made_of same in
      record {
        possible = record { ended = λ e. n; goes_on = λ e. cc; within = omega (arith, n, within) };
        stops = rw same (stops_ended progress.given progress.end p within);
      }
  last_by true false p q =
      let ends = until.ends p q in
      let m = made_going progress p in
      record {
        possible = record { ended = λ e. cc; goes_on = λ e. omega (arith, ends.0); within = ends.1 };
        stops = stops_ended last.given last.end q ends.1;
      }
  last_by true true p q =
      let reached = until.reached p q in
      let within = within_most in
      let m = made_going progress p in
      let n = made_going last q in
      record {
        possible = record { ended = λ e. cc; goes_on = λ e. omega (arith, reached, n); within = omega (arith, reached, n, m, within) };
        stops = stops_going last.given last.end q (omega (arith, reached, m, within));
      }

  -- the items at the front, or all of them if there are fewer
  pub front_given : GoesOn old output progress new after last → HasAll setting last.end start first words definitions new after
  front_given goes =
      let it = last_by (is_front progress.end) (is_front last.end) refl refl in
      let come = goes.come setting.passes start first h.calls h.come in
      let asked : times_asked (is_all last.end) come.given ≡ made_of last = ap (λ n. n + (if is_all last.end then 1 else 0)) (sym come.count) in
      let possible : IsPossible setting.most_items progress (made_of last) = rw bound it.possible in
      let c : calls_from (takes_texts setting) words (times_asked (is_all last.end) come.given) 0 definitions ≡ h.calls ++ replicate (made_of last - made_of progress) next =
      rw asked (last_calls setting start first words definitions at progress old new output after over h (made_of last) possible) in
      record {
        given = come.given;
        made = rw c come.made;
        stops = rw (bound, ← come.count) it.stops;
        asked = asked_of setting.passes last.passes last.end come.given come.asked;
        takes = come.takes;
      }
