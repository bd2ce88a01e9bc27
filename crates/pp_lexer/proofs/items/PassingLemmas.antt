-- How a lexer in the midst of a text passes a blank, and what stands at the front.
use Rattle.std.proofs.Common.{◌≡◌, ℕ, zero, suc, ◌<◌, List, [], ◌∷◌, take, drop, Bool, true, false, ◌||◌, refl, sym, ◌∙◌, ap, arith, cond, Some, option_map}
use Rattle.std.specs.List.{list_any}
use Rattle.pp_lexer.specs.declared.rules.Rules.{Rules}
use Rattle.pp_lexer.specs.declared.lexer.char_iterator.Spot.{Spot}
use Rattle.pp_lexer.specs.declared.lexer.Flags.{Flags}
use Rattle.pp_lexer.specs.Reading.{Reading, letters, first_of, first_char, past, after_first, advanced_of}
use Rattle.pp_lexer.specs.Words.{word_at}
use Rattle.pp_lexer.specs.Segments.{blank, comment, item, last_of, kind_of, segments}
use Rattle.pp_lexer.specs.inner.Segments.{is_mark}
use Rattle.pp_lexer.specs.Words.{is_blank}
use Rattle.pp_lexer.specs.Items.{is_comment}
use Rattle.pp_lexer.specs.Items.{places_at}
use Rattle.pp_lexer.specs.inner.Passing.{passed, item_seen, seen_from, seen_of, comments_at_end, places_from, places_left}
use Rattle.pp_lexer.proofs.items.SegmentsLemmas.{segments_first, advanced-last}

-- the flags after a blank
abbrev pub blanked : Flags → ℕ → Flags
blanked f c = record { leading_whitespace = true; start_of_line = f.start_of_line; had_comments = f.had_comments || is_mark c }

kind_blank : (rules : Rules) (s : Spot) (ss : List Spot) → is_blank s.c ≡ true → kind_of rules s ss ≡ cond (is_mark s.c) comment blank
kind_blank rules s ss e = rw e refl

kind_front : (rules : Rules) (s : Spot) (ss : List Spot) → is_blank s.c ≡ false → kind_of rules s ss ≡ item (word_at rules (letters (s ∷ ss))).value
kind_front rules s ss e = rw e refl

passed_blank : (f : Flags) (c : ℕ) → passed f (cond (is_mark c) comment blank) ≡ blanked f c
passed_blank f c = grind arith

none_seen : (f : Flags) (first last : Spot) (b : Bool) → item_seen f (record { kind = cond b comment blank; first = first; last = last })
    (cond b comment blank) ≡ []
none_seen f first last true = refl
none_seen f first last false = refl

comment_is : (b : Bool) → is_comment (cond b comment blank) ≡ b
comment_is true = refl
comment_is false = refl

-- a blank alone
blank_first : (rules : Rules) (s : Spot) (ss : List Spot) → is_blank s.c ≡ true
    → segments rules (s ∷ ss) ≡ record { kind = cond (is_mark s.c) comment blank; first = s; last = s } ∷ segments rules ss
blank_first rules s ss e = grind (arith, segments_first)

pub blank_seen : (rules : Rules) (f : Flags) (last s : Spot) (ss : List Spot) → is_blank s.c ≡ true
    → seen_from f last (segments rules (s ∷ ss)) ≡ seen_from (blanked f s.c) s (segments rules ss)
blank_seen rules f last s ss e = grind (arith, blank_first, passed_blank)

none_placed : (first last : Spot) (b : Bool) → places_at (record { kind = cond b comment blank; first = first; last = last }) (cond b comment blank) ≡ []
none_placed first last true = refl
none_placed first last false = refl

pub blank_places : (rules : Rules) (f : Flags) (last s : Spot) (ss : List Spot) → is_blank s.c ≡ true
    → places_from f last (segments rules (s ∷ ss)) ≡ places_from (blanked f s.c) s (segments rules ss)
blank_places rules f last s ss e = grind (arith, blank_first, passed_blank)

pub blank_at_end : (rules : Rules) (f : Flags) (s : Spot) (ss : List Spot) → is_blank s.c ≡ true
    → (f.had_comments || list_any (λ g. is_comment g.kind) (segments rules (s ∷ ss))) ≡
    ((f.had_comments || is_mark s.c) || list_any (λ g. is_comment g.kind) (segments rules ss))
blank_at_end rules f s ss e = grind (arith, blank_first)

-- a blank that was taken
pub record IsBlanked (rules : Rules) (f g : Flags) (r q : Reading) : Type 0 where
  pub same : seen_of rules g q ≡ seen_of rules f r
  pub at_end : comments_at_end rules g q ≡ comments_at_end rules f r
  pub places : places_left rules g q ≡ places_left rules f r

blanked_at : (rules : Rules) (f : Flags) (last : Spot) (ss : List Spot) (c : ℕ) (q : Reading) → Some c ≡ option_map (λ s. s.c) (first_of ss)
    → true ≡ is_blank c
    → q ≡ past ss last
    → IsBlanked rules f (blanked f c) (record { rest = ss; last = last }) q
blanked_at rules f last ss c q h k e = grind (arith, blank_seen, blank_at_end, blank_places)

pub blank_passed : (rules : Rules) (f : Flags) (r p q : Reading) (c : ℕ) → Some c ≡ option_map (λ s. s.c) (first_char r) → true ≡ is_blank c → p ≡ r
    → q ≡ after_first p → IsBlanked rules f (blanked f c) r q
blank_passed rules f r p q c e b h k = blanked_at rules f r.last r.rest c q e b (k ∙ ap after_first h)

-- what stands at the front, where it is no blank
pub front_first : (rules : Rules) (s : Spot) (ss : List Spot) → is_blank s.c ≡ false
    → segments rules (s ∷ ss) ≡ record {
      kind = item (word_at rules (letters (s ∷ ss))).value;
      first = s;
      last = last_of s (take (word_at rules (letters (s ∷ ss))).taken (s ∷ ss));
    }
    ∷ segments rules (drop (word_at rules (letters (s ∷ ss))).taken (s ∷ ss))
front_first rules s ss e = grind (arith, segments_first)

-- the first character counts as the last one before it
pub last_same : (n : ℕ) (last s : Spot) (ss : List Spot) → 0 < n → last_of s (take n (s ∷ ss)) ≡ (advanced_of n (s ∷ ss) last).last
last_same zero last s ss h = absurd (omega arith)
last_same (suc n) last s ss h = sym (advanced-last n ss s)
