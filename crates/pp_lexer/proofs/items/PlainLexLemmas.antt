-- What a lexer gives at a plain word, and how it passes spaces.
use Rattle.std.proofs.Common.{◌≡◌, ℕ, zero, suc, ◌+◌, ◌-◌, ◌<◌, ◌≤◌, List, [], ◌∷◌, ◌++◌, length, take, drop, get_or, true, false, ◌||◌, refl, sym, ◌∙◌, ap, subst, arith, inl, Option, Some, None, Ok, MatchOption}
use Rattle.std.specs.Bool.{⊤}
use Rattle.std.specs.List.{list_all, list_any}
use Rattle.std.specs.Str.{IsUtf8}
use Rattle.pp_lexer.specs.declared.token.Location.{Location}
use Rattle.pp_lexer.specs.declared.lexer.char_iterator.Spot.{Spot}
use Rattle.pp_lexer.specs.declared.lexer.item.TokenValue.{TokenValue}
use Rattle.pp_lexer.specs.declared.lexer.Flags.{Flags}
use Rattle.pp_lexer.specs.inner.Fronts.{spots_from, run}
use Rattle.pp_lexer.specs.Items.{is_comment}
use Rattle.pp_lexer.specs.inner.Passing.{seen_from, seen_of, comments_at_end, places_from, places_left, IsPlaced, IsLexed}
use Rattle.pp_lexer.specs.inner.PlainWords.{is_space, IsPlainWord}
use Rattle.pp_lexer.specs.Reading.{Reading, letters, first_char, advanced_of, advanced}
use Rattle.pp_lexer.specs.Segments.{segments}
use Rattle.pp_lexer.specs.Words.{is_blank, word_at}
use Rattle.std.proofs.lemmas.List.{length-take-le}
use Rattle.pp_lexer.specs.declared.rules.Rules.{Rules}
use Rattle.pp_lexer.proofs.characters.FrontsLemmas.{plain_front}
use Rattle.pp_lexer.proofs.items.LexLemmas.{lexed_front, placed_front}
use Rattle.pp_lexer.proofs.characters.PlainFrontsLemmas.{all_plain, split_at, advanced_run, front_plain, front_first, after_front}
use Rattle.pp_lexer.proofs.characters.SpacesLemmas.{space_plain, spaced, spaces_seen, spaces_places, spaces_at_end}

-- the first character of a text is no blank
pub no_blank_first : (first : Spot) (o : Option Spot) → Some first ≡ o → is_blank first.c ≡ false → MatchOption o ⊤ (λ s. is_blank s.c ≡ false)
no_blank_first first None e h = tt
no_blank_first first (Some s) e h = let k : first ≡ s = cc in ap (λ x. is_blank x.c) (sym k) ∙ h

-- where a reader went, by the bytes that were read
pub gone : (q : Reading) (line at n : ℕ) (text bytes rest : List ℕ)
    → q ≡ record {
      rest = spots_from line (at + n) rest;
      last = record {
        c = get_or bytes (n - 1) 0;
        line = line;
        begin = at + n - 1;
        end = at + n;
      };
    } → bytes ≡ text → rest ≡ drop n text
    → q ≡ record { rest = spots_from line (at + n) (drop n text); last = record { c = get_or text (n - 1) 0; line = line; begin = at + n - 1; end = at + n } }
gone q line at n text bytes rest e f g = grind arith

-- after spaces
record PassesSpaces (rules : Rules) (f : Flags) (line at n : ℕ) (text : List ℕ) (last : Spot) : Type 0 where
  seen : seen_from f last (segments rules (spots_from line at text))
      ≡ seen_from (spaced f) (advanced_of n (spots_from line at text) last).last (segments rules (advanced_of n (spots_from line at text) last).rest)
  at_end : (f.had_comments || list_any (λ g. is_comment g.kind) (segments rules (spots_from line at text)))
      ≡ (f.had_comments || list_any (λ g. is_comment g.kind) (segments rules (advanced_of n (spots_from line at text) last).rest))
  places : places_from f last (segments rules (spots_from line at text))
      ≡ places_from (spaced f) (advanced_of n (spots_from line at text) last).last
      (segments rules (advanced_of n (spots_from line at text) last).rest)

spaces_passed : (rules : Rules) (f : Flags) (line at n : ℕ) (text : List ℕ) (last : Spot) → IsUtf8 text → 0 < n → n ≤ length text
    → list_all is_space (take n text) ≡ true → PassesSpaces rules f line at n text last
spaces_passed rules f line at zero text last u some le h = absurd (omega arith)
spaces_passed rules f line at (suc n) [] last u some le h = absurd (omega arith)
spaces_passed rules f line at (suc n) (c ∷ text) last u some le h =
    let w = take n text in
    let whole : c ∷ text ≡ (c ∷ w) ++ drop n text = ap (λ t. c ∷ t) (split_at n text) in
    let more = spots_from line (at + length (c ∷ w)) (drop n text) in
    let front : spots_from line at (c ∷ text) ≡ run line at (c ∷ w) ++ more =
    ap (spots_from line at) whole ∙ plain_front line at (c ∷ w) (drop n text) (all_plain is_space space_plain (c ∷ w) h) (subst IsUtf8 whole u) in
    let size : suc n ≡ length (c ∷ w) = omega (arith, length-take-le n text (omega arith)) in
    let final : Spot = record { c = get_or (c ∷ w) (length w) 0; line = line; begin = at + length w; end = at + length w + 1 } in
    let there : advanced_of (suc n) (spots_from line at (c ∷ text)) last ≡ record { rest = more; last = final } =
    ap (λ ss. advanced_of (suc n) ss last) front ∙ ap (λ k. advanced_of k (run line at (c ∷ w) ++ more) last) size ∙ advanced_run line at c w more last in
    record {
      seen = ap (λ ss. seen_from f last (segments rules ss)) front ∙ spaces_seen rules f line at c w more last h
          ∙ sym (ap (λ x. seen_from (spaced f) x.last (segments rules x.rest)) there);
      at_end = ap (λ ss. f.had_comments || list_any (λ g. is_comment g.kind) (segments rules ss)) front ∙ spaces_at_end rules f line at (c ∷ w) more h
          ∙ sym (ap (λ x. f.had_comments || list_any (λ g. is_comment g.kind) (segments rules x.rest)) there);
      places = ap (λ ss. places_from f last (segments rules ss)) front ∙ spaces_places rules f line at c w more last h
          ∙ sym (ap (λ x. places_from (spaced f) x.last (segments rules x.rest)) there);
    }

module _ (rules : Rules) (f : Flags) (r : Reading) (line at : ℕ) (text : List ℕ) (e : r.rest ≡ spots_from line at text) where
  module _ (value : TokenValue) (n : ℕ) (w : IsPlainWord text value n) where
    first : Spot
    first = record { c = get_or text 0 0; line = line; begin = at; end = at + 1 }

    here : Some first ≡ first_char r
    unfolding first
    here = front_first n line at text r.rest w.some w.within w.front e

    there : (q : Reading)
        → q ≡ record {
          rest = spots_from line (at + n) (drop n text);
          last = record { c = get_or text (n - 1) 0; line = line; begin = at + n - 1; end = at + n };
        } → q ≡ advanced (word_at rules (letters r.rest)).taken r
    there q k = grind (arith, after_front)

    -- a plain word is taken
    pub lexed_plain : (q : Reading)
        → q ≡ record {
          rest = spots_from line (at + n) (drop n text);
          last = record { c = get_or text (n - 1) 0; line = line; begin = at + n - 1; end = at + n };
        }
        → IsLexed rules f r (Ok (Some (Ok (record {
          value = value;
          location = record { start = at; end = at + n; line = line };
          leading_whitespace = f.leading_whitespace;
          start_of_line = f.start_of_line;
        }))))
        (record { leading_whitespace = false; start_of_line = false; had_comments = f.had_comments }) q
    unfolding first
    lexed_plain q k =
        let last : Spot = record { c = get_or text (n - 1) 0; line = line; begin = at + n - 1; end = at + n } in
        let word : word_at rules (letters r.rest) ≡ record { value = Ok value; taken = n } = ap (λ ss. word_at rules (letters ss)) e
        ∙ w.word rules line at in
        lexed_front rules f r r q first last (Ok value) _ false here (no_blank_first first (first_char r) here w.no_blank) refl
        (inl (ap (λ o. Ok o.value) (sym word))) (there q k) (ap (λ x. x.last) (sym k)) refl (sym w.no_newline)

    -- and its place noted
    pub placed_plain : (q : Reading) (old : Location)
        → q ≡ record {
          rest = spots_from line (at + n) (drop n text);
          last = record { c = get_or text (n - 1) 0; line = line; begin = at + n - 1; end = at + n };
        }
        → IsPlaced rules f r old (record { leading_whitespace = false; start_of_line = false; had_comments = f.had_comments }) q
        (record { start = at; end = at + n; line = line })
    unfolding first
    placed_plain q old k =
        let last : Spot = record { c = get_or text (n - 1) 0; line = line; begin = at + n - 1; end = at + n } in
        let word : word_at rules (letters r.rest) ≡ record { value = Ok value; taken = n } = ap (λ ss. word_at rules (letters ss)) e
        ∙ w.word rules line at in
        placed_front rules f r r q first last (Ok value) false old here (no_blank_first first (first_char r) here w.no_blank) refl
        (inl (ap (λ o. Ok o.value) (sym word))) (there q k) (ap (λ x. x.last) (sym k)) (sym w.no_newline)

  module _ (u : IsUtf8 text) (q : Reading) (n : ℕ) (more : 0 < n) (le : n ≤ length text) (passes : list_all is_space (take n text) ≡ true)
      (k : q ≡ record {
        rest = spots_from line (at + n) (drop n text);
        last = record { c = get_or text (n - 1) 0; line = line; begin = at + n - 1; end = at + n };
      }) where
    moved : q ≡ advanced_of n (spots_from line at text) r.last
    moved = k ∙ sym (after_front n line at text r.last more le (front_plain n text u le (all_plain is_space space_plain (take n text) passes)))

    pub spaces_same : seen_of rules (spaced f) q ≡ seen_of rules f r
    spaces_same =
        ap (seen_of rules (spaced f)) moved ∙ sym (spaces_passed rules f line at n text r.last u more le passes).seen
        ∙ ap (λ ss. seen_from f r.last (segments rules ss)) (sym e)

    pub spaces_placed : places_left rules (spaced f) q ≡ places_left rules f r
    spaces_placed =
        ap (places_left rules (spaced f)) moved ∙ sym (spaces_passed rules f line at n text r.last u more le passes).places
        ∙ ap (λ ss. places_from f r.last (segments rules ss)) (sym e)

    pub spaces_comments : comments_at_end rules (spaced f) q ≡ comments_at_end rules f r
    spaces_comments =
        ap (comments_at_end rules (spaced f)) moved ∙ sym (spaces_passed rules f line at n text r.last u more le passes).at_end
        ∙ ap (λ ss. f.had_comments || list_any (λ g. is_comment g.kind) (segments rules ss)) (sym e)
