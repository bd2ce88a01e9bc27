-- Spaces of a plain text are passed.
use Rattle.std.proofs.Common.{◌≡◌, ℕ, ◌+◌, List, [], ◌∷◌, ◌++◌, length, get_or, true, false, ◌||◌, refl, ◌∙◌, ap, arith, suc}
use Rattle.std.specs.List.{list_all, list_any}
use Rattle.std.proofs.lemmas.Bool.{and_parts}
use Rattle.pp_lexer.specs.declared.rules.Rules.{Rules}
use Rattle.pp_lexer.specs.declared.lexer.char_iterator.Spot.{Spot}
use Rattle.pp_lexer.specs.declared.lexer.Flags.{Flags}
use Rattle.pp_lexer.specs.inner.Fronts.{is_plain, run}
use Rattle.pp_lexer.specs.Items.{is_comment}
use Rattle.pp_lexer.specs.inner.PlainWords.{is_space}
use Rattle.pp_lexer.specs.Segments.{segments}
use Rattle.pp_lexer.specs.inner.Segments.{is_mark}
use Rattle.pp_lexer.specs.Words.{is_blank}
use Rattle.pp_lexer.specs.inner.Passing.{seen_from, places_from}
use Rattle.pp_lexer.proofs.items.PassingLemmas.{blanked, blank_seen, blank_places, blank_at_end}

pub space_plain : (b : ℕ) → is_space b ≡ true → is_plain b ≡ true
space_plain b h = grind arith

pub space_blank : (b : ℕ) → is_space b ≡ true → is_blank b ≡ true
space_blank b h = grind arith

pub space_no_mark : (b : ℕ) → is_space b ≡ true → is_mark b ≡ false
space_no_mark b h = grind arith

-- spaces are passed

-- the flags after spaces
abbrev pub spaced : Flags → Flags
spaced f = record { leading_whitespace = true; start_of_line = f.start_of_line; had_comments = f.had_comments }

blanked_space : (f : Flags) (c : ℕ) → is_space c ≡ true → blanked f c ≡ spaced f
blanked_space f c h = grind arith

-- the items to come, and whether comments will have been passed
pub spaces_seen : (rules : Rules) (f : Flags) (line at c : ℕ) (w : List ℕ) (more : List Spot) (last : Spot) → list_all is_space (c ∷ w) ≡ true
    → seen_from f last (segments rules (run line at (c ∷ w) ++ more)) ≡ seen_from (spaced f)
    (record { c = get_or (c ∷ w) (length w) 0; line = line; begin = at + length w; end = at + length w + 1 }) (segments rules more)
spaces_seen rules f line at c [] more last h = grind (arith, blank_seen, blanked_space)
spaces_seen rules f line at c (d ∷ w) more last h =
    let b = and_parts (is_space c) (list_all is_space (d ∷ w)) h in
    let n : at + 1 + length w ≡ at + suc (length w) = omega arith in
    let s : Spot = record { c = c; line = line; begin = at; end = at + 1 } in
    blank_seen rules f last s (run line (at + 1) (d ∷ w) ++ more) (space_blank c b.0)
    ∙ ap (λ g. seen_from g s (segments rules (run line (at + 1) (d ∷ w) ++ more))) (blanked_space f c b.0)
    ∙ spaces_seen rules (spaced f) line (at + 1) d w more s b.1
    ∙ ap (λ k. seen_from (spaced f) (record { c = get_or (d ∷ w) (length w) 0; line = line; begin = k; end = k + 1 }) (segments rules more)) n

pub spaces_places : (rules : Rules) (f : Flags) (line at c : ℕ) (w : List ℕ) (more : List Spot) (last : Spot) → list_all is_space (c ∷ w) ≡ true
    → places_from f last (segments rules (run line at (c ∷ w) ++ more)) ≡ places_from (spaced f)
    (record { c = get_or (c ∷ w) (length w) 0; line = line; begin = at + length w; end = at + length w + 1 }) (segments rules more)
spaces_places rules f line at c [] more last h = grind (arith, blank_places, blanked_space)
spaces_places rules f line at c (d ∷ w) more last h =
    let b = and_parts (is_space c) (list_all is_space (d ∷ w)) h in
    let n : at + 1 + length w ≡ at + suc (length w) = omega arith in
    let s : Spot = record { c = c; line = line; begin = at; end = at + 1 } in
    blank_places rules f last s (run line (at + 1) (d ∷ w) ++ more) (space_blank c b.0)
    ∙ ap (λ g. places_from g s (segments rules (run line (at + 1) (d ∷ w) ++ more))) (blanked_space f c b.0)
    ∙ spaces_places rules (spaced f) line (at + 1) d w more s b.1
    ∙ ap (λ k. places_from (spaced f) (record { c = get_or (d ∷ w) (length w) 0; line = line; begin = k; end = k + 1 }) (segments rules more)) n

pub spaces_at_end : (rules : Rules) (f : Flags) (line at : ℕ) (w : List ℕ) (more : List Spot) → list_all is_space w ≡ true
    → (f.had_comments || list_any (λ g. is_comment g.kind) (segments rules (run line at w ++ more))) ≡
    (f.had_comments || list_any (λ g. is_comment g.kind) (segments rules more))
spaces_at_end rules f line at [] more h = refl
spaces_at_end rules f line at (c ∷ w) more h =
    let b = and_parts (is_space c) (list_all is_space w) h in
    let s : Spot = record { c = c; line = line; begin = at; end = at + 1 } in
    blank_at_end rules f s (run line (at + 1) w ++ more) (space_blank c b.0)
    ∙ ap (λ g. g.had_comments || list_any (λ x. is_comment x.kind) (segments rules (run line (at + 1) w ++ more))) (blanked_space f c b.0)
    ∙ spaces_at_end rules f line (at + 1) w more b.1
