-- A lexer that passes segments gives the items of the text.
use Rattle.std.proofs.Common.{◌≡◌, ℕ, ◌+◌, zero-add, List, [], ◌∷◌, ◌++◌, map, reverse, append_assoc, Bool, true, false, refl, sym, ◌∙◌, ap, arith, cond}
use Rattle.std.specs.Prelude.{nat_lt}
use Rattle.std.specs.List.{list_any, flat_map}
use Rattle.std.proofs.lemmas.List.Sums.{sum_by-cons}
use Rattle.std.proofs.lemmas.List.{map-append, append-nil, reverse-append}
use Rattle.std.proofs.lemmas.List.Concat.{flat_map-cons}
use Rattle.pp_lexer.specs.declared.rules.Rules.{Rules}
use Rattle.pp_lexer.specs.declared.lexer.char_iterator.Spot.{Spot}
use Rattle.pp_lexer.specs.declared.lexer.Flags.{Flags}
use Rattle.pp_lexer.specs.Location.{nowhere}
use Rattle.pp_lexer.specs.Reading.{Reading}
use Rattle.pp_lexer.specs.Surroundings.{surrounded_from, surrounded}
use Rattle.pp_lexer.specs.Segments.{Kind, Segment, segments}
use Rattle.pp_lexer.specs.inner.Passing.{passed, item_seen, newline_seen, seen_from, places_from, lexed}
use Rattle.pp_lexer.specs.Items.{is_comment, leading_whitespace, start_of_line, comments_in, item_at, final_newline, items_by, Item, places_at, final_place, places_by}
use Rattle.pp_lexer.specs.inner.Items.{item_of}
use Rattle.pp_lexer.specs.Lexed.{seen, start_by}

-- the items of the segments from a place on, and of the end
unfoldable pub items_from : List Segment → List Segment → List Item
items_from before [] = final_newline before
items_from before (g ∷ gs) = item_at before g g.kind ++ items_from (g ∷ before) gs

items_surrounded : (gs before : List Segment) → flat_map item_of (surrounded_from before gs) ++ final_newline (reverse gs ++ before) ≡ items_from before gs
unfolding items_from
items_surrounded [] before = refl
items_surrounded (g ∷ gs) before =
    let r : reverse (g ∷ gs) ++ before ≡ reverse gs ++ g ∷ before = ap (λ xs. xs ++ before) (reverse-append (g ∷ []) gs)
    ∙ append_assoc (reverse gs) (g ∷ []) before in
    ap (λ xs. xs ++ final_newline (reverse (g ∷ gs) ++ before))
    (flat_map-cons item_of (record { before = before; here = g; after = gs }) (surrounded_from (g ∷ before) gs))
    ∙ append_assoc (item_at before g g.kind) (flat_map item_of (surrounded_from (g ∷ before) gs)) (final_newline (reverse (g ∷ gs) ++ before))
    ∙ ap (λ xs. item_at before g g.kind ++ (flat_map item_of (surrounded_from (g ∷ before) gs) ++ final_newline xs)) r
    ∙ ap (λ xs. item_at before g g.kind ++ xs) (items_surrounded gs (g ∷ before))

pub items_at_start : (rules : Rules) (ss : List Spot) → items_by rules ss ≡ items_from [] (segments rules ss)
items_at_start rules ss = ap (λ xs. flat_map item_of (surrounded (segments rules ss)) ++ final_newline xs)
    (sym (append-nil (reverse (segments rules ss))))
    ∙ items_surrounded (segments rules ss) []

-- the flags of a lexer after these segments
abbrev pub flags_after : List Segment → Flags
flags_after before = record {
  leading_whitespace = leading_whitespace before;
  start_of_line = start_of_line before;
  had_comments = list_any (λ g. is_comment g.kind) before;
}

-- the last character before
abbrev pub last_before : List Segment → Spot → Spot
last_before [] s = s
last_before (g ∷ gs) s = g.last

pub flags_step : (k : Kind) (first last : Spot) (before : List Segment)
    → flags_after (record { kind = k; first = first; last = last } ∷ before) ≡ passed (flags_after before) k
flags_step k first last before = grind arith

above_zero : (n : ℕ) → nat_lt 0 (1 + n) ≡ true
above_zero n = grind arith

-- some comments were passed where their number is not 0
comments_some : (gs : List Segment) → nat_lt 0 (comments_in gs) ≡ list_any (λ g. is_comment g.kind) gs
comments_some [] = refl
comments_some (g ∷ gs) = by (is_comment g.kind) refl (comments_some gs)
  where
    by : (b : Bool) → is_comment g.kind ≡ b → nat_lt 0 (comments_in gs) ≡ list_any (λ g. is_comment g.kind) gs
        → nat_lt 0 (comments_in (g ∷ gs)) ≡ list_any (λ g. is_comment g.kind) (g ∷ gs)
    by true e h = ap (nat_lt 0) (sum_by-cons (λ x. cond (is_comment x.kind) 1 0) g gs) ∙ rw e (above_zero (comments_in gs))
    by false e h = ap (nat_lt 0) (sum_by-cons (λ x. cond (is_comment x.kind) 1 0) g gs) ∙ rw (e, zero-add) h

item_step : (k : Kind) (first last : Spot) (before : List Segment)
    → map seen (item_at before (record { kind = k; first = first; last = last }) k) ≡ item_seen (flags_after before)
    (record { kind = k; first = first; last = last }) k
item_step k first last before = grind (arith, comments_some)

end_step : (before : List Segment) (s : Spot) → map seen (final_newline before) ≡ newline_seen (flags_after before) (last_before before s)
end_step before s = grind (arith, comments_some)

items_seen : (gs before : List Segment) (s : Spot) → map seen (items_from before gs) ≡ seen_from (flags_after before) (last_before before s) gs
unfolding items_from
items_seen [] before s = end_step before s
items_seen (g ∷ gs) before s =
    map-append seen (item_at before g g.kind) (items_from (g ∷ before) gs)
    ∙ ap (λ xs. xs ++ map seen (items_from (g ∷ before) gs)) (item_step g.kind g.first g.last before)
    ∙ ap (λ xs. item_seen (flags_after before) g g.kind ++ xs)
    (items_seen gs (g ∷ before) s ∙ ap (λ f. seen_from f g.last gs) (flags_step g.kind g.first g.last before))

places_surrounded : (gs before : List Segment) (s : Spot) → flat_map (λ g. places_at g g.kind) gs ++ final_place (reverse gs ++ before) ≡ places_from
    (flags_after before) (last_before before s) gs
places_surrounded [] [] s = refl
places_surrounded [] (g ∷ gs) s = refl
places_surrounded (g ∷ gs) before s =
    let r : reverse (g ∷ gs) ++ before ≡ reverse gs ++ g ∷ before = ap (λ xs. xs ++ before) (reverse-append (g ∷ []) gs)
    ∙ append_assoc (reverse gs) (g ∷ []) before in
    ap (λ xs. xs ++ final_place (reverse (g ∷ gs) ++ before)) (flat_map-cons (λ g. places_at g g.kind) g gs)
    ∙ append_assoc (places_at g g.kind) (flat_map (λ g. places_at g g.kind) gs) (final_place (reverse (g ∷ gs) ++ before))
    ∙ ap (λ xs. places_at g g.kind ++ (flat_map (λ g. places_at g g.kind) gs ++ final_place xs)) r
    ∙ ap (λ xs. places_at g g.kind ++ xs) (places_surrounded gs (g ∷ before) s ∙ ap (λ f. places_from f g.last gs) (flags_step g.kind g.first g.last before))

pub places_at_start : (rules : Rules) (ss : List Spot) (s : Spot) → places_by rules ss ≡ places_from (flags_after []) s (segments rules ss)
places_at_start rules ss s = ap (λ xs. flat_map (λ g. places_at g g.kind) (segments rules ss) ++ final_place xs)
    (sym (append-nil (reverse (segments rules ss))))
    ∙ places_surrounded (segments rules ss) [] s

pub start_seen : (rules : Rules) (r : Reading) (ss : List Spot) (last : Spot) → r ≡ record { rest = ss; last = last }
    → lexed rules (record { leading_whitespace = true; start_of_line = true; had_comments = false }) r nowhere false ≡ start_by rules ss
start_seen rules r ss last e =
    let at_end = list_any (λ g. is_comment g.kind) (segments rules ss) in
    rw e (ap (λ ps. record {
      rest = seen_from (flags_after []) last (segments rules ss);
      had_comments = false;
      at_end = at_end;
      spent = false;
      over = true;
      place = nowhere;
      places = ps;
      rules = rules;
    }) (sym (places_at_start rules ss last))
    ∙ ap (λ xs. record { rest = xs; had_comments = false; at_end = at_end; spent = false; over = true; place = nowhere; places = places_by rules ss; rules = rules })
    (sym (ap (map seen) (items_at_start rules ss) ∙ items_seen (segments rules ss) [] last))
    ∙ ap (λ b. record {
      rest = map seen (items_by rules ss);
      had_comments = false;
      at_end = b;
      spent = false;
      over = true;
      place = nowhere;
      places = places_by rules ss;
      rules = rules;
    })
    (sym (comments_some (segments rules ss))))
