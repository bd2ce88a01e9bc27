-- The tokens of characters that stand in order lie where these do.
use Rattle.std.proofs.Common.{ℕ, zero, suc, ◌≤◌, ◌<◌, List, [], ◌∷◌, ◌++◌, take, drop, arith}
use Rattle.std.specs.Prelude.{All}
use Rattle.std.proofs.lemmas.List.Elements.{All-cons}
use Rattle.pp_lexer.specs.declared.rules.Rules.{Rules}
use Rattle.pp_lexer.specs.declared.lexer.char_iterator.Spot.{Spot}
use Rattle.pp_lexer.specs.Cursor.{Placed}
use Rattle.pp_lexer.specs.Reading.{spots}
use Rattle.pp_lexer.specs.Segments.{Kind, blank, Segment, last_of, taken_by, segments_within, segments}
use Rattle.pp_lexer.specs.Items.{Item, item_at, final_newline, items_by}
use Rattle.pp_lexer.specs.ItemLaws.{IsWithin}
use Rattle.pp_lexer.specs.PhaseLaws.{StretchesFollow}
use Rattle.pp_lexer.proofs.items.SegmentsLemmas.{taken_some}
use Rattle.pp_lexer.proofs.items.ItemsLemmas.{items_from, items_at_start}

-- the characters stand one after the other, from this byte on
Ordered : ℕ → ℕ → List Spot → Type 0
Ordered at total [] = Unit {0}
Ordered at total (s ∷ ss) = (at ≤ s.begin) × (s.begin ≤ s.end) × (s.end ≤ total) × Ordered s.end total ss

ordered_before : (a b total : ℕ) (ss : List Spot) → b ≤ a → Ordered a total ss → Ordered b total ss
unfolding Ordered
ordered_before a b total [] h o = tt
ordered_before a b total (s ∷ ss) h o = (omega (arith, o.0), o.1, o.2, o.3)

-- stretches that follow one another end in the source
begin_within : (at total : ℕ) (ps : List Placed) → StretchesFollow at total ps → at ≤ total
begin_within at total [] h = h
begin_within at total (p ∷ ps) h = omega (arith, h.0, begin_within p.end total ps h.1)

ordered_spots : (at total : ℕ) (ps : List Placed) → StretchesFollow at total ps → Ordered at total (spots at ps)
unfolding Ordered
ordered_spots at total [] h = tt
ordered_spots at total (p ∷ ps) h = grind (arith, begin_within, ordered_before, ordered_spots p.end total ps h.1)

ordered_drop : (n at total : ℕ) (ss : List Spot) → Ordered at total ss → Ordered at total (drop n ss)
unfolding Ordered
ordered_drop zero at total ss o = o
ordered_drop (suc n) at total [] o = tt
ordered_drop (suc n) at total (s ∷ ss) o = ordered_before s.end at total (drop n ss) (omega (arith, o.0, o.1)) (ordered_drop n s.end total ss o.3)

last_ordered : (n total : ℕ) (s : Spot) (ss : List Spot) → s.begin ≤ s.end → s.end ≤ total → Ordered s.end total ss
    → (s.begin ≤ (last_of s (take n ss)).end) × ((last_of s (take n ss)).end ≤ total)
unfolding Ordered
last_ordered zero total s ss h k o = (h, k)
last_ordered (suc n) total s [] h k o = (h, k)
last_ordered (suc n) total s (t ∷ ss) h k o =
    let l = last_ordered n total t ss o.1 o.2 o.3 in
    (omega (arith, h, o.0, l.0), l.1)

-- the segment begins before it ends, and ends in the source
abbrev pub Lies : ℕ → Segment → Type 0
Lies total g = (g.first.begin ≤ g.last.end) × (g.last.end ≤ total)

-- each element of the list has the property
unfoldable pub Each : {X : Type 0} → (X → Type 0) → List X → Type 0
Each P [] = Unit {0}
Each P (x ∷ xs) = P x × Each P xs

first_lies : (at total : ℕ) (s : Spot) (ss : List Spot) (n : ℕ) → 0 < n → Ordered at total (s ∷ ss)
    → Lies total (record { kind = blank; first = s; last = last_of s (take n (s ∷ ss)) })
unfolding Ordered
first_lies at total s ss zero h o = absurd (omega arith)
first_lies at total s ss (suc n) h o = last_ordered n total s ss o.1 o.2 o.3

segments_lie : (rules : Rules) (n at total : ℕ) (ss : List Spot) → Ordered at total ss → Each (Lies total) (segments_within rules n ss)
unfolding Ordered Each
segments_lie rules zero at total ss o = tt
segments_lie rules (suc n) at total [] o = tt
segments_lie rules (suc n) at total (s ∷ ss) o = (
  first_lies at total s ss (taken_by rules s ss) (taken_some rules s ss) o,
  segments_lie rules n at total (drop (taken_by rules s ss) (s ∷ ss)) (ordered_drop (taken_by rules s ss) at total (s ∷ ss) o),
)

item_lies : (total : ℕ) (before : List Segment) (g : Segment) (k : Kind) (is : List Item) → Lies total g → Each (λ i. IsWithin total i.item) is
    → Each (λ i. IsWithin total i.item) (item_at before g k ++ is)
unfolding Each
item_lies total before g k is h e = grind arith

newline_lies : (total : ℕ) (before : List Segment) → Each (Lies total) before → Each (λ i. IsWithin total i.item) (final_newline before)
unfolding Each
newline_lies total before h = grind arith

items_lie : (total : ℕ) (gs before : List Segment) → Each (Lies total) gs → Each (Lies total) before → Each (λ i. IsWithin total i.item) (items_from before gs)
unfolding Each items_from
items_lie total [] before h b = newline_lies total before b
items_lie total (g ∷ gs) before h b = item_lies total before g g.kind (items_from (g ∷ before) gs) h.0 (items_lie total gs (g ∷ before) h.1 (h.0, b))

-- then it holds at each index
pub each_all : {X : Type 0} (P : X → Type 0) (xs : List X) → Each P xs → All P xs
unfolding Each
each_all P [] h = λ k d l. absurd (omega arith)
each_all P (x ∷ xs) h = All-cons P x xs h.0 (each_all P xs h.1)

-- the tokens of characters whose stretches follow one another lie in the source
pub items_within : (rules : Rules) (at total : ℕ) (ps : List Placed) → StretchesFollow at total ps
    → All (λ i. IsWithin total i.item) (items_by rules (spots at ps))
unfolding Each segments
items_within rules at total ps h = grind (arith, each_all, items_at_start, items_lie, segments_lie, ordered_spots)
