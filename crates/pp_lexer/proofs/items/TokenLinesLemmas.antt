-- The lines of tokens are lines of the source: at least 1, and at most one more than its bytes.
use Rattle.std.proofs.Common.{◌≡◌, ℕ, zero, suc, ◌+◌, ◌≤◌, List, [], ◌∷◌, ◌++◌, length, take, drop, Bool, true, false, sym, arith, length-drop, All, subst, if◌then◌else◌, ◌⊎◌, inl, inr}
use Rattle.std.specs.Str.{chars, IsUtf8}
use Rattle.pp_lexer.specs.declared.rules.Rules.{Rules}
use Rattle.pp_lexer.specs.declared.lexer.char_iterator.Spot.{Spot}
use Rattle.pp_lexer.specs.Cursor.{Placed}
use Rattle.pp_lexer.specs.Lines.{Piece, pieces}
use Rattle.pp_lexer.specs.inner.Lines.{is_newline_piece}
use Rattle.pp_lexer.specs.Continuations.{continued}
use Rattle.pp_lexer.specs.Comments.{replaced}
use Rattle.pp_lexer.specs.inner.Readers.{placed_from}
use Rattle.pp_lexer.specs.Reading.{spots}
use Rattle.pp_lexer.specs.Spots.{spots_of}
use Rattle.pp_lexer.specs.Segments.{Kind, Segment, last_of, taken_by, segments_within, segments}
use Rattle.pp_lexer.specs.Items.{Item, item_at, final_newline, items_by}
use Rattle.pp_lexer.specs.ItemLaws.{HasLineWithin, TokensHaveLines}
use Rattle.pp_lexer.specs.PhaseLaws.{lines_of, replaced_of}
use Rattle.pp_lexer.proofs.characters.LinesLemmas.{lines_are}
use Rattle.pp_lexer.proofs.characters.PiecesLemmas.{length-pieces-source}
use Rattle.pp_lexer.proofs.characters.ContinuationsLemmas.{continued_from, continued-stays}
use Rattle.pp_lexer.proofs.characters.CommentsLemmas.{replaced-nil}
use Rattle.pp_lexer.proofs.characters.ReplacedLemmas.{Marks, front}
use Rattle.pp_lexer.proofs.items.ItemsLemmas.{items_from, items_at_start}
use Rattle.pp_lexer.proofs.items.PlacesLemmas.{Each, each_all}

-- a line of a source of that many bytes
abbrev IsLine : ℕ → ℕ → Type 0
IsLine total line = (1 ≤ line) × (line ≤ total + 1)

abbrev PlacedHaveLines : ℕ → List Placed → Type 0
PlacedHaveLines total ps = Each (λ p. IsLine total p.line) ps

abbrev SpotsHaveLines : ℕ → List Spot → Type 0
SpotsHaveLines total ss = Each (λ s. IsLine total s.line) ss

abbrev ItemsHaveLines : ℕ → List Item → Type 0
ItemsHaveLines total is = Each (λ i. HasLineWithin total i.item) is

each_drop : {X : Type 0} (P : X → Type 0) (n : ℕ) (xs : List X) → Each P xs → Each P (drop n xs)
unfolding Each
each_drop P zero [] h = h
each_drop P zero (x ∷ xs) h = h
each_drop P (suc n) [] h = h
each_drop P (suc n) (x ∷ xs) h = each_drop P n xs h.1

-- the characters of the source

next_line : (b : Bool) (line : ℕ) → (line ≤ (if b then line + 1 else line)) × ((if b then line + 1 else line) ≤ line + 1)
next_line true line = (omega arith, omega arith)
next_line false line = (omega arith, omega arith)

lines-placed_from : (line at total : ℕ) (ps : List Piece) → 1 ≤ line → line + length ps ≤ total + 1 → PlacedHaveLines total (placed_from line at ps)
unfolding Each
lines-placed_from line at total [] h k = tt
lines-placed_from line at total (p ∷ ps) h k =
    let next : ℕ = if is_newline_piece p then line + 1 else line in
    let up : (line ≤ next) × (next ≤ line + 1) = next_line (is_newline_piece p) line in
    ((h, omega arith), lines-placed_from next (at + p.bytes) total ps (omega (arith, up.0)) (omega (arith, up.1)))

lines-lines_of : (source : List ℕ) → IsUtf8 source → PlacedHaveLines (length source) (lines_of source)
lines-lines_of source u =
    rw (lines_are (chars source)) (lines-placed_from 1 0 (length source) (pieces (chars source)) (omega arith) (omega (arith, length-pieces-source source u)))

-- the characters without continuations

lines-continued_from : (total : ℕ) (before ps : List Placed) → PlacedHaveLines total ps → PlacedHaveLines total (continued_from before ps)
unfolding Each
lines-continued_from total before [] h = tt
lines-continued_from total before (p ∷ ps) h =
    grind (arith, continued-stays, lines-continued_from total (p ∷ before) ps h.1)

lines-continued : (total : ℕ) (ps : List Placed) → PlacedHaveLines total ps → PlacedHaveLines total (continued ps)
unfolding continued
lines-continued total ps h = lines-continued_from total [] ps h

-- the characters with marks in place of comments

lines_within_n : (n total : ℕ) (ps : List Placed) → length ps ≤ n → PlacedHaveLines total ps → PlacedHaveLines total (replaced total ps)
unfolding Each
lines_within_n n total [] le h = rw (replaced-nil total) tt
lines_within_n zero total (p ∷ ps) le h = absurd (omega arith)
lines_within_n (suc n) total (p ∷ ps) le h = by_front (front total p ps) (λ qs. lines_within_n n total qs)
  where
    by_front : (replaced total (p ∷ ps) ≡ p ∷ replaced total ps) ⊎ Marks total p ps
        → ((qs : List Placed) → length qs ≤ n → PlacedHaveLines total qs → PlacedHaveLines total (replaced total qs))
        → PlacedHaveLines total (replaced total (p ∷ ps))
    by_front (inl e) ih = rw e (h.0, ih ps (omega arith) h.1)
    by_front (inr m) ih =
        rw m.is (
          subst (IsLine total) (sym m.line) h.0,
          ih (drop m.more ps) (omega (arith, length-drop m.more ps))
              (each_drop (λ (p : Placed). IsLine total p.line) m.more ps h.1),
        )

lines-replaced_of : (source : List ℕ) → IsUtf8 source → PlacedHaveLines (length source) (replaced_of source)
lines-replaced_of source u = grind (arith, lines_within_n, lines-continued, lines-lines_of)

lines-spots : (at total : ℕ) (ps : List Placed) → PlacedHaveLines total ps → SpotsHaveLines total (spots at ps)
unfolding Each
lines-spots at total [] h = tt
lines-spots at total (p ∷ ps) h = (h.0, lines-spots p.end total ps h.1)

-- the segments

abbrev HasLines : ℕ → Segment → Type 0
HasLines total g = IsLine total g.first.line × IsLine total g.last.line

abbrev SegmentsHaveLines : ℕ → List Segment → Type 0
SegmentsHaveLines total gs = Each (HasLines total) gs

line-last_of : (n total : ℕ) (s : Spot) (ss : List Spot) → IsLine total s.line → SpotsHaveLines total ss → IsLine total (last_of s (take n ss)).line
unfolding Each
line-last_of zero total s [] h k = h
line-last_of zero total s (t ∷ ss) h k = h
line-last_of (suc n) total s [] h k = h
line-last_of (suc n) total s (t ∷ ss) h k = line-last_of n total t ss k.0 k.1

lines-segments : (rules : Rules) (n total : ℕ) (ss : List Spot) → SpotsHaveLines total ss → SegmentsHaveLines total (segments_within rules n ss)
unfolding Each
lines-segments rules zero total ss h = tt
lines-segments rules (suc n) total [] h = tt
lines-segments rules (suc n) total (s ∷ ss) h = (
  (h.0, line-last_of (taken_by rules s ss) total s (s ∷ ss) h.0 h),
  lines-segments rules n total (drop (taken_by rules s ss) (s ∷ ss)) (each_drop (λ (s : Spot). IsLine total s.line) (taken_by rules s ss) (s ∷ ss) h),
)

-- the items

line-item_at : (total : ℕ) (before : List Segment) (g : Segment) (k : Kind) (is : List Item) → HasLines total g
    → ItemsHaveLines total is → ItemsHaveLines total (item_at before g k ++ is)
unfolding Each
line-item_at total before g k is h e = grind arith

line-final_newline : (total : ℕ) (before : List Segment) → SegmentsHaveLines total before → ItemsHaveLines total (final_newline before)
unfolding Each
line-final_newline total before h = grind arith

lines-items_from : (total : ℕ) (before gs : List Segment) → SegmentsHaveLines total before → SegmentsHaveLines total gs
    → ItemsHaveLines total (items_from before gs)
unfolding Each items_from
lines-items_from total before [] b h = line-final_newline total before b
lines-items_from total before (g ∷ gs) b h = line-item_at total before g g.kind (items_from (g ∷ before) gs) h.0 (lines-items_from total
    (g ∷ before) gs (h.0, b) h.1)

lines-items_of : (rules : Rules) (total : ℕ) (ss : List Spot) → SpotsHaveLines total ss → All (λ i. HasLineWithin total i.item) (items_by rules ss)
unfolding Each segments
lines-items_of rules total ss h =
    each_all (λ i. HasLineWithin total i.item) (items_by rules ss)
    (subst (Each (λ i. HasLineWithin total i.item)) (sym (items_at_start rules ss))
    (lines-items_from total [] (segments rules ss) tt (lines-segments rules (length ss) total ss h)))

-- each token of a source has a line that is at least 1, and at most one more than the source's bytes
pub tokens_have_lines : TokensHaveLines
tokens_have_lines rules source u = lines-items_of rules (length source) (spots_of source)
    (lines-spots 0 (length source) (replaced_of source) (lines-replaced_of source u))
