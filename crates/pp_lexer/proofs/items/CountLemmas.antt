-- How many items a text has at most.
use Rattle.std.proofs.Common.{ℕ, zero, suc, ◌+◌, ◌≤◌, List, [], ◌∷◌, length, drop, arith, length-append}
use Rattle.pp_lexer.specs.declared.rules.Rules.{Rules}
use Rattle.pp_lexer.specs.declared.lexer.char_iterator.Spot.{Spot}
use Rattle.pp_lexer.specs.Cursor.{Placed}
use Rattle.pp_lexer.specs.Reading.{spots}
use Rattle.pp_lexer.specs.Segments.{Kind, Segment, taken_by, segments_within, segments}
use Rattle.pp_lexer.specs.Items.{item_at, final_newline, items_by}
use Rattle.pp_lexer.proofs.characters.SpotsLemmas.{length-spots}
use Rattle.pp_lexer.proofs.items.ItemsLemmas.{items_from, items_at_start}

length-segments_within : (rules : Rules) (n : ℕ) (ss : List Spot) → length (segments_within rules n ss) ≤ n
length-segments_within rules zero ss = omega arith
length-segments_within rules (suc n) [] = omega arith
length-segments_within rules (suc n) (s ∷ ss) = let h = length-segments_within rules n (drop (taken_by rules s ss) (s ∷ ss)) in omega (arith, h)

length-item_at : (before : List Segment) (g : Segment) (k : Kind) → length (item_at before g k) ≤ 1
length-item_at before g k = grind arith

length-final_newline : (before : List Segment) → length (final_newline before) ≤ 1
length-final_newline before = grind arith

length-items_from : (gs before : List Segment) → length (items_from before gs) ≤ length gs + 1
unfolding items_from
length-items_from [] before = length-final_newline before
length-items_from (g ∷ gs) before =
    omega (arith, length-append (item_at before g g.kind) (items_from (g ∷ before) gs), length-item_at before g g.kind, length-items_from gs (g ∷ before))

-- at most one for each character, and one
pub length-items_of : (rules : Rules) (at : ℕ) (ps : List Placed) → length (items_by rules (spots at ps)) ≤ length ps + 1
unfolding segments
length-items_of rules at ps = grind (arith, items_at_start, length-items_from, length-segments_within, length-spots)
