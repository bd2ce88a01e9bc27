-- Each item of a text has one place, which is that of a token's location.
use Rattle.std.proofs.Common.{List, [], ◌∷◌, ◌++◌, sym, subst, arith}
use Rattle.pp_lexer.specs.declared.rules.Rules.{Rules}
use Rattle.pp_lexer.specs.declared.token.Location.{Location}
use Rattle.pp_lexer.specs.declared.lexer.char_iterator.Spot.{Spot}
use Rattle.pp_lexer.specs.Segments.{Kind, Segment, segments}
use Rattle.pp_lexer.specs.Items.{Item, item_at, final_newline, items_by, places_at, places_by}
use Rattle.pp_lexer.specs.ItemLaws.{StandAt}
use Rattle.pp_lexer.specs.inner.Passing.{places_from}
use Rattle.pp_lexer.proofs.items.ItemsLemmas.{items_from, items_at_start, places_at_start, flags_after, last_before, flags_step}

stand-append : (items more : List Item) (places others : List Location) → StandAt items places → StandAt more others
    → StandAt (items ++ more) (places ++ others)
stand-append [] more [] others h k = k
stand-append [] more (p ∷ places) others h k = absurd h
stand-append (i ∷ items) more [] others h k = absurd h
stand-append (i ∷ items) more (p ∷ places) others h k = (h.0, stand-append items more places others h.1 k)

segment_stands : (k : Kind) (g : Segment) (before : List Segment) → StandAt (item_at before g k) (places_at g k)
segment_stands k g before = grind arith

end_stands : (before : List Segment) (s : Spot) → StandAt (final_newline before) (places_from (flags_after before) (last_before before s) [])
end_stands before s = grind arith

items_stand : (gs before : List Segment) (s : Spot) → StandAt (items_from before gs) (places_from (flags_after before) (last_before before s) gs)
unfolding items_from
items_stand [] before s = end_stands before s
items_stand (g ∷ gs) before s = grind (arith, segment_stands, flags_step, items_stand gs (g ∷ before) s)

nowhere_spot : Spot
nowhere_spot = record { c = 0; line = 0; begin = 0; end = 0 }

pub places_of_items : (rules : Rules) (ss : List Spot) → StandAt (items_by rules ss) (places_by rules ss)
places_of_items rules ss =
    subst (λ items. StandAt items (places_by rules ss)) (sym (items_at_start rules ss))
    (subst (StandAt (items_from [] (segments rules ss))) (sym (places_at_start rules ss nowhere_spot))
    (items_stand (segments rules ss) [] nowhere_spot))
