-- The items of a text are whole lines: its last item ends a line.
use Rattle.std.proofs.Common.{◌≡◌, ◌∙◌, Bool, true, false, List, [], ◌∷◌, ◌++◌, map, ℕ, refl, subst, sym}
use Rattle.std.specs.Prelude.{Ok, Err}
use Rattle.pp_lexer.specs.Items as lexer
use Rattle.pp_lexer.specs.Items.{Item, item_at, final_newline, start_of_line, lexeme}
use Rattle.pp_lexer.specs.Lexed.{Seen, seen}
use Rattle.pp_lexer.specs.Segments.{Kind, Segment, segments}
use Rattle.pp_lexer.specs.Segments as segment
use Rattle.pp_lexer.specs.Spots.{spots_of}
use Rattle.pp_lexer.specs.declared.lexer.item.TokenValue.TheVariants.{NewLine}
use Rattle.pp_lexer.specs.declared.rules.Rules.{Rules}
use Rattle.pp_lexer.proofs.items.ItemsLemmas.{items_from, items_at_start}
use Rattle.pp_model.specs.IncludeLaws.{are_whole_lines}
use Rattle.pp_model.specs.Run.{items_by}

-- the last of these items ends a line; if there is none, that is known of what comes before
abbrev pub end_line : Bool → List Seen → Bool
end_line before [] = before
end_line before (s ∷ items) = are_whole_lines (s ∷ items)

-- one more item in front
one_more : (b : Bool) (s : Seen) (items : List Seen) → are_whole_lines (s ∷ []) ≡ b → end_line b items ≡ true → are_whole_lines (s ∷ items) ≡ true
one_more b s [] is h = is ∙ h
one_more b s (t ∷ items) is h = h

-- the newline that is added at the end
final_ends : (before : List Segment) → end_line (start_of_line before) (map seen (final_newline before)) ≡ true
final_ends [] = refl
final_ends (g ∷ before) = by_start (start_of_line (g ∷ before)) refl
  where
    by_start : (b : Bool) → start_of_line (g ∷ before) ≡ b → end_line (start_of_line (g ∷ before)) (map seen (final_newline (g ∷ before))) ≡ true
    by_start true is = rw is refl
    by_start false is = rw is refl

-- the item of a segment, and the items after it
segment_ends : (before : List Segment) (g : Segment) (k : Kind) (rest : List Item) → g.kind ≡ k
    → end_line (start_of_line (g ∷ before)) (map seen rest) ≡ true
    → end_line (start_of_line before) (map seen (item_at before g k ++ rest)) ≡ true
segment_ends before g segment.blank rest is h = rw is at h
segment_ends before g segment.comment rest is h = rw is at h
segment_ends before g (segment.item (Ok NewLine)) rest is h = one_more true (seen (record { item = lexeme before g (Ok NewLine); comments = lexer.comments_in before })) (map seen rest) refl (rw is at h)
segment_ends before g (segment.item (Ok value)) rest is h = one_more false (seen (record { item = lexeme before g (Ok value); comments = lexer.comments_in before })) (map seen rest) refl (rw is at h)
segment_ends before g (segment.item (Err error)) rest is h = one_more false (seen (record { item = lexeme before g (Err error); comments = lexer.comments_in before })) (map seen rest) refl (rw is at h)

items_end : (before gs : List Segment) → end_line (start_of_line before) (map seen (items_from before gs)) ≡ true
unfolding items_from
items_end before [] = final_ends before
items_end before (g ∷ gs) = segment_ends before g g.kind (items_from (g ∷ before) gs) refl (items_end (g ∷ before) gs)

-- so they are from the start of a text
none_or_ends : (items : List Seen) → end_line true items ≡ true → are_whole_lines items ≡ true
none_or_ends [] h = refl
none_or_ends (s ∷ items) h = h

pub items_are_whole : (rules : Rules) (text : List ℕ) → are_whole_lines (items_by rules text) ≡ true
items_are_whole rules text =
    subst (λ items. are_whole_lines (map seen items) ≡ true) (sym (items_at_start rules (spots_of text)))
    (none_or_ends (map seen (items_from [] (segments rules (spots_of text)))) (items_end [] (segments rules (spots_of text))))
