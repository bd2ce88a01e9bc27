-- The lines of blocks among some items, and among fewer of them.
use Rattle.std.proofs.Common.{◌≡◌, ◌∙◌, ◌⊎◌, inl, inr, ℕ, ◌≤◌, List, [], ◌∷◌, ◌++◌, take, refl, ap, sym, append-nil, append_assoc, Option, Some, None}
use Rattle.std.specs.List.{cons_option}
use Rattle.std.proofs.lemmas.List.{take-take, append_cancel_left}
use Rattle.pp_lexer.specs.Lexed.{Seen}
use Rattle.pp_model.specs.Blocks.{block_lines, open_blocks, blocks_at}
use Rattle.pp_model.specs.declared.block.BlockLine.{BlockLine}
use Rattle.pp_model.proofs.including.BlockLinesLemmas.{ComeFirst, lines_first}

-- at most one line is cut in no two
not_cut : (found : Option BlockLine) (first second : List BlockLine) → cons_option found [] ≡ first ++ second → (first ≡ []) ⊎ (second ≡ [])
not_cut found [] second e = inl refl
not_cut found (line ∷ first) [] e = inr refl
not_cut None (line ∷ first) (other ∷ second) e = cc
not_cut (Some one) (line ∷ []) (other ∷ second) e = cc
not_cut (Some one) (line ∷ next ∷ first) (other ∷ second) e = cc

-- lines between some and one more are those or these
either_lines : (found : Option BlockLine) (earlier lines all first second : List BlockLine) → all ≡ earlier ++ cons_option found []
    → lines ≡ earlier ++ first → all ≡ lines ++ second
    → (lines ≡ earlier) ⊎ (lines ≡ all)
either_lines found earlier lines all first second one a b = by_cut (not_cut found first second same)
  where
    same : cons_option found [] ≡ first ++ second
    same = append_cancel_left earlier (cons_option found []) (first ++ second)
        (sym one ∙ b ∙ ap (λ front. front ++ second) a ∙ append_assoc earlier first second)

    by_cut : (first ≡ []) ⊎ (second ≡ []) → (lines ≡ earlier) ⊎ (lines ≡ all)
    by_cut (inl none) = inl (a ∙ ap (λ more. earlier ++ more) none ∙ append-nil earlier)
    by_cut (inr none) = inr (sym (b ∙ ap (λ more. lines ++ more) none ∙ append-nil lines))

-- Between two places, where at most one line of a block is added from the first to the second, the blocks are open that are open at one of them.
pub open_between : (items : List Seen) (position next : ℕ) (found : Option BlockLine)
    → block_lines 0 (take next items) ≡ block_lines 0 (take position items) ++ cons_option found []
    → (place : ℕ) → position ≤ place → place ≤ next → (blocks_at items place ≡ blocks_at items position) ⊎ (blocks_at items place ≡ blocks_at items next)
open_between items position next found adds place after before =
    blocks (either_lines found (block_lines 0 (take position items)) (block_lines 0 (take place items)) (block_lines 0 (take next items)) a.others b.others adds
    (a.split ∙ ap (λ front. block_lines 0 front ++ a.others) (take-take position place items after))
    (b.split ∙ ap (λ front. block_lines 0 front ++ b.others) (take-take place next items before)))
  where
    a : ComeFirst (block_lines 0 (take position (take place items))) (block_lines 0 (take place items))
    a = lines_first position 0 (take place items)

    b : ComeFirst (block_lines 0 (take place (take next items))) (block_lines 0 (take next items))
    b = lines_first place 0 (take next items)

    blocks : (block_lines 0 (take place items) ≡ block_lines 0 (take position items)) ⊎ (block_lines 0 (take place items) ≡ block_lines 0 (take next items))
        → (blocks_at items place ≡ blocks_at items position) ⊎ (blocks_at items place ≡ blocks_at items next)
    blocks (inl e) = inl (ap open_blocks e)
    blocks (inr e) = inr (ap open_blocks e)
