-- The lines of blocks before one of them, from the items before it.
use Rattle.std.proofs.Common.{◌≡◌, ◌∙◌, ℕ, zero, suc, ◌+◌, ◌≤◌, Bool, true, false, List, [], ◌∷◌, ◌++◌, length, take, refl, ap, sym, subst, Option, Some, None, arith}
use Rattle.std.proofs.lemmas.List.{take-take}
use Rattle.std.specs.List.{AllByRecursion as Each, cons_option}
use Rattle.pp_lexer.specs.Lexed.{Seen}
use Rattle.pp_model.specs.Sights.{sight_of, is_directive_hash}
use Rattle.pp_model.specs.Blocks.{line_at, block_lines, Block, open_blocks, blocks_at}
use Rattle.pp_model.specs.declared.block.BlockLine.{BlockLine}
use Rattle.pp_model.specs.declared.sight.Sight.{Sight}
use Rattle.pp_model.specs.declared.sight.Sight.TheVariants as sight
use Rattle.pp_macros.proofs.work.QuietLemmas.{quiet_item}
use Rattle.pp_macros.proofs.work.DirectiveLineLemmas.{begins_directive}
use Rattle.pp_model.proofs.including.BlockLinesLemmas.{alone, same_sight}
use Rattle.pp_rs.proofs.blocks.BlockPositionLemmas.{StandsWithin, line_stands, each_after, block_lines_within, last_lies_before}
use Rattle.pp_rs.proofs.blocks.SurroundingsLemmas.{none_within, open_at}

-- where the line of a block stands in front, the next item begins none
word_quiet : (position : ℕ) (s next : Seen) (later : List Seen) (line : BlockLine) (shown : Sight) → sight_of (s ∷ next ∷ later) ≡ shown
    → line_at position shown ≡ Some line
    → block_lines (position + 1) (next ∷ later) ≡ block_lines (position + 1 + 1) later
word_quiet position s next later line (sight.Directive directive word) e found =
    let b = begins_directive (s ∷ next ∷ later) directive word e in
    let front : s ∷ next ∷ later ≡ b.hash ∷ b.name ∷ b.after = b.front in
    let same : b.name ≡ next = cc in
    quiet_item (position + 1) next later (ap (λ (x : Seen). is_directive_hash x.item) (sym same) ∙ b.plain)
word_quiet position s next later line sight.End e found = cc
word_quiet position s next later line _ e found = cc

-- a line among those of some items stands among them
among : (position : ℕ) (items : List Seen) (earlier later : List BlockLine) (line : BlockLine) → block_lines position items ≡ earlier ++ line ∷ later
    → position ≤ line.position
among position items earlier later line e =
    let within = StandsWithin position (position + length items) in
    (each_after within earlier (line ∷ later) (subst (λ (lines : List BlockLine). Each within lines) e (block_lines_within position items))).0.0

abbrev IsCut : ℕ → ℕ → List Seen → List BlockLine → Type 0
IsCut position n items earlier = block_lines position (take n items) ≡ earlier

-- the lines before a line stand among the items before it
abbrev IsCutBefore : ℕ → List Seen → BlockLine → List BlockLine → Type 0
IsCutBefore position items line later = (n : ℕ) (earlier : List BlockLine) → block_lines position items ≡ earlier ++ line ∷ later
    → line.position ≡ position + n → IsCut position n items earlier

module _ (position : ℕ) (s : Seen) (line : BlockLine) (later : List BlockLine) where
  -- an item that is no number sign of a directive
  cut_quiet : (rest : List Seen) → is_directive_hash s.item ≡ false → IsCutBefore (position + 1) rest line later → IsCutBefore position (s ∷ rest) line later
  cut_quiet rest q cut zero earlier e at_line =
      absurd (omega (arith, at_line, among (position + 1) rest earlier later line (sym (quiet_item position s rest q) ∙ e)))
  cut_quiet rest q cut (suc n) earlier e at_line =
      quiet_item position s (take n rest) q ∙ cut n earlier (sym (quiet_item position s rest q) ∙ e) (omega (arith, at_line))

  module _ (next : Seen) (after : List Seen) where
    -- a number sign after which no line of a block stands
    cut_none : line_at position (sight_of (s ∷ next ∷ after)) ≡ None → IsCutBefore (position + 1) (next ∷ after) line later
        → IsCutBefore position (s ∷ next ∷ after) line later
    cut_none none cut n earlier e at_line = cut_at n at_line
      where
        rest_lines : block_lines (position + 1) (next ∷ after) ≡ earlier ++ line ∷ later
        rest_lines = sym (ap (λ found. cons_option found (block_lines (position + 1) (next ∷ after))) none) ∙ e

        cut_at : (n : ℕ) → line.position ≡ position + n → IsCut position n (s ∷ next ∷ after) earlier
        cut_at zero there = absurd (omega (arith, there, among (position + 1) (next ∷ after) earlier later line rest_lines))
        cut_at (suc zero) there = alone position s ∙ cut zero earlier rest_lines (omega (arith, there))
        cut_at (suc (suc m)) there =
            ap (λ found. cons_option found (block_lines (position + 1) (next ∷ take m after)))
            (ap (line_at position) (same_sight s next (take m after) after) ∙ none)
            ∙ cut (suc m) earlier rest_lines (omega (arith, there))

    -- a line of a block
    cut_some : (found : BlockLine) → line_at position (sight_of (s ∷ next ∷ after)) ≡ Some found
        → IsCutBefore (position + 1) (next ∷ after) line later → IsCutBefore position (s ∷ next ∷ after) line later
    cut_some found is cut n earlier e at_line = cut_at n earlier at_line whole
      where
        whole : found ∷ block_lines (position + 1) (next ∷ after) ≡ earlier ++ line ∷ later
        whole = sym (ap (λ f. cons_option f (block_lines (position + 1) (next ∷ after))) is) ∙ e

        further : (earlier : List BlockLine) → block_lines (position + 1) (next ∷ after) ≡ earlier ++ line ∷ later → position + 1 + 1 ≤ line.position
        further earlier e = among (position + 1 + 1) after earlier later line
            (sym (word_quiet position s next after found (sight_of (s ∷ next ∷ after)) refl is) ∙ e)

        cut_at : (n : ℕ) (earlier : List BlockLine) → line.position ≡ position + n
            → found ∷ block_lines (position + 1) (next ∷ after) ≡ earlier ++ line ∷ later → IsCut position n (s ∷ next ∷ after) earlier
        cut_at zero [] there e = refl
        cut_at (suc n) [] there e =
            let same : found ≡ line = cc in
            absurd (omega (arith, there, line_stands position (sight_of (s ∷ next ∷ after)) found is, ap (λ (l : BlockLine). l.position) same))
        cut_at zero (first ∷ earlier) there e =
            let rest_lines : block_lines (position + 1) (next ∷ after) ≡ earlier ++ line ∷ later = cc in
            absurd (omega (arith, there, further earlier rest_lines))
        cut_at (suc zero) (first ∷ earlier) there e =
            let rest_lines : block_lines (position + 1) (next ∷ after) ≡ earlier ++ line ∷ later = cc in
            absurd (omega (arith, there, further earlier rest_lines))
        cut_at (suc (suc m)) (first ∷ earlier) there e =
            let rest_lines : block_lines (position + 1) (next ∷ after) ≡ earlier ++ line ∷ later = cc in
            let same : found ≡ first = cc in
            ap (λ f. cons_option f (block_lines (position + 1) (next ∷ take m after)))
            (ap (line_at position) (same_sight s next (take m after) after) ∙ is ∙ ap Some same)
            ∙ ap (λ lines. first ∷ lines) (cut (suc m) earlier rest_lines (omega (arith, there)))

    cut_found : (found : Option BlockLine) → line_at position (sight_of (s ∷ next ∷ after)) ≡ found
        → IsCutBefore (position + 1) (next ∷ after) line later → IsCutBefore position (s ∷ next ∷ after) line later
    cut_found None is cut = cut_none is cut
    cut_found (Some found) is cut = cut_some found is cut

  cut_item : (hash : Bool) (rest : List Seen) → is_directive_hash s.item ≡ hash → IsCutBefore (position + 1) rest line later
      → IsCutBefore position (s ∷ rest) line later
  cut_item false rest is cut = cut_quiet rest is cut
  cut_item true [] is cut = λ n earlier e at_line. absurd (none_within earlier later line (sym (alone position s) ∙ e))
  cut_item true (next ∷ after) is cut = cut_found next after (line_at position (sight_of (s ∷ next ∷ after))) refl cut

-- the lines of blocks before one of them are those of the items before it
pub lines_cut : (items : List Seen) (position : ℕ) (line : BlockLine) (later : List BlockLine) → IsCutBefore position items line later
lines_cut [] position line later = λ n earlier e at_line. absurd (none_within earlier later line e)
lines_cut (s ∷ rest) position line later = cut_item position s line later (is_directive_hash s.item) rest refl (lines_cut rest (position + 1) line later)

-- the blocks around an open block are those that are open at its first line
pub blocks_around : (source : List Seen) (position : ℕ) (before : List Block) (block : Block) (inner : List Block)
    → blocks_at source position ≡ before ++ block ∷ inner → blocks_at source block.first.position ≡ before
blocks_around source position before block inner e =
    let o = open_at (block_lines 0 (take position source)) before block inner e in
    let below : block.first.position ≤ position = omega (arith, (last_lies_before source position before block inner e).0) in
    let cut : block_lines 0 (take block.first.position (take position source)) ≡ o.earlier =
    lines_cut (take position source) 0 block.first o.later block.first.position o.earlier o.split (omega arith) in
    ap (λ items. open_blocks (block_lines 0 items)) (sym (take-take block.first.position position source below)) ∙ ap open_blocks cut ∙ o.around
