-- Where the lines of blocks are, and so the marks of the open blocks.
use Rattle.std.proofs.Common.{◌≡◌, ℕ, zero, suc, ◌+◌, ◌≤◌, ◌<◌, Bool, true, false, ◌&&◌, if◌then◌else◌, List, [], ◌∷◌, ◌++◌, length, take, refl, subst, Option, Some, None, arith}
use Rattle.std.specs.List.{AllByRecursion as Each, cons_option}
use Rattle.pp_lexer.specs.Lexed.{Seen}
use Rattle.pp_lexer.specs.declared.token.Location.{Location}
use Rattle.pp_model.specs.Sights.{sight_of}
use Rattle.pp_model.specs.Blocks.{part_of, line_at, block_lines, opens, Block, open_blocks, blocks_at}
use Rattle.pp_model.specs.inner.Blocks.{line_with}
use Rattle.pp_model.specs.declared.block.BlockLine.{BlockLine}
use Rattle.pp_model.specs.declared.block.Part.{Part}
use Rattle.pp_model.specs.declared.sight.Sight.{Sight}
use Rattle.pp_model.specs.declared.sight.Sight.TheVariants as sight
use Rattle.pp_macros.specs.inner.OpenBlocks.{marks}
use Rattle.pp_rs.proofs.blocks.InnerBlocksLemmas.{inner_after, stays_open, parts_block, parting, open_blocks_step}

module _ {X : Type 0} (P : X → Type 0) where
  pub each_weaker : (Q : X → Type 0) → ((x : X) → P x → Q x) → (xs : List X) → Each P xs → Each Q xs
  each_weaker Q weaker [] all = tt
  each_weaker Q weaker (x ∷ xs) all = (weaker x all.0, each_weaker Q weaker xs all.1)

  pub each_before : (xs ys : List X) → Each P (xs ++ ys) → Each P xs
  each_before [] ys all = tt
  each_before (x ∷ xs) ys all = (all.0, each_before xs ys all.1)

  pub each_after : (xs ys : List X) → Each P (xs ++ ys) → Each P ys
  each_after [] ys all = all
  each_after (x ∷ xs) ys all = each_after xs ys all.1

-- a line stands from one position on, and before another
abbrev pub StandsWithin : ℕ → ℕ → BlockLine → Type 0
StandsWithin from end line = (from ≤ line.position) × (line.position < end)

part_stands : (position : ℕ) (word : Location) (p : Option Part) (line : BlockLine) → line_with position word p ≡ Some line → line.position ≡ position
part_stands position word (Some p) line e = cc
part_stands position word None line e = cc

-- the line of a block stands where its number sign does
pub line_stands : (position : ℕ) (shown : Sight) (line : BlockLine) → line_at position shown ≡ Some line → line.position ≡ position
line_stands position (sight.Directive directive word) line e = part_stands position word (part_of directive) line e
line_stands position _ line e = cc

stand_later : (from end : ℕ) (lines : List BlockLine) → Each (StandsWithin (from + 1) end) lines → Each (StandsWithin from end) lines
stand_later from end lines = each_weaker (StandsWithin (from + 1) end) (StandsWithin from end) (λ line there. (omega (arith, there.0), there.1)) lines

stand_first : (from end : ℕ) (found : Option BlockLine) (later : List BlockLine) → ((line : BlockLine) → found ≡ Some line → line.position ≡ from) → from < end
    → Each (StandsWithin (from + 1) end) later → Each (StandsWithin from end) (cons_option found later)
stand_first from end None later at_first room all = stand_later from end later all
stand_first from end (Some line) later at_first room all = (
  (omega (arith, at_first line refl), omega (arith, at_first line refl, room)),
  stand_later from end later all,
)

stand_within : (from end : ℕ) (items : List Seen) → from + length items ≡ end → Each (StandsWithin from end) (block_lines from items)
stand_within from end [] e = tt
stand_within from end (s ∷ rest) e =
    stand_first from end (line_at from (sight_of (s ∷ rest))) (block_lines (from + 1) rest) (line_stands from (sight_of (s ∷ rest))) (omega (arith, e))
    (stand_within (from + 1) end rest (omega (arith, e)))

-- the lines of blocks stand at the positions of these items
pub block_lines_within : (position : ℕ) (items : List Seen) → Each (StandsWithin position (position + length items)) (block_lines position items)
block_lines_within position items = stand_within position (position + length items) items refl

module _ (P : BlockLine → Type 0) where
  each_if : (parts : Bool) (line : BlockLine) (later : List BlockLine) → P line → Each P later → Each P (if parts then line ∷ later else later)
  each_if true line later here all = (here, all)
  each_if false line later here all = all

  -- what holds of each line holds of those that part a block
  each_parting : (inner : ℕ) (lines : List BlockLine) → Each P lines → Each P (parting inner lines)
  each_parting inner [] all = tt
  each_parting inner (line ∷ later) all =
      each_if (parts_block line.part inner) line (parting (inner_after line.part inner) later) all.0 (each_parting (inner_after line.part inner) later all.1)

  each_block_if : (begins : Bool) (block : Block) (blocks : List Block) → Each P (marks block) → Each (λ b. Each P (marks b)) blocks
      → Each (λ b. Each P (marks b)) (if begins then block ∷ blocks else blocks)
  each_block_if true block blocks here all = (here, all)
  each_block_if false block blocks here all = all

  -- what holds of each line holds of each mark of the blocks that are open
  pub each_mark : (lines : List BlockLine) → Each P lines → Each (λ block. Each P (marks block)) (open_blocks lines)
  each_mark [] all = tt
  each_mark (line ∷ later) all =
      rw (open_blocks_step line later)
      (each_block_if (opens line.part && stays_open 0 later) (record { first = line; partings = parting 0 later }) (open_blocks later)
      (all.0, each_parting 0 later all.1) (each_mark later all.1))

-- all marks of a block stand before a position
abbrev pub LiesBefore : ℕ → Block → Type 0
LiesBefore position block = Each (λ line. line.position < position) (marks block)

-- it lies before each later position too
pub lies_before_later : (position later : ℕ) (block : Block) → position ≤ later → LiesBefore position block → LiesBefore later block
lies_before_later position later block h = each_weaker (λ line. line.position < position) (λ line. line.position < later)
    (λ line there. omega (arith, there, h)) (marks block)

taken_at_most : (n : ℕ) (items : List Seen) → length (take n items) ≤ n
taken_at_most zero items = omega arith
taken_at_most (suc n) [] = omega arith
taken_at_most (suc n) (s ∷ rest) = omega (arith, taken_at_most n rest)

-- the lines of blocks before a position stand before it
pub lines_before : (source : List Seen) (position : ℕ) → Each (λ line. line.position < position) (block_lines 0 (take position source))
lines_before source position =
    each_weaker (StandsWithin 0 (0 + length (take position source))) (λ line. line.position < position)
    (λ line there. omega (arith, there.1, taken_at_most position source))
    (block_lines 0 (take position source)) (block_lines_within 0 (take position source))

-- the blocks that are open at a position lie before it
pub blocks_lie_before : (source : List Seen) (position : ℕ) → Each (LiesBefore position) (blocks_at source position)
blocks_lie_before source position = each_mark (λ line. line.position < position) (block_lines 0 (take position source)) (lines_before source position)

-- so does the innermost, and those around it
pub last_lies_before : (source : List Seen) (position : ℕ) (before : List Block) (block : Block) (inner : List Block)
    → blocks_at source position ≡ before ++ block ∷ inner → LiesBefore position block
last_lies_before source position before block inner e =
    (each_after (LiesBefore position) before (block ∷ inner)
    (subst (λ (blocks : List Block). Each (LiesBefore position) blocks) e (blocks_lie_before source position))).0

pub around_lie_before : (source : List Seen) (position : ℕ) (before : List Block) (block : Block) (inner : List Block)
    → blocks_at source position ≡ before ++ block ∷ inner → Each (LiesBefore position) before
around_lie_before source position before block inner e =
    each_before (LiesBefore position) before (block ∷ inner)
    (subst (λ (blocks : List Block). Each (LiesBefore position) blocks) e (blocks_lie_before source position))
