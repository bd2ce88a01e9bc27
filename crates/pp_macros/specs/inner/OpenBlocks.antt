-- What the source keeps of each open block, and which block of the definitions this stands for (docs/RULES.md,
-- Directives 7 to 11).
use Rattle.std.specs.Prelude.{◌≡◌, ℕ, ◌<◌, ◌-◌, Bool, true, false, not, ◌&&◌, ◌||◌, List, [], ◌∷◌, ◌++◌, length, take}
use Rattle.std.specs.Prelude.{slice_get, Option, Some, None, option_map}
use Rattle.std.specs.Option.{option_map_or}
use Rattle.std.specs.List.{AllByRecursion as Each, AllZip, list_all}
use Rattle.pp_lexer.specs.Lexed.{Seen}
use Rattle.pp_lexer.specs.declared.token.Location.{Location}
use Rattle.pp_model.specs.Blocks.{Block, Truths, part_of, fails_at, are_surroundings_live, has_taken_branch, has_else}
use Rattle.pp_model.specs.inner.Blocks.{is_branch_live}
use Rattle.pp_model.specs.Moves.{BlockFacts}
use Rattle.pp_model.specs.declared.block.BlockLine.{BlockLine}
use Rattle.pp_model.specs.declared.block.Part.{Part}
use Rattle.pp_model.specs.declared.block.Part.TheVariants as part
use Rattle.pp_model.specs.declared.sight.Sight.{Sight}
use Rattle.pp_model.specs.declared.sight.Sight.TheVariants as sight
-- A block that is open: the place of its first line's word, whether its surroundings are live, whether a branch of it
-- was taken, whether it has an `#else`, and whether the branch that is being read is chosen.
pub use Rattle.pp_macros.specs.declared.blocks.OpenBlock.{OpenBlock}

-- the innermost open block is the last one
abbrev pub last_block : List OpenBlock → Option OpenBlock
last_block blocks = slice_get blocks (length blocks - 1)

abbrev pub outer_blocks : List OpenBlock → List OpenBlock
outer_blocks blocks = take (length blocks - 1) blocks

-- the blocks with another innermost one
abbrev pub with_last : (OpenBlock → OpenBlock) → List OpenBlock → List OpenBlock
with_last change blocks = outer_blocks blocks ++ option_map_or (λ block. change block ∷ []) (last_block blocks) []

-- the facts of the innermost block that the table of directives uses
abbrev pub kept_facts : OpenBlock → BlockFacts
kept_facts block = record {
  are_surroundings_live = block.live_around;
  has_taken_branch = block.taken;
  has_else = block.with_else;
}

abbrev pub facts_among : List OpenBlock → Option BlockFacts
facts_among blocks = option_map kept_facts (last_block blocks)

-- the text is live outside all blocks, and in a chosen branch of a block whose surroundings are live
abbrev pub is_live_in : Option OpenBlock → Bool
is_live_in None = true
is_live_in (Some block) = block.live_around && block.chosen

-- the same, if these blocks are open, and if an `#elif` outside of all blocks made the rest dead
abbrev pub is_live_among : Bool → List OpenBlock → Bool
is_live_among dead_for_good blocks = not dead_for_good && is_live_in (last_block blocks)

-- a block that a line opens: in live text its condition holds or doesn't, in dead text it isn't read
abbrev pub block_opened : Location → Bool → OpenBlock
block_opened word holds = record { word = word; live_around = true; taken = holds; with_else = false; chosen = holds }

abbrev pub block_unread : Location → OpenBlock
block_unread word = record { word = word; live_around = false; taken = false; with_else = false; chosen = false }

-- the block after its `#else`: this branch is chosen if the surroundings are live and no other branch was taken
abbrev pub block_parted : OpenBlock → OpenBlock
block_parted block = record block { with_else = true; chosen = block.live_around && not block.taken }

-- the block after an `#elif` that is skipped
abbrev pub block_skipped : OpenBlock → OpenBlock
block_skipped block = record block { chosen = false }

-- the block after an `#elif` whose condition holds or doesn't, if no branch was taken before
abbrev pub block_decided : OpenBlock → Bool → OpenBlock
block_decided block holds = record block { taken = holds; chosen = holds }

-- what a line does to the open blocks, if its condition holds or doesn't, or if it has none
abbrev pub BlockChange : Type 0
BlockChange = Option Bool → List OpenBlock → List OpenBlock

abbrev pub unchanged : BlockChange
unchanged condition blocks = blocks

-- the block that a line opens, and the block after an `#elif`
abbrev pub block_begun : Location → Option Bool → OpenBlock
block_begun word (Some holds) = block_opened word holds
block_begun word None = block_unread word

abbrev pub block_branched : Option Bool → OpenBlock → OpenBlock
block_branched (Some holds) block = block_decided block holds
block_branched None block = block_skipped block

abbrev pub elif_change : BlockChange
elif_change condition blocks = with_last (block_branched condition) blocks

-- a line with this word that opens, parts or closes a block, or does nothing to one
abbrev pub block_change : Option Part → Location → BlockChange
block_change None word = unchanged
block_change (Some part.Opens) word = λ condition blocks. blocks ++ block_begun word condition ∷ []
block_change (Some part.Elif) word = elif_change
block_change (Some part.Else) word = λ condition blocks. with_last block_parted blocks
block_change (Some part.Closes) word = λ condition blocks. outer_blocks blocks

-- what is at the front does this to the blocks
abbrev pub block_change_at : Sight → BlockChange
block_change_at (sight.Directive directive word) = block_change (part_of directive) word
block_change_at _ = unchanged

-- whether an `#elif` of the block is skipped: its surroundings are dead, or a branch was taken
abbrev pub skips_branches : OpenBlock → Bool
skips_branches block = not block.live_around || block.taken

-- the lines of a block that begin its branches
abbrev pub marks : Block → List BlockLine
marks block = block.first ∷ block.partings

-- every condition of the block was read and is false
abbrev pub all_fail : Truths → Block → Bool
all_fail truths block = list_all (fails_at truths) (marks block)

-- All conditions of a block were read and are false if and only if its surroundings are live and no branch was taken.
abbrev pub IsSettled : Bool → Truths → Block → Type 0
IsSettled live truths block = all_fail truths block ≡ live && not (has_taken_branch truths block)

pub record StandsForBlock (source : List Seen) (truths : Truths) (kept : OpenBlock) (block : Block) : Type 0 where
  pub word : block.first.word ≡ kept.word
  pub live_around : are_surroundings_live source truths block ≡ kept.live_around
  pub taken : has_taken_branch truths block ≡ kept.taken
  pub with_else : has_else block ≡ kept.with_else
  pub chosen : is_branch_live truths block ≡ kept.chosen
  pub settled : IsSettled kept.live_around truths block

-- the kept blocks stand for these, one by one
abbrev pub StandForBlocks : List Seen → Truths → List OpenBlock → List Block → Type 0
StandForBlocks source truths kept blocks = AllZip (StandsForBlock source truths) kept blocks

-- each condition that was read is before the position
abbrev pub AreBefore : ℕ → Truths → Type 0
AreBefore position truths = Each (λ truth. truth.position < position) truths
