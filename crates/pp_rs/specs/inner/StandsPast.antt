-- The blocks of a text as they are kept, and as they are in the definitions. Where an `#elif` outside of all blocks
-- made the rest of the text dead, the outermost block there is the one that is left for it, and none is kept for it.
use Rattle.std.specs.Prelude.{◌≡◌, ◌≢◌, ℕ, Bool, false, if◌then◌else◌, List, ◌++◌, length}
use Rattle.std.specs.List.{list_all}
use Rattle.pp_lexer.specs.Lexed.{Seen}
use Rattle.pp_model.specs.Blocks.{Block, Truths}
use Rattle.pp_model.specs.inner.Blocks.{is_branch_live}
use Rattle.pp_macros.specs.inner.OpenBlocks.{StandForBlocks}
use Rattle.pp_macros.specs.declared.blocks.OpenBlock.{OpenBlock}

-- how many of the outermost blocks stand for none
abbrev pub dead_count : Bool → ℕ
dead_count dead = if dead then 1 else 0

-- The kept blocks stand for those that come after the outermost `n`. Of these, if there are any, not all branches are
-- live.
pub record StandPast (n : ℕ) (source : List Seen) (truths : Truths) (kept : List OpenBlock) (blocks : List Block)
    : Type 0 where
  pub dead : List Block
  pub own : List Block
  pub split : blocks ≡ dead ++ own
  pub count : length dead ≡ n
  pub not_live : n ≢ 0 → list_all (is_branch_live truths) dead ≡ false
  pub stand : StandForBlocks source truths kept own
