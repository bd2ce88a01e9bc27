-- Parts of what a block is, under names of their own.
use Rattle.std.specs.Prelude.{ℕ, Bool, true, false, not, Option, option_map, unwrap_or}
use Rattle.pp_lexer.specs.declared.token.Location.{Location}
use Rattle.pp_model.specs.Blocks.{Truths, Block, is_last_chosen}
use Rattle.pp_model.specs.declared.block.BlockLine.{BlockLine}
use Rattle.pp_model.specs.declared.block.Part.{Part}

abbrev pub line_with : ℕ → Location → Option Part → Option BlockLine
line_with position word part = option_map (λ part. record { position = position; word = word; part = part }) part

abbrev pub is_known_true : Option Bool → Bool
is_known_true truth = unwrap_or truth false

abbrev pub is_known_false : Option Bool → Bool
is_known_false truth = not (unwrap_or truth true)

abbrev pub is_branch_live : Truths → Block → Bool
is_branch_live truths block = is_last_chosen truths block.first block.partings
