-- Parts of what a directive does, under names of their own.
use Rattle.std.specs.Prelude.{◌+◌, Bool, List, Option, drop}
use Rattle.pp_lexer.specs.Lexed.{Seen}
use Rattle.pp_lexer.specs.declared.token.Token.{Token}
use Rattle.pp_model.specs.Places.{Fault}
use Rattle.pp_model.specs.Lines.{line_length}
use Rattle.pp_model.specs.Blocks.{Block, blocks_at, innermost}
use Rattle.pp_model.specs.Moves.{Move}
use Rattle.pp_model.specs.inner.Moves.{taking_more}
use Rattle.pp_model.specs.Acts.{Acted, outcome_at, advanced_by, decided, perform}
use Rattle.pp_model.specs.SourceReader.{SourceReader}
use Rattle.pp_model.specs.declared.outcome.Outcome.TheVariants as outcome

abbrev pub fault_at : Fault → SourceReader → Acted
fault_at fault reader = outcome_at (outcome.Fault fault) reader

abbrev pub item_at : Token → SourceReader → Acted
item_at token after = outcome_at (outcome.Token token) after

-- the items that are left
abbrev pub items_left : SourceReader → List Seen
items_left reader = drop reader.position reader.items

-- the items after the directive's word
abbrev pub after_word : SourceReader → List Seen
after_word reader = drop 2 (items_left reader)

-- the reader after the directive's line
abbrev pub after_line : SourceReader → SourceReader
after_line reader = advanced_by (2 + line_length (after_word reader)) reader

-- the same, once the condition of that line was read and holds or not
abbrev pub after_condition : SourceReader → Bool → SourceReader
after_condition reader holds = decided reader.position holds (after_line reader)

abbrev pub block_here : SourceReader → Option Block
block_here reader = innermost (blocks_at reader.items reader.position)

-- what a directive's line does to the reader at its `#`
abbrev pub perform_line : Move → SourceReader → Acted
perform_line move reader = perform (taking_more 2 move) reader
