-- Which branches of a block are live, once the lines of the block were read (GLSL ES 3.20, section 3.4, and
-- docs/RULES.md, Directives 7 to 11).
use Rattle.std.specs.Prelude.{◌≡◌, ℕ, ◌≤◌, ◌<◌, true, List, take, drop, length, Some, option_map}
use Rattle.std.specs.List.{AllByRecursion as Each}
use Rattle.pp_lexer.specs.Lexed.{Seen}
use Rattle.pp_lexer.specs.declared.rules.Rules.{Rules}
use Rattle.pp_model.specs.Blocks.{Truths, Block, line_at, blocks_at, innermost, is_last_chosen, are_surroundings_live}
use Rattle.pp_model.specs.Blocks.{has_else}
use Rattle.pp_model.specs.Calls.{Answers}
use Rattle.pp_model.specs.Reading.{Expander}
use Rattle.pp_model.specs.Run.{items_by}
use Rattle.pp_model.specs.RunStates.{IsReached}
use Rattle.pp_model.specs.Sights.{sight_of}
use Rattle.pp_model.specs.SourceReader.{SourceReader}
use Rattle.pp_model.specs.declared.block.Part.TheVariants as part

-- A mark of the block is chosen: mark 0 is its first line, and mark k the k-th `#elif` or `#else` line after it.
pub record IsChosen (truths : Truths) (block : Block) (mark : ℕ) : Type 0 where
  pub stands : mark ≤ length block.partings
  pub chosen : is_last_chosen truths block.first (take mark block.partings) ≡ true

abbrev pub AtMostOneIsChosen : Truths → Block → Type 0
AtMostOneIsChosen truths block =
    (mark other : ℕ)
    → IsChosen truths block mark
    → IsChosen truths block other
    → mark ≡ other

abbrev pub OneIsChosen : Truths → Block → Type 0
OneIsChosen truths block = ((mark : ℕ) × IsChosen truths block mark) × AtMostOneIsChosen truths block

-- the `#endif` of the block is at the position
pub record EndsAt (source : List Seen) (position : ℕ) (block : Block) : Type 0 where
  pub line : option_map (λ line. line.part) (line_at position (sight_of (drop position source))) ≡ Some part.Closes
  pub open_there : innermost (blocks_at source position) ≡ Some block

-- At most one mark of each block that was read is chosen. Exactly one is if the block was read up to and with its
-- `#endif`, has an `#else` and begins in live text.
pub record HasLiveBranches (reader : SourceReader) : Type 0 where
  pub at_most_one : (position : ℕ)
      → position ≤ reader.position
      → Each (AtMostOneIsChosen reader.truths) (blocks_at reader.items position)
  pub one : (position : ℕ) (block : Block)
      → position < reader.position
      → EndsAt reader.items position block
      → has_else block ≡ true
      → are_surroundings_live reader.items reader.truths block ≡ true
      → OneIsChosen reader.truths block

-- this holds in each state of a run of a text
abbrev pub RunHasLiveBranches : Answers → Type 0
RunHasLiveBranches A =
    (rules : Rules) (text : List ℕ) (e : Expander SourceReader)
    → IsReached A rules (items_by rules text) e
    → HasLiveBranches e.reader
