-- Blocks of conditional text, and which text is live (GLSL ES 3.20, section 3.4, and
-- docs/RULES.md, Directives 7 to 11).
use Rattle.std.specs.Prelude.{ℕ, ◌+◌, ◌-◌, ◌==◌, Bool, true, false, not, ◌&&◌, ◌||◌, if◌then◌else◌, List, [], ◌∷◌}
use Rattle.std.specs.Prelude.{length, take, slice_get, Option, Some, None, find, option_map, unwrap_or}
use Rattle.std.specs.List.{list_any, list_all, cons_option}
use Rattle.pp_lexer.specs.Lexed.{Seen}
use Rattle.pp_model.specs.Sights.{sight_of}
use Rattle.pp_model.specs.declared.block.BlockLine.{BlockLine}
use Rattle.pp_model.specs.declared.block.Part.{Part}
use Rattle.pp_model.specs.declared.block.Part.TheVariants as part
use Rattle.pp_model.specs.declared.directive.Directive.{Directive}
use Rattle.pp_model.specs.declared.directive.Directive.TheVariants as d
use Rattle.pp_model.specs.declared.sight.Sight.{Sight}
use Rattle.pp_model.specs.declared.sight.Sight.TheVariants as sight
use Rattle.pp_model.specs.declared.truth.Truth.{Truth}

-- what a directive does to a block, if it does anything
abbrev pub part_of : Directive → Option Part
part_of d.If = Some part.Opens
part_of d.Ifdef = Some part.Opens
part_of d.Ifndef = Some part.Opens
part_of d.Elif = Some part.Elif
part_of d.Else = Some part.Else
part_of d.Endif = Some part.Closes
part_of _ = None

-- the block line at the position, if there is one
abbrev pub line_at : ℕ → Sight → Option BlockLine
line_at position (sight.Directive directive word) =
    option_map (λ part. record { position = position; word = word; part = part }) (part_of directive)
line_at position _ = None

-- the lines that open, part or close blocks among these items, if the first item has this position
abbrev pub block_lines : ℕ → List Seen → List BlockLine
block_lines position [] = []
block_lines position (s ∷ rest) = cons_option (line_at position (sight_of (s ∷ rest))) (block_lines (position + 1) rest)

abbrev pub opens : Part → Bool
opens part.Opens = true
opens _ = false

abbrev pub is_else : Part → Bool
is_else part.Else = true
is_else _ = false

abbrev pub closes : Part → Bool
closes part.Closes = true
closes _ = false

-- the lines that part a block in which `inner` inner ones are open, or none if one of these lines closes it
abbrev pub partings_of : ℕ → List BlockLine → Option (List BlockLine)
partings_of inner [] = Some []
partings_of inner (line ∷ later) =
    if opens line.part then partings_of (inner + 1) later
    else if closes line.part then (if inner == 0 then None else partings_of (inner - 1) later)
    else if inner == 0 then option_map (λ lines. line ∷ lines) (partings_of 0 later)
    else partings_of inner later

-- A block that is open: its first line, and the lines that part it so far. Together these are its marks.
pub record Block : Type 0 where
  pub first : BlockLine
  pub partings : List BlockLine

-- the block that the line opens, if it opens one that is still open after the later lines
abbrev pub opened_by : BlockLine → List BlockLine → Option Block
opened_by line later =
    if opens line.part then option_map (λ partings. record { first = line; partings = partings }) (partings_of 0 later)
    else None

-- the blocks that are open after these lines, the outermost first
abbrev pub open_blocks : List BlockLine → List Block
open_blocks [] = []
open_blocks (line ∷ later) = cons_option (opened_by line later) (open_blocks later)

-- the blocks that are open at a position of a source
abbrev pub blocks_at : List Seen → ℕ → List Block
blocks_at source position = open_blocks (block_lines 0 (take position source))

-- the innermost block, which is the last one
abbrev pub innermost : List Block → Option Block
innermost blocks = slice_get blocks (length blocks - 1)

-- the conditions that were read so far
abbrev pub Truths : Type 0
Truths = List Truth

-- whether the condition at a position holds, if it was read
abbrev pub truth_at : Truths → ℕ → Option Bool
truth_at truths position = option_map (λ t. t.holds) (find (λ t. t.position == position) truths)

-- a mark's own condition was read and holds; an `#else` has none, and counts as one that holds
abbrev pub holds_at : Truths → BlockLine → Bool
holds_at truths mark = is_else mark.part || unwrap_or (truth_at truths mark.position) false

-- a mark's own condition was read and is false; an `#else` has none, and counts as false
abbrev pub fails_at : Truths → BlockLine → Bool
fails_at truths mark = is_else mark.part || not (unwrap_or (truth_at truths mark.position) true)

-- The last of these marks is chosen: its condition holds, and each earlier one is false.
abbrev pub is_last_chosen : Truths → BlockLine → List BlockLine → Bool
is_last_chosen truths mark [] = holds_at truths mark
is_last_chosen truths mark (later ∷ marks) = fails_at truths mark && is_last_chosen truths later marks

-- A position is live if in each block that is open there the latest mark is chosen. The blocks around a block are open
-- at its first line too, with the same latest marks; so its surroundings are live if that line is.
abbrev pub is_live : List Seen → Truths → ℕ → Bool
is_live source truths position =
    list_all (λ block. is_last_chosen truths block.first block.partings) (blocks_at source position)

-- the surroundings of a block
abbrev pub are_surroundings_live : List Seen → Truths → Block → Bool
are_surroundings_live source truths block = is_live source truths block.first.position

-- a branch of the block was taken: one of its conditions was read and holds
abbrev pub has_taken_branch : Truths → Block → Bool
has_taken_branch truths block =
    list_any (λ mark. unwrap_or (truth_at truths mark.position) false) (block.first ∷ block.partings)

abbrev pub has_else : Block → Bool
has_else block = list_any (λ mark. is_else mark.part) block.partings
