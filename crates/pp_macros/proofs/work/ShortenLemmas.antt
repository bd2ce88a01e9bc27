-- A move takes more than it adds: fewer items and open blocks are left after it.
use Rattle.std.proofs.Common.{◌≡◌, ℕ, ◌+◌, ◌-◌, ◌<◌, ◌≤◌, Bool, true, false, not, ◌&&◌, if◌then◌else◌, List, [], ◌∷◌, ◌++◌, length, drop, length-drop, append-nil, refl, ap, arith, Option, Some, None}
use Rattle.std.specs.Option.{option_map_or}
use Rattle.std.proofs.lemmas.List.{length-take, length_push}
use Rattle.pp_lexer.specs.Lexed.{Seen}
use Rattle.pp_lexer.specs.declared.rules.Rules.{Rules}
use Rattle.pp_lexer.specs.declared.token.Location.{Location}
use Rattle.pp_model.specs.Places.{Fault}
use Rattle.pp_model.specs.Blocks.{part_of}
use Rattle.pp_model.specs.Sights.{sight_of}
use Rattle.pp_model.specs.declared.block.Part.{Part}
use Rattle.pp_model.specs.declared.block.Part.TheVariants as part
use Rattle.pp_model.specs.declared.directive.Directive.{Directive}
use Rattle.pp_model.specs.declared.sight.Sight.{Sight}
use Rattle.pp_model.specs.declared.sight.Sight.TheVariants as sight
use Rattle.pp_macros.specs.inner.OpenBlocks.{last_block, outer_blocks, with_last, facts_among, is_live_among, block_parted, block_begun, block_branched, block_change, block_change_at}
use Rattle.pp_macros.specs.declared.blocks.OpenBlock.{OpenBlock}
use Rattle.pp_model.specs.Moves.{BlockFacts, Effect, fails, ends, Move, failing, passing, directive_move, error_length, move_at}
use Rattle.pp_model.specs.inner.Moves.{taking_more}
use Rattle.pp_macros.specs.inner.SourceMoves.{move_of}
use Rattle.pp_model.proofs.source.MovesLemmas.{error_taken}
use Rattle.pp_macros.proofs.work.DirectiveLineLemmas.{begins_directive}
use Rattle.pp_macros.proofs.work.MoveSizeLemmas.{effect_adds, IsWithin, directive_within}

-- an effect after which nothing failed, and which is not the end
abbrev pub moves_on : Effect → Bool
moves_on (fails fault) = false
moves_on ends = false
moves_on _ = true

-- how many blocks a line adds at most; a block that is parted or closed counts as one that is added
abbrev pub part_adds : Option Part → ℕ
part_adds None = 0
part_adds (Some part) = 1

abbrev pub sight_adds : Sight → ℕ
sight_adds (sight.Directive directive word) = part_adds (part_of directive)
sight_adds _ = 0

-- so many items, open blocks and tokens that were defined are there at most after a move that adds so many blocks
abbrev pub left_after : ℕ → Move → ℕ → ℕ → ℕ
left_after more move items blocks = items - move.taken + blocks + (effect_adds move.effect + more)

-- what is taken is more than is added
abbrev pub Shortens : ℕ → Move → ℕ → ℕ → Type 0
Shortens more move items blocks = moves_on move.effect ≡ true → left_after more move items blocks < items + blocks

part_adds_one : (part : Option Part) → part_adds part ≤ 1
part_adds_one None = omega arith
part_adds_one (Some part) = omega arith

last_least : (change : OpenBlock → OpenBlock) (blocks : List OpenBlock) → length (with_last change blocks) ≤ length blocks + 1
last_least change blocks = go (last_block blocks)
  where
    go : (last : Option OpenBlock) → length (outer_blocks blocks ++ option_map_or (λ block. change block ∷ []) last []) ≤ length blocks + 1
    go None = omega (arith, ap length (append-nil (outer_blocks blocks)), length-take (length blocks - 1) blocks)
    go (Some block) = omega (arith, length_push (outer_blocks blocks) (change block), length-take (length blocks - 1) blocks)

change_least : (part : Option Part) (word : Location) (condition : Option Bool) (blocks : List OpenBlock)
    → length (block_change part word condition blocks) ≤ length blocks + part_adds part
change_least None word condition blocks = omega arith
change_least (Some part.Opens) word condition blocks = omega (arith, length_push blocks (block_begun word condition))
change_least (Some part.Elif) word condition blocks = last_least (block_branched condition) blocks
change_least (Some part.Else) word condition blocks = last_least block_parted blocks
change_least (Some part.Closes) word condition blocks = omega (arith, length-take (length blocks - 1) blocks)

-- a line adds no more blocks than that
pub sight_least : (shown : Sight) (condition : Option Bool) (blocks : List OpenBlock)
    → length (block_change_at shown condition blocks) ≤ length blocks + sight_adds shown
sight_least (sight.Directive directive word) condition blocks = change_least (part_of directive) word condition blocks
sight_least sight.End condition blocks = omega arith
sight_least sight.NewLine condition blocks = omega arith
sight_least (sight.Fault fault) condition blocks = omega arith
sight_least (sight.Token token) condition blocks = omega arith
sight_least (sight.Hash location) condition blocks = omega arith
sight_least sight.Lone condition blocks = omega arith
sight_least (sight.NoWord fault) condition blocks = omega arith

two_items : (rest : List Seen) (directive : Directive) (word : Location) → sight_of rest ≡ sight.Directive directive word → 2 ≤ length rest
two_items rest directive word e =
    let front = ap length (begins_directive rest directive word e).front in
    omega (arith, front)

module _ (rules : Rules) (block : Option BlockFacts) (blocks : ℕ) (rest : List Seen) where
  fault_shortens : (fault : Fault) (passed : Bool) → 0 < length rest
      → Shortens 0 (if passed then passing (error_length rest) else failing fault) (length rest) blocks
  fault_shortens fault true some e = omega (arith, some, error_taken rest)
  fault_shortens fault false some e = absurd (cc)

  within_shortens : (more : ℕ) → more ≤ 1 → (move : Move) → IsWithin move (length (drop 2 rest)) → 2 ≤ length rest
      → left_after more (taking_more 2 move) (length rest) blocks < length rest + blocks
  within_shortens more few move within two = omega (arith, few, within.adds, within.taken, length-drop 2 rest)

  shown_shortens : (live : Bool) (shown : Sight) → sight_of rest ≡ shown → 0 < length rest
      → Shortens (sight_adds shown) (move_at rules live block shown rest) (length rest) blocks
  shown_shortens live sight.End is some e = absurd (cc)
  shown_shortens live sight.NewLine is some e = omega arith
  shown_shortens live (sight.Fault fault) is some e = fault_shortens fault (not live && rules.passes_dead_errors) some e
  shown_shortens true (sight.Token token) is some e = omega arith
  shown_shortens false (sight.Token token) is some e = omega arith
  shown_shortens true (sight.Hash location) is some e = absurd (cc)
  shown_shortens false (sight.Hash location) is some e = omega arith
  shown_shortens live sight.Lone is some e = omega arith
  shown_shortens true (sight.NoWord fault) is some e = absurd (cc)
  shown_shortens false (sight.NoWord fault) is some e = omega arith
  shown_shortens live (sight.Directive directive word) is some e =
      within_shortens (part_adds (part_of directive)) (part_adds_one (part_of directive)) (directive_move rules live block directive word (drop 2 rest))
      (directive_within rules word (drop 2 rest) live block directive) (two_items rest directive word is)

-- each move takes more than it adds
pub move_of_shortens : (rules : Rules) (dead : Bool) (blocks : List OpenBlock) (rest : List Seen)
    → Shortens (sight_adds (sight_of rest)) (move_of rules dead blocks rest) (length rest) (length blocks)
move_of_shortens rules dead blocks [] e = absurd (cc)
move_of_shortens rules dead blocks (s ∷ rest) e =
    shown_shortens rules (facts_among blocks) (length blocks) (s ∷ rest) (is_live_among dead blocks) (sight_of (s ∷ rest)) refl (omega arith) e
