-- Lines of blocks that are alike leave alike blocks open, and the same is known of these.
use Rattle.std.proofs.Common.{◌≡◌, ℕ, ◌+◌, ◌-◌, Bool, true, false, if◌then◌else◌, List, [], ◌∷◌, refl, subst, Option, Some, None}
use Rattle.std.specs.Prelude.{◌==◌, option_map, unwrap_or}
use Rattle.std.specs.List.{list_any, list_all}
use Rattle.pp_lexer.specs.Lexed.{Seen}
use Rattle.pp_model.specs.Blocks.{opens, closes, is_else, partings_of, Block, opened_by, open_blocks, blocks_at, innermost, Truths, truth_at, is_last_chosen, is_live, are_surroundings_live, has_taken_branch, has_else}
use Rattle.pp_model.specs.IncludeLaws.{are_closed}
use Rattle.pp_model.specs.Moves.{BlockFacts}
use Rattle.pp_model.specs.declared.block.BlockLine.{BlockLine}
use Rattle.pp_model.specs.declared.block.Part.{Part}
use Rattle.pp_model.specs.declared.block.Part.TheVariants as part
use Rattle.pp_model.specs.inner.Alike.{Pairs, Both}
use Rattle.pp_model.proofs.including.PairsLemmas.{pairs_cons}
use Rattle.pp_model.proofs.including.BlockLinesLemmas.{AlikeLines}

-- two blocks whose marks are alike
pub record AlikeBlocks (S : ℕ → ℕ → Type 0) (block other : Block) : Type 0 where
  pub first : AlikeLines S block.first other.first
  pub partings : Pairs (AlikeLines S) block.partings other.partings

module _ (S : ℕ → ℕ → Type 0) where
  module _ (line other : BlockLine) (same : AlikeLines S line other) where
    -- both part the block
    one_parting : (lines others : Option (List BlockLine)) → Both (Pairs (AlikeLines S)) lines others
        → Both (Pairs (AlikeLines S)) (option_map (λ lines. line ∷ lines) lines) (option_map (λ lines. other ∷ lines) others)
    one_parting None None later = tt
    one_parting (Some lines) (Some others) later = (same, later)
    one_parting _ _ later = absurd later

    -- one line more has the same partings
    parted_alike : (p : Part) (none_open : Bool) (inner : ℕ) (lines others : ℕ → Option (List BlockLine))
        → ((deeper : ℕ) → Both (Pairs (AlikeLines S)) (lines deeper) (others deeper))
        → Both (Pairs (AlikeLines S))
        (if opens p then lines (inner + 1) else if closes p then (if none_open then None else lines (inner - 1))
        else if none_open then option_map (λ lines. line ∷ lines) (lines 0) else lines inner)
        (if opens p then others (inner + 1) else if closes p then (if none_open then None else others (inner - 1))
        else if none_open then option_map (λ lines. other ∷ lines) (others 0) else others inner)
    parted_alike part.Opens none_open inner lines others later = later (inner + 1)
    parted_alike part.Closes true inner lines others later = tt
    parted_alike part.Closes false inner lines others later = later (inner - 1)
    parted_alike _ true inner lines others later = one_parting (lines 0) (others 0) (later 0)
    parted_alike _ false inner lines others later = later inner

    -- both open an alike block, or none
    opened_alike : (begins : Bool) (lines others : Option (List BlockLine)) → Both (Pairs (AlikeLines S)) lines others
        → Both (AlikeBlocks S) (if begins then option_map (λ partings. record { first = line; partings = partings }) lines else None)
        (if begins then option_map (λ partings. record { first = other; partings = partings }) others else None)
    opened_alike true None None later = tt
    opened_alike true (Some lines) (Some others) later = record { first = same; partings = later }
    opened_alike true _ _ later = absurd later
    opened_alike false lines others later = tt

  -- each block around them has alike partings
  partings_alike : (inner : ℕ) (lines others : List BlockLine) → Pairs (AlikeLines S) lines others
      → Both (Pairs (AlikeLines S)) (partings_of inner lines) (partings_of inner others)
  partings_alike inner [] [] alike = tt
  partings_alike inner (line ∷ lines) (other ∷ others) alike =
      subst (λ (p : Part). Both (Pairs (AlikeLines S)) (partings_of inner (line ∷ lines))
      (if opens p then partings_of (inner + 1) others else if closes p then (if inner == 0 then None else partings_of (inner - 1) others)
      else if inner == 0 then option_map (λ lines. other ∷ lines) (partings_of 0 others) else partings_of inner others))
      alike.0.part (parted_alike line other alike.0 line.part (inner == 0) inner (λ deeper. partings_of deeper lines) (λ deeper. partings_of deeper others)
      (λ deeper. partings_alike deeper lines others alike.1))
  partings_alike inner _ _ alike = absurd alike

  -- alike blocks are open after them
  pub open_alike : (lines others : List BlockLine) → Pairs (AlikeLines S) lines others → Pairs (AlikeBlocks S) (open_blocks lines) (open_blocks others)
  open_alike [] [] alike = tt
  open_alike (line ∷ lines) (other ∷ others) alike =
      pairs_cons (AlikeBlocks S) (opened_by line lines) (opened_by other others) (open_blocks lines) (open_blocks others)
      (subst (λ (p : Part). Both (AlikeBlocks S) (opened_by line lines)
      (if opens p then option_map (λ partings. record { first = other; partings = partings }) (partings_of 0 others) else None))
      alike.0.part (opened_alike line other alike.0 (opens line.part) (partings_of 0 lines) (partings_of 0 others) (partings_alike 0 lines others alike.1)))
      (open_alike lines others alike.1)
  open_alike _ _ alike = absurd alike

  -- and they are closed alike
  pub are_closed_alike : (inner : ℕ) (lines others : List BlockLine) → Pairs (AlikeLines S) lines others → are_closed inner lines ≡ are_closed inner others
  are_closed_alike inner [] [] alike = refl
  are_closed_alike inner (line ∷ lines) (other ∷ others) alike =
      rw (
        alike.0.part,
        are_closed_alike (inner + 1) lines others alike.1,
        are_closed_alike (if closes other.part then inner - 1 else inner) lines others alike.1,
      ) refl
  are_closed_alike inner _ _ alike = absurd alike

  -- among the marks is an `#else` alike
  else_alike : (marks others : List BlockLine) → Pairs (AlikeLines S) marks others
      → list_any (λ mark. is_else mark.part) marks ≡ list_any (λ mark. is_else mark.part) others
  else_alike [] [] alike = refl
  else_alike (mark ∷ marks) (other ∷ others) alike = rw (alike.0.part, else_alike marks others alike.1) refl
  else_alike _ _ alike = absurd alike

  -- where each condition was read alike
  module _ (truths known : Truths) (read : (position other : ℕ) → S position other → truth_at truths position ≡ truth_at known other) where
    -- the last of some marks is chosen alike
    chosen_alike : (mark other : BlockLine) (marks others : List BlockLine) → AlikeLines S mark other → Pairs (AlikeLines S) marks others
        → is_last_chosen truths mark marks ≡ is_last_chosen known other others
    chosen_alike mark other [] [] same alike = rw (same.part, read mark.position other.position same.stands) refl
    chosen_alike mark other (next ∷ marks) (after ∷ others) same alike =
        rw (same.part, read mark.position other.position same.stands, chosen_alike next after marks others alike.0 alike.1) refl
    chosen_alike mark other _ _ same alike = absurd alike

    -- the same branches are live
    pub live_alike : (blocks others : List Block) → Pairs (AlikeBlocks S) blocks others
        → list_all (λ block. is_last_chosen truths block.first block.partings) blocks
        ≡ list_all (λ block. is_last_chosen known block.first block.partings) others
    live_alike [] [] alike = refl
    live_alike (block ∷ blocks) (other ∷ others) alike =
        rw (
          chosen_alike block.first other.first block.partings other.partings alike.0.first alike.0.partings,
          live_alike blocks others alike.1,
        ) refl
    live_alike _ _ alike = absurd alike

    -- a condition of some marks holds alike
    taken_alike : (marks others : List BlockLine) → Pairs (AlikeLines S) marks others
        → list_any (λ mark. unwrap_or (truth_at truths mark.position) false) marks ≡ list_any (λ mark. unwrap_or (truth_at known mark.position) false) others
    taken_alike [] [] alike = refl
    taken_alike (mark ∷ marks) (other ∷ others) alike =
        rw (read mark.position other.position alike.0.stands, taken_alike marks others alike.1) refl
    taken_alike _ _ alike = absurd alike

-- the facts of a block on which a line that parts or closes it depends
abbrev pub facts_by : List Seen → Truths → Block → BlockFacts
facts_by items truths block = record {
  are_surroundings_live = are_surroundings_live items truths block;
  has_taken_branch = has_taken_branch truths block;
  has_else = has_else block;
}

-- Those of the innermost block that is open at a position: what `facts_here` is for a reader of these items there.
abbrev pub FactsAt : List Seen → Truths → ℕ → Option BlockFacts
FactsAt items truths position = option_map (facts_by items truths) (innermost (blocks_at items position))

-- the same facts of alike blocks, if their first lines are in live text alike
pub facts_alike : (S : ℕ → ℕ → Type 0) (items among : List Seen) (truths known : Truths)
    → ((position other : ℕ) → S position other → truth_at truths position ≡ truth_at known other)
    → ((position other : ℕ) → S position other → is_live items truths position ≡ is_live among known other)
    → (block other : Option Block) → Both (AlikeBlocks S) block other
    → option_map (facts_by items truths) block ≡ option_map (facts_by among known) other
facts_alike S items among truths known read live None None alike = refl
facts_alike S items among truths known read live (Some block) (Some other) alike =
    rw (
      live block.first.position other.first.position alike.first.stands,
      taken_alike S truths known read (block.first ∷ block.partings) (other.first ∷ other.partings) (alike.first, alike.partings),
      else_alike S block.partings other.partings alike.partings,
    ) refl
facts_alike S items among truths known read live _ _ alike = absurd alike

-- the same word of their first lines
pub word_alike : (S : ℕ → ℕ → Type 0) (block other : Option Block) → Both (AlikeBlocks S) block other
    → option_map (λ b. b.first.word) block ≡ option_map (λ b. b.first.word) other
word_alike S None None alike = refl
word_alike S (Some block) (Some other) alike = rw alike.first.word refl
word_alike S _ _ alike = absurd alike
