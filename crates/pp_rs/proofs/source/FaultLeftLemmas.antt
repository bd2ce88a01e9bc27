-- After each fault of the items of a text: by what is in front, what stays of it as it is kept stands for what stays of
-- it in the definitions.
use Rattle.std.proofs.Common.{◌≡◌, ◌≢◌, ◌∙◌, ℕ, Bool, true, false, List, [], ◌∷◌, ◌++◌, take, drop, refl, sym, ap, subst, Option, Some, None}
use Rattle.std.specs.Prelude.{codes, option_map}
use Rattle.std.specs.List.{list_all}
use Rattle.std.specs.Option.{option_map_or}
use Rattle.std.proofs.Math.Seq.{drop-nil}
use Rattle.pp_lexer.specs.Lexed.{Seen}
use Rattle.pp_lexer.specs.declared.token.Location.{Location}
use Rattle.pp_model.specs.Blocks.{part_of, blocks_at}
use Rattle.pp_model.specs.inner.Blocks.{is_branch_live}
use Rattle.pp_model.specs.Faults.{word_line, left_line, truths_left}
use Rattle.pp_model.specs.IncludeLaws.{are_whole_lines}
use Rattle.pp_model.specs.Moves.{BlockFacts}
use Rattle.pp_model.specs.SourceReader.{Suspended, SourceReader, suspended_of}
use Rattle.pp_model.specs.declared.directive.Directive.{Directive}
use Rattle.pp_model.specs.declared.directive.Directive.TheVariants as d
use Rattle.pp_model.specs.declared.sight.Sight.{Sight}
use Rattle.pp_model.specs.declared.sight.Sight.TheVariants as sight
use Rattle.pp_macros.specs.inner.Faults.{left_at}
use Rattle.pp_macros.specs.inner.OpenBlocks.{last_block, outer_blocks, block_unread, block_skipped, elif_change, kept_facts, facts_among, is_live_in, is_live_among}
use Rattle.pp_macros.specs.inner.Source.{SuspendedText}
use Rattle.pp_macros.specs.declared.blocks.OpenBlock.{OpenBlock}
use Rattle.pp_rs.specs.inner.StandsPast.{dead_count}
use Rattle.pp_rs.specs.inner.Stands.{StandsForText}
use Rattle.pp_rs.proofs.blocks.BlockStackLemmas.{mapped_some}
use Rattle.pp_rs.proofs.blocks.NotedLemmas.{open_noted}
use Rattle.pp_rs.proofs.blocks.PastLemmas.{live_past, last_past}
use Rattle.pp_rs.proofs.blocks.TruthLemmas.{with_truth}
use Rattle.pp_rs.proofs.source.JoinLemmas.{Follow}
use Rattle.pp_rs.proofs.source.FaultTextLemmas.{word_elif, word_endif, word_if, word_pragma, text_left, kept_left, cut_left, plain_left, closing_left, opening_left, failed_left, dead_left}

-- what is in front of a text with a fault: where it is a directive, a line begins there
abbrev pub BeginsLine : Sight → List Seen → Type 0
BeginsLine (sight.Directive directive word) front = are_whole_lines front ≡ true
BeginsLine _ front = Unit {0}

-- where some come last, there are some
no_end : {X : Type 0} (before : List X) (x : X) → before ++ x ∷ [] ≡ [] → ⊥
no_end [] x e = cc
no_end (first ∷ before) x e = cc

not_none : {X : Type 0} (n : ℕ) (before : List X) (x : X) (xs : List X) → drop n xs ≡ before ++ x ∷ [] → xs ≢ []
not_none n before x xs e none = no_end before x (sym e ∙ ap (drop n) none ∙ drop-nil n)

-- outside of all blocks text is dead only if the rest is dead for good
dead_outside : (dead : Bool) (blocks : List OpenBlock) → last_block blocks ≡ None → is_live_among dead blocks ≡ false → dead ≡ true
dead_outside true blocks none is = refl
dead_outside false blocks none is = let bad : true ≡ false = sym (ap is_live_in none) ∙ is in cc

-- the innermost of the kept blocks changes
with_last_skipped : (blocks : List OpenBlock) (last : OpenBlock) → last_block blocks ≡ Some last
    → elif_change None blocks ≡ outer_blocks blocks ++ block_skipped last ∷ []
with_last_skipped blocks last found =
    ap (λ (block : Option OpenBlock). outer_blocks blocks ++ option_map_or (λ inner. block_skipped inner ∷ []) block []) found

module _ {kept : SuspendedText} (r : SourceReader) (s : StandsForText kept (suspended_of r)) (count : ℕ) (some : kept.rest ≢ [])
    (follow : Follow (take r.position r.items) (drop count (drop r.position r.items))) where
  -- a directive was read where a block is open,
  noted_block : blocks_at r.items r.position ≢ [] → kept.has_directive ≡ true
  noted_block there = s.remembers_directive ∙ open_noted r.items r.position there

  noted_last : (last : OpenBlock) → last_block kept.blocks ≡ Some last → kept.has_directive ≡ true
  noted_last last found =
      let i = last_past r.items r.truths (dead_count kept.dead_for_good) kept.blocks (blocks_at r.items r.position) s.blocks last found in
      noted_block (not_none (dead_count kept.dead_for_good) i.before i.block (blocks_at r.items r.position) i.split)

  -- and so it was in dead text
  noted_dead : is_live_among kept.dead_for_good kept.blocks ≡ false → kept.has_directive ≡ true
  noted_dead dead = noted_block (λ none.
      let bad : true ≡ false = sym (ap (list_all (is_branch_live r.truths)) none)
      ∙ live_past r.items r.truths r.position kept.dead_for_good kept.blocks s.blocks ∙ dead in
      cc)

  kept_as : {there : Suspended} (blocks others : List OpenBlock) → others ≡ blocks → kept.has_directive ≡ true
      → StandsForText (record kept { rest = drop count kept.rest; blocks = blocks; has_directive = true }) there
      → StandsForText (record kept { rest = drop count kept.rest; blocks = others }) there
  kept_as {there} blocks others same noted stands =
      subst (λ (found : List OpenBlock). StandsForText (record kept { rest = drop count kept.rest; blocks = found }) there) (sym same)
      (subst (λ (directive : Bool). StandsForText (record kept { rest = drop count kept.rest; blocks = blocks; has_directive = directive }) there)
      (sym noted) stands)

  -- what stays after a fault, by what is in front
  abbrev Leaves : Bool → Option BlockFacts → Sight → Type 0
  Leaves live facts shown =
      StandsForText (kept_left count (left_at r.rules live facts shown (drop 2 kept.rest)) kept)
      (text_left (left_line live facts shown) count (truths_left facts shown r) (suspended_of r))

  cut : StandsForText (record kept { rest = drop count kept.rest }) (text_left [] count r.truths (suspended_of r))
  cut = cut_left s count some follow

  -- an `#elif` outside of all blocks in text that is dead for good
  dead_elif : is_live_among kept.dead_for_good kept.blocks ≡ false → last_block kept.blocks ≡ None
      → StandsForText (record kept { rest = drop count kept.rest; has_directive = true; dead_for_good = true })
      (text_left [] count r.truths (suspended_of r))
  dead_elif dead none =
      subst (λ (directive : Bool). StandsForText (record kept { rest = drop count kept.rest; has_directive = directive; dead_for_good = true })
      (text_left [] count r.truths (suspended_of r))) (noted_dead dead)
      (subst (λ (gone : Bool). StandsForText (record kept { rest = drop count kept.rest; dead_for_good = gone })
      (text_left [] count r.truths (suspended_of r))) (dead_outside kept.dead_for_good kept.blocks none dead) cut)

  no_last : facts_among kept.blocks ≡ None → last_block kept.blocks ≡ None
  no_last is = go (last_block kept.blocks) is
    where
      go : (last : Option OpenBlock) → option_map kept_facts last ≡ None → last ≡ None
      go None e = refl
      go (Some block) e = cc

  module _ (place : Location) (whole : are_whole_lines (take r.position r.items) ≡ true) where
    elif_leaves : (block : BlockFacts) → facts_among kept.blocks ≡ Some block
        → StandsForText (record kept { rest = drop count kept.rest; blocks = elif_change None kept.blocks })
        (text_left (word_line place (codes "elif")) count (with_truth r.position false r.truths) (suspended_of r))
    elif_leaves block is =
        let (last, found, facts) = mapped_some kept_facts (last_block kept.blocks) block is in
        kept_as (outer_blocks kept.blocks ++ block_skipped last ∷ []) (elif_change None kept.blocks) (with_last_skipped kept.blocks last found)
        (noted_last last found) (failed_left s count some place (codes "elif") whole (ap part_of word_elif) last found)

    endif_leaves : (block : BlockFacts) → facts_among kept.blocks ≡ Some block
        → StandsForText (record kept { rest = drop count kept.rest; blocks = outer_blocks kept.blocks })
        (text_left (word_line place (codes "endif")) count r.truths (suspended_of r))
    endif_leaves block is =
        let (last, found, facts) = mapped_some kept_facts (last_block kept.blocks) block is in
        kept_as (outer_blocks kept.blocks) (outer_blocks kept.blocks) refl (noted_last last found)
        (closing_left s count some place (codes "endif") whole (ap part_of word_endif) last found)

    if_leaves : is_live_among kept.dead_for_good kept.blocks ≡ false
        → StandsForText (record kept { rest = drop count kept.rest; blocks = kept.blocks ++ block_unread place ∷ [] })
        (text_left (word_line place (codes "if")) count r.truths (suspended_of r))
    if_leaves dead =
        kept_as (kept.blocks ++ block_unread place ∷ []) (kept.blocks ++ block_unread place ∷ []) refl (noted_dead dead)
        (opening_left s count some place (codes "if") whole (ap part_of word_if) dead)

    item_leaves : StandsForText (record kept { rest = drop count kept.rest; has_directive = true })
        (text_left (word_line place (codes "pragma")) count r.truths (suspended_of r))
    item_leaves = plain_left s count some place (codes "pragma") whole (ap part_of word_pragma)

    directive_leaves : (live : Bool) → is_live_among kept.dead_for_good kept.blocks ≡ live → (facts : Option BlockFacts) → facts_among kept.blocks ≡ facts
        → (directive : Directive) → Leaves live facts (sight.Directive directive place)
    directive_leaves true alive None is d.Elif = dead_left s count some place (codes "if") whole (ap part_of word_if) alive (no_last is)
    directive_leaves false alive None is d.Elif = dead_elif alive (no_last is)
    directive_leaves true alive (Some block) is d.Elif = elif_leaves block is
    directive_leaves false alive (Some block) is d.Elif = elif_leaves block is
    directive_leaves true alive None is d.Endif = cut
    directive_leaves false alive None is d.Endif = cut
    directive_leaves true alive (Some block) is d.Endif = endif_leaves block is
    directive_leaves false alive (Some block) is d.Endif = endif_leaves block is
    directive_leaves true alive None is d.Version = item_leaves
    directive_leaves true alive (Some block) is d.Version = item_leaves
    directive_leaves true alive None is d.Extension = item_leaves
    directive_leaves true alive (Some block) is d.Extension = item_leaves
    directive_leaves true alive None is d.Pragma = item_leaves
    directive_leaves true alive (Some block) is d.Pragma = item_leaves
    directive_leaves false alive None is d.If = if_leaves alive
    directive_leaves false alive (Some block) is d.If = if_leaves alive
    directive_leaves false alive None is d.Ifdef = if_leaves alive
    directive_leaves false alive (Some block) is d.Ifdef = if_leaves alive
    directive_leaves false alive None is d.Ifndef = if_leaves alive
    directive_leaves false alive (Some block) is d.Ifndef = if_leaves alive
    directive_leaves true alive None is _ = cut
    directive_leaves true alive (Some block) is _ = cut
    directive_leaves false alive None is _ = cut
    directive_leaves false alive (Some block) is _ = cut

  -- After a fault of what is in front the text stands as it is kept.
  pub sight_leaves : (live : Bool) → is_live_among kept.dead_for_good kept.blocks ≡ live → (facts : Option BlockFacts) → facts_among kept.blocks ≡ facts
      → (shown : Sight) → BeginsLine shown (take r.position r.items) → Leaves live facts shown
  sight_leaves live alive facts is (sight.Directive directive place) whole = directive_leaves place whole live alive facts is directive
  sight_leaves true alive None is _ whole = cut
  sight_leaves true alive (Some block) is _ whole = cut
  sight_leaves false alive None is _ whole = cut
  sight_leaves false alive (Some block) is _ whole = cut
