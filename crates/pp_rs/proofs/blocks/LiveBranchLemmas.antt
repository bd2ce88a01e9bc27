-- In each state of a run of a text at most one mark of each block is chosen, and exactly one if the block's `#endif`
-- was read, the block has an `#else`, and it begins in live text.
use Rattle.std.proofs.Common.{◌∙◌, ℕ, zero, suc, ◌≤◌, ◌||◌, List, [], ◌∷◌, ap, subst, arith}
use Rattle.std.specs.List.{AllByRecursion as Each}
use Rattle.std.proofs.Math.Bool.{or-true}
use Rattle.pp_lexer.specs.Spots.{spots_of}
use Rattle.pp_lexer.specs.declared.rules.Rules.{Rules}
use Rattle.pp_lexer.specs.Lexed.{Seen}
use Rattle.pp_model.specs.Blocks.{Truths, Block, blocks_at, has_taken_branch}
use Rattle.pp_model.specs.Calls.{Answers}
use Rattle.pp_model.specs.Run.{items_by}
use Rattle.pp_model.specs.SourceReader.{SourceReader}
use Rattle.pp_model.proofs.source.BlockLemmas.{one_branch}
use Rattle.pp_rs.specs.LiveBranch.{AtMostOneIsChosen, HasLiveBranches, RunHasLiveBranches}
use Rattle.pp_rs.proofs.blocks.BlockPositionLemmas.{each_weaker, each_after}
use Rattle.pp_rs.proofs.blocks.BranchActsLemmas.{HasReadAll, step_keeps_branches}
use Rattle.pp_rs.proofs.blocks.BranchedLemmas.{IsBranched}
use Rattle.pp_rs.proofs.blocks.BranchesReadLemmas.{BranchesRead}
use Rattle.pp_rs.proofs.blocks.KnownAfterLemmas.{HasRead}
use Rattle.pp_rs.proofs.blocks.LastLemmas.{last_split}
use Rattle.pp_directives.proofs.EndedLemmas.{start_ended}
use Rattle.pp_directives.proofs.LinedLemmas.{items_lined}
use Rattle.pp_rs.proofs.blocks.LinesBeforeLemmas.{no_lines_before}
use Rattle.pp_rs.proofs.source.ReaderInvariantLemmas.{IsKept, reached_keeps}

at_most_one : (source : List Seen) (truths : Truths) (block : Block) → IsBranched source truths block → AtMostOneIsChosen truths block
at_most_one source truths block b mark other one two = one_branch truths block mark other b.else_last one.stands two.stands one.chosen two.chosen

-- what is known at a reader says it
live_branches : (r : SourceReader) → HasRead r → HasLiveBranches r
live_branches r known = record {
  at_most_one = λ position within. each_weaker (IsBranched r.items r.truths) (AtMostOneIsChosen r.truths) (at_most_one r.items r.truths)
      (blocks_at r.items position) (known.read position within);
  one = λ position block after ends with_else live.
      let all = subst (λ (blocks : List Block). Each (IsBranched r.items r.truths) blocks)
      (last_split (blocks_at r.items position) block ends.open_there) (known.read position (omega (arith, after))) in
      let this : IsBranched r.items r.truths block = (each_after (IsBranched r.items r.truths) _ (block ∷ []) all).0 in (
        this.covered live (ap (λ other. has_taken_branch r.truths block || other) with_else ∙ or-true (has_taken_branch r.truths block)),
        at_most_one r.items r.truths block this,
      );
}

-- at the start of a text no block was met
known_at_start : (rules : Rules) (text : List ℕ) → BranchesRead (items_by rules text) 0 []
known_at_start rules text = record {
  lined = items_lined rules text;
  ended = start_ended rules (spots_of text);
  lines = no_lines_before (items_by rules text);
  before = tt;
  read = none_open;
}
  where
    none_open : (place : ℕ) → place ≤ 0 → Each (IsBranched (items_by rules text) []) (blocks_at (items_by rules text) place)
    none_open zero within = tt
    none_open (suc place) within = absurd (omega (arith, within))

-- it is kept by each step, by a definition and by a text that is included
branches_kept : (A : Answers) → IsKept A HasReadAll
branches_kept A = record {
  by_step = step_keeps_branches A;
  by_definition = λ name tokens r known. known;
  by_text = λ text rules r known. (known_at_start rules text, (known.0, known.1));
}

module _ (A : Answers) where
  -- in each state of a run of a text
  pub run_has_live_branches : RunHasLiveBranches A
  run_has_live_branches rules text e reached =
      live_branches e.reader (reached_keeps A HasReadAll (branches_kept A) rules (items_by rules text) e reached (known_at_start rules text, tt)).0
