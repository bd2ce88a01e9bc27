-- A text that stands in another one: what was read of the conditions of both.
use Rattle.std.proofs.Common.{◌≡◌, ℕ, ◌+◌, ◌≤◌, ◌<◌, true, List, take, length}
use Rattle.pp_lexer.specs.Lexed.{Seen}
use Rattle.pp_model.specs.Blocks.{Truths, truth_at, block_lines}
use Rattle.pp_model.specs.IncludeLaws.{are_closed, are_whole_lines}

-- `n` items stand in a text behind its first `q`: `whole` has of them the truths `inner`, and of the others `outer`
pub record Agree (q n : ℕ) (outer inner whole : Truths) : Type 0 where
  pub front : (p : ℕ) → p < q → truth_at whole p ≡ truth_at outer p
  pub within : (i : ℕ) → i < n → truth_at whole (q + i) ≡ truth_at inner i
  pub behind : (j : ℕ) → truth_at whole (q + (n + j)) ≡ truth_at outer (q + j)

-- the text X may stand in M behind its first q items
pub record Fits (M X : List Seen) (q : ℕ) : Type 0 where
  pub within : q ≤ length M
  pub front_lines : are_whole_lines (take q M) ≡ true
  pub whole_lines : are_whole_lines X ≡ true
  pub closed : are_closed 0 (block_lines 0 X) ≡ true
