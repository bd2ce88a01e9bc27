-- How much work tokens make at most: a number that falls with each step of an expander, so that it ends.
--
-- A region is the steps that are left in an open frame, or in the reader; the innermost comes first, the reader last. A
-- step takes one from the innermost region, and may open a frame, a region more in front. Names that are open over each
-- other differ: if `names` may be open together, then over a region with k others around it names - k more may open.
-- With c all that is at hand, the sum of the regions, a frame that opens has at most `frame c` steps.
--
-- `growth frame n c` is what is at hand after one token over which n names may open. It is c + 1 if n is 0. Otherwise
-- the token may open a frame, each step of which is a token over which n - 1 names may open: the result is one more
-- than what `growth frame (n - 1)`, applied `frame c` times, makes of c + frame c. `through` applies `growth` once for
-- each step of each region, and `work_in`, the number that falls, is what it makes of the sum. A step that opens
-- nothing leaves out one `growth`, and that always adds. A step that opens a frame puts at most `frame c` of them, each
-- with a name less, in place of one, and is less by what `growth` is (`OpenedFalls`). How long a frame is,
-- `frame_steps` says: each token of its body may be a parameter, whose argument, alone and a level deeper, gives at
-- most `most_tokens` tokens.
--
-- The lemmas (proofs/work) call a function steep if it keeps m < n, level if it keeps m ≤ n, and up if it gives no less
-- than it is given; it is under another if it is nowhere more.
use Rattle.std.specs.Prelude.{ℕ, zero, suc, ◌+◌, ◌*◌, ◌-◌, ◌≤◌, ◌<◌, List, [], ◌∷◌, length}
use Rattle.std.specs.Fn.{iterate}

-- How much is at hand at most after one more token of a region over which `names` names may open, if `c` was at hand.
-- The token may open a frame, which has at most `frame c` steps.
abbrev pub growth : (ℕ → ℕ) → ℕ → ℕ → ℕ
growth frame zero c = suc c
growth frame (suc names) c = suc (iterate (growth frame names) (frame c) (c + frame c))

-- the same after all regions, the innermost first; over the last of them `names` names may open
abbrev pub through : (ℕ → ℕ) → ℕ → List ℕ → ℕ → ℕ
through frame names [] c = c
through frame names (s ∷ regions) c = through frame names regions (iterate (growth frame (names - length regions)) s c)

abbrev pub total : List ℕ → ℕ
total [] = 0
total (s ∷ regions) = s + total regions

-- how much is left to do in these regions
abbrev pub work_in : (ℕ → ℕ) → ℕ → List ℕ → ℕ
work_in frame names regions = through frame names regions (total regions)

-- how many tokens at most are made of `c` tokens that are expanded alone, if `frame` bounds the steps of a frame
abbrev pub most_tokens : (ℕ → ℕ) → ℕ → ℕ → ℕ
most_tokens frame names c = iterate (growth frame names) c c

-- how many steps a frame has at most that opens with `c` at hand: all bodies have `bodies` tokens together, and
-- arguments may be read inside each other `levels` levels deeper
abbrev pub frame_steps : ℕ → ℕ → ℕ → ℕ → ℕ
frame_steps bodies names zero c = bodies * 2 + 1
frame_steps bodies names (suc levels) c = bodies * (most_tokens (frame_steps bodies names levels) names c + 2) + 1

-- a step that gives a token leaves room for a frame that opens
pub record HasRoom (frame : ℕ → ℕ) (names c bound : ℕ) (s : ℕ) (regions : List ℕ) : Type 0 where
  pub least : s + total regions ≤ c
  pub number : through frame names (suc s ∷ regions) c ≤ bound

abbrev pub OpenedFalls : Type 0
OpenedFalls =
    (bodies names levels bodies_then names_then c bound g s : ℕ) (regions : List ℕ)
    → bodies_then ≤ bodies
    → names_then ≤ names
    → HasRoom (frame_steps bodies names levels) names c bound s regions
    → g ≤ frame_steps bodies names levels c
    → length (s ∷ regions) ≤ names
    → work_in (frame_steps bodies_then names_then levels) names_then (g ∷ s ∷ regions) < bound
