use Rattle.std.proofs.Common.{◌≡◌, ℕ, ◌+◌, ◌-◌, length}
use Rattle.std.specs.Prelude.{slice_index_or}
use Rattle.pp_macros.proofs.macro_processor.grow.Given as goal

-- the counts stay
abbrev pub invariant-places : goal.invariant-places
invariant-places l = (k : ℕ) → slice_index_or l.counts.items k 0 ≡ slice_index_or l.fn.counts.items k 0

abbrev pub decreases-places : goal.decreases-places
decreases-places l = l.number + 1 - length l.counts.items
