-- Steps after which reading goes on.
use Rattle.std.proofs.Common.{◌≡◌, ◌≢◌, true, false, ap, Err}
use Rattle.pp_macros.specs.Item.{PlacedStep, no_memory}
use Rattle.pp_macros.specs.inner.Work.{goes_on}
use Rattle.pp_macros.specs.declared.step.PlacedExit.TheVariants.{Error, Finished}

-- a step after which reading goes on is not the end
pub goes_on_not_end : {T : Type 0} (step : PlacedStep T) → goes_on step ≡ true → step ≢ Err Finished
goes_on_not_end step on end = let bad : goes_on step ≡ false = ap goes_on end in absurd (cc)

-- nor a refusal of memory
pub goes_on_not_want : {T : Type 0} (step : PlacedStep T) → goes_on step ≡ true → step ≢ Err (Error no_memory)
goes_on_not_want step on want = let bad : goes_on step ≡ false = ap goes_on want in absurd (cc)
