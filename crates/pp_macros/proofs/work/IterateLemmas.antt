-- Functions that are applied many times: how the results compare.
use Rattle.std.proofs.Common.{◌≡◌, ◌⊎◌, inl, inr, ℕ, zero, suc, ◌<◌, ◌≤◌, arith, le_trans, ap}
use Rattle.std.specs.Fn.{iterate}
use Rattle.std.proofs.Math.Nat.{eq-or-lt_of_le}

-- what is larger stays larger
abbrev pub IsSteep : (ℕ → ℕ) → Type 0
IsSteep f = (m n : ℕ) → m < n → f m < f n

-- nothing becomes less
abbrev pub IsUp : (ℕ → ℕ) → Type 0
IsUp f = (m : ℕ) → m ≤ f m

-- what is at least as large stays so
abbrev pub IsLevel : (ℕ → ℕ) → Type 0
IsLevel f = (m n : ℕ) → m ≤ n → f m ≤ f n

-- it gives no more than the other
abbrev pub IsUnder : (ℕ → ℕ) → (ℕ → ℕ) → Type 0
IsUnder f g = (m : ℕ) → f m ≤ g m

pub steep_is_level : (f : ℕ → ℕ) → IsSteep f → IsLevel f
steep_is_level f steep m n low = go (eq-or-lt_of_le low)
  where
    go : (m ≡ n) ⊎ (m < n) → f m ≤ f n
    go (inl same) = let e : f m ≡ f n = ap f same in omega arith
    go (inr less) = let h = steep m n less in omega arith

pub iterate_steep : (f : ℕ → ℕ) (k : ℕ) → IsSteep f → IsSteep (iterate f k)
iterate_steep f zero steep m n less = less
iterate_steep f (suc k) steep m n less = iterate_steep f k steep (f m) (f n) (steep m n less)

pub iterate_level : (f : ℕ → ℕ) (k : ℕ) → IsLevel f → IsLevel (iterate f k)
iterate_level f zero level m n less = less
iterate_level f (suc k) level m n less = iterate_level f k level (f m) (f n) (level m n less)

pub iterate_up : (f : ℕ → ℕ) (k : ℕ) → IsUp f → IsUp (iterate f k)
iterate_up f zero up m = omega arith
iterate_up f (suc k) up m = le_trans (up m) (iterate_up f k up (f m))

-- more often is no less
pub iterate_more : (f : ℕ → ℕ) (j k m : ℕ) → IsUp f → j ≤ k → iterate f j m ≤ iterate f k m
iterate_more f zero k m up low = iterate_up f k up m
iterate_more f (suc j) zero m up low = absurd (omega arith)
iterate_more f (suc j) (suc k) m up low = iterate_more f j k (f m) up (omega arith)

pub iterate_wider : (f g : ℕ → ℕ) (k m : ℕ) → IsLevel f → IsUnder f g → iterate f k m ≤ iterate g k m
iterate_wider f g zero m level under = omega arith
iterate_wider f g (suc k) m level under = le_trans (iterate_level f k level (f m) (g m) (under m)) (iterate_wider f g k (g m) level under)

-- all at once
pub iterate_least : (f g : ℕ → ℕ) (j k m n : ℕ) → IsLevel f → IsUp g → IsUnder f g → j ≤ k → m ≤ n → iterate f j m ≤ iterate g k n
iterate_least f g j k m n level up under low least =
    le_trans (iterate_level f j level m n least) (le_trans (iterate_wider f g j n level under) (iterate_more g j k n up low))
