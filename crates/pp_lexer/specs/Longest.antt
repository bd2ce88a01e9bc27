-- The longest front of a text that is in a set of spellings.
use Rattle.std.specs.Prelude.{ℕ, zero, suc, Bool, if◌then◌else◌, List, [], ◌∷◌, length, take}

-- the length of the longest front in the set that has at most this many characters, or 0
abbrev pub longest_within : (List ℕ → Bool) → List ℕ → ℕ → ℕ
longest_within P cs zero = 0
longest_within P cs (suc n) = if P (take (suc n) cs) then suc n else longest_within P cs n

-- the length of the longest front in the set, or 0
unfoldable pub longest : (List ℕ → Bool) → List ℕ → ℕ
longest P cs = longest_within P cs (length cs)

-- the number of characters at the front that pass, up to the first one that doesn't
abbrev pub front_len : (ℕ → Bool) → List ℕ → ℕ
front_len p [] = 0
front_len p (c ∷ cs) = if p c then suc (front_len p cs) else 0
