-- Sets of spellings, built from left to right: what the first characters may be, and the set of what may follow them.
use Rattle.std.specs.Prelude.{ℕ, Bool, true, false, ◌&&◌, ◌||◌, List, [], ◌∷◌, Option, Some, None}

-- the empty spelling alone
abbrev pub nothing : List ℕ → Bool
nothing [] = true
nothing (c ∷ cs) = false

-- one character that passes, and what follows
abbrev pub one : (ℕ → Bool) → (List ℕ → Bool) → List ℕ → Bool
one p tail [] = false
one p tail (c ∷ cs) = p c && tail cs

-- any number of characters that pass, and what follows
abbrev pub many : (ℕ → Bool) → (List ℕ → Bool) → List ℕ → Bool
many p tail [] = tail []
many p tail (c ∷ cs) = tail (c ∷ cs) || (p c && many p tail cs)

-- one character that passes or none, and what follows
abbrev pub maybe : (ℕ → Bool) → (List ℕ → Bool) → List ℕ → Bool
maybe p tail cs = tail cs || one p tail cs

-- a spelling of the set, or nothing
abbrev pub optional : (List ℕ → Bool) → List ℕ → Bool
optional P cs = nothing cs || P cs

-- the characters after the first one
abbrev pub after_first : List ℕ → List ℕ
after_first [] = []
after_first (c ∷ cs) = cs

abbrev pub next_of : List ℕ → Option ℕ
next_of [] = None
next_of (c ∷ cs) = Some c
