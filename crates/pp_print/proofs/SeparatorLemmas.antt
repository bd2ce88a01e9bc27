-- A text with or without a separator
use Rattle.std.proofs.Common.{◌≡◌, ℕ, ◌<◌, List, ◌++◌, ◌∷◌, length, get_or, Contains, Bor, Option, None, Some, IsSome, MatchOption, IfSome, ◌↔◌, arith, rules}
use Rattle.std.proofs.lemmas.Grind.{common_steps}
use Rattle.pp_print.specs.Words.{IsCutAtFirst}

-- a list holds no element that differs from each of its elements
lacks : (c : ℕ) (xs : List ℕ) → ((i : ℕ) → i < length xs → get_or xs i 0 ≡ c → ⊥) → Contains xs c → ⊥
lacks c xs differs (k, within, is) = differs k within (grind (arith, common_steps))

-- a list holds the element between two parts of it
holds : (c : ℕ) (xs ys zs : List ℕ) → xs ≡ ys ++ (c ∷ zs) → Contains xs c
holds c xs ys zs e = (length ys, grind (arith, common_steps), grind (arith, common_steps))

-- what std says of the two parts round the first separator
abbrev pub IsSplit : ℕ → List ℕ → Option (Bor (List ℕ) × Bor (List ℕ)) → Type 0
IsSplit c word r = MatchOption r ((i : ℕ) → i < length word → get_or word i 0 ≡ c → ⊥)
    (λ x. (word ≡ x.0.now ++ (c ∷ x.1.now)) × ((i : ℕ) → i < length x.0.now → get_or x.0.now i 0 ≡ c → ⊥))

-- there are parts exactly where the separator is
pub found : (c : ℕ) (word : List ℕ) (r : Option (Bor (List ℕ) × Bor (List ℕ))) → IsSplit c word r → IsSome r ↔ Contains word c
found c word None differs = (λ h. search rules, λ h. absurd (lacks c word differs h))
found c word (Some x) (whole, differs) = (λ _. holds c word x.0.now x.1.now whole, λ _. search rules)

-- the parts are those round the first separator
pub cut : (c : ℕ) (word : List ℕ) (r : Option (Bor (List ℕ) × Bor (List ℕ))) → IsSplit c word r
    → IfSome r (λ parts. IsCutAtFirst c word parts.0.now parts.1.now)
cut c word None differs = tt
cut c word (Some x) (whole, differs) = record { whole = whole; first = lacks c x.0.now differs }
