-- What is taken of a list, if it begins with a certain item.
use Rattle.std.specs.Prelude.{◌≡◌, ◌≢◌, Bool, List, ◌∷◌, MatchBool}

-- The first item is this one, and it was taken. Or the list doesn't begin with it.
abbrev pub IsTaken : {A : Type 0} → Bool → A → List A → List A → Type 0
IsTaken {A} is first old new = MatchBool is (old ≡ first ∷ new) ((rest : List A) → old ≢ first ∷ rest)
