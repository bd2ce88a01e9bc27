-- Names that differ, and the position at which each is found.
use Rattle.std.proofs.Common.{◌≡◌, ◌∙◌, ℕ, zero, suc, ◌<◌, Bool, true, false, ◌||◌, List, [], ◌∷◌, map, length, get_or, set, Some, None, refl, sym, ap, arith}
use Rattle.std.specs.Prelude.{is_some, position}
use Rattle.std.specs.Cmp.Lexicographic.{same_text, other_text}
use Rattle.std.proofs.lemmas.List.Quantifiers.{position-Some}
use Rattle.pp_model.specs.Names.{Name, is_same_name, is_in}
use Rattle.pp_macros.proofs.defined_names.NameKeysLemmas.{names_same}
use Rattle.pp_macros.proofs.defined_names.ParameterNamesLemmas.{is_some-position}

-- two names differ in either order
pub apart_too : (x y : Name) → is_same_name x y ≡ false → is_same_name y x ≡ false
apart_too x y apart = by (is_same_name y x) refl
  where
    by : (b : Bool) → is_same_name y x ≡ b → b ≡ false
    by true e = absurd (other_text x y (sym apart) (sym (same_text y x (sym e))))
    by false e = refl

-- a name that is in none of them is not the first
pub not_first : (x y : Name) (names : List Name) → is_in x (y ∷ names) ≡ false → is_same_name x y ≡ false
not_first x y names h = by (is_same_name x y) h
  where
    by : (b : Bool) → (b || is_in x names) ≡ false → b ≡ false
    by true e = cc
    by false e = refl

-- a name that is not found is none of them
pub not_found : (name : Name) (names : List Name) → position (is_same_name name) names ≡ None → is_in name names ≡ false
not_found name names none = sym (is_some-position (is_same_name name) names) ∙ ap is_some none

-- the first of the names that is this one is the one at k
abbrev pub IsFoundAt : Name → List Name → ℕ → Type 0
IsFoundAt name [] k = ⊥
IsFoundAt name (n ∷ names) zero = is_same_name name n ≡ true
IsFoundAt name (n ∷ names) (suc k) = (is_same_name name n ≡ false) × IsFoundAt name names k

pub found_at : (name : Name) (names : List Name) (k : ℕ) → position (is_same_name name) names ≡ Some k → IsFoundAt name names k
found_at name names k found =
    let at = position-Some (is_same_name name) names k name found in
    from names k at.0 at.1 at.2
  where
    from : (names : List Name) (k : ℕ) → k < length names → is_same_name name (get_or names k name) ≡ true
        → ((j : ℕ) → j < k → is_same_name name (get_or names j name) ≡ false) → IsFoundAt name names k
    from [] k within here before = absurd (omega arith)
    from (n ∷ names) zero within here before = here
    from (n ∷ names) (suc k) within here before =
        (before 0 (omega arith), from names k (omega arith) here (λ j below. before (suc j) (omega arith)))

pub found_within : (name : Name) (names : List Name) (k : ℕ) → IsFoundAt name names k → k < length names
found_within name [] k found = absurd found
found_within name (n ∷ names) zero found = omega arith
found_within name (n ∷ names) (suc k) found = let h = found_within name names k found.1 in omega arith

-- what is found is replaced by another of the same name
pub names-set : {X : Type 0} (name_of : X → Name) (xs : List X) (k : ℕ) (x : X) → IsFoundAt (name_of x) (map name_of xs) k
    → map name_of (set xs k x) ≡ map name_of xs
names-set name_of [] k x found = absurd found
names-set name_of (y ∷ xs) zero x found = ap (λ n. n ∷ map name_of xs) (names_same (name_of x) (name_of y) found)
names-set name_of (y ∷ xs) (suc k) x found = ap (λ ns. name_of y ∷ ns) (names-set name_of xs k x found.1)
