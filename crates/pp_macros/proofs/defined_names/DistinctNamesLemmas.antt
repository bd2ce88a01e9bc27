-- Lists of names of which no two are the same.
use Rattle.std.proofs.Common.{◌≡◌, ◌∙◌, ℕ, ◌<◌, ◌≤◌, Bool, true, false, List, [], ◌∷◌, ◌++◌, length, get_or, take, Some, refl, sym, ap, arith, inl, inr}
use Rattle.std.specs.Prelude.{is_some, position}
use Rattle.std.specs.Cmp.Lexicographic.{bytes_decides}
use Rattle.std.specs.List.{position_or_len}
use Rattle.std.proofs.lemmas.Bool.{cases_lt, lt-ltb}
use Rattle.std.proofs.lemmas.List.{get_or_append_left, get_or_default, get_or_read, get_or_push, get_or-take, length_push, length-take-le, take_at}
use Rattle.std.proofs.lemmas.List.Folds.{list_any_none}
use Rattle.std.proofs.lemmas.List.Quantifiers.{position-Some}
use Rattle.std.proofs.lemmas.List.Sums.{position_or_len_is}
use Rattle.pp_model.specs.Names.{Name, is_same_name, is_in}
use Rattle.pp_macros.specs.inner.NamePlaces.{AreDistinct}
use Rattle.pp_macros.proofs.defined_names.NameKeysLemmas.{names_same}
use Rattle.pp_macros.proofs.defined_names.ParameterNamesLemmas.{position_kept, position_found, is_some-position}

pub same_name : (name : Name) → is_same_name name name ≡ true
same_name name = (bytes_decides name name).1 refl

-- the position of what the test passes at, and at nothing before
position_is : {B : Type 0} (p : B → Bool) (xs : List B) (i : ℕ) (d : B) → i < length xs → p (get_or xs i d) ≡ true
    → ((k : ℕ) → k < i → p (get_or xs k d) ≡ false) → position p xs ≡ Some i
position_is p xs i d inside passes before =
    let at : position_or_len p xs ≡ i = position_or_len_is p xs i d (omega arith) before (λ _. passes) in
    rw (at, lt-ltb i (length xs) inside) refl

pub distinct_none : AreDistinct []
distinct_none k inside = absurd (omega arith)

-- a new name after the others
pub distinct_more : (names : List Name) (name : Name) → is_in name names ≡ false → AreDistinct names → AreDistinct (names ++ name ∷ [])
distinct_more names name new distinct k inside = elim (cases_lt k (length names)) [ inl l ↦ earlier l | inr l ↦ last l ]
  where
    other_of : (b : Bool) → is_same_name (get_or names k []) name ≡ b → k < length names
        → position (is_same_name (get_or names k [])) (names ++ name ∷ []) ≡ Some k
    other_of true e l =
        let found : is_in name names ≡ true = rw (← names_same (get_or names k []) name e)
        (sym (is_some-position (is_same_name (get_or names k [])) names) ∙ ap is_some (distinct k l)) in
        absurd (cc)
    other_of false e l = position_kept (is_same_name (get_or names k [])) names name e ∙ distinct k l

    earlier : k < length names → position (is_same_name (get_or (names ++ name ∷ []) k [])) (names ++ name ∷ []) ≡ Some k
    earlier l = rw (get_or_append_left names (name ∷ []) [] k l) (other_of (is_same_name (get_or names k []) name) refl l)

    last : length names ≤ k → position (is_same_name (get_or (names ++ name ∷ []) k [])) (names ++ name ∷ []) ≡ Some k
    last l =
        let long = length_push names name in
        let at : length names ≡ k = omega arith in
        rw (get_or_push names name [] k at) (position_found (is_same_name name) names name new (same_name name) ∙ ap (λ n. Some n) at)

-- a name is the only one that is the same
pub only_at : (names : List Name) (k : ℕ) (name there : Name) → AreDistinct names → k < length names → there ≡ get_or names k there
    → is_same_name name there ≡ true → position (is_same_name name) names ≡ Some k
only_at names k name there distinct inside is e = rw (names_same name there e, get_or_read names k there inside is []) (distinct k inside)

-- a name is none of those before it
module _ (names : List Name) (distinct : AreDistinct names) (k : ℕ) (inside : k < length names) where
  apart_at : (j : ℕ) → j < k → is_same_name (get_or names k []) (get_or names j []) ≡ false
  apart_at = (position-Some (is_same_name (get_or names k [])) names k [] (distinct k inside)).2

  pub earlier_apart : is_in (get_or names k []) (take k names) ≡ false
  earlier_apart = list_any_none (is_same_name (get_or names k [])) (take k names) (λ j d h.
      let short = length-take-le k names (omega arith) in
      let before : j < k = omega arith in
      rw (get_or-take k names j d before, get_or_default names j d [] (omega arith)) (apart_at j before))

-- without the last name
pub distinct_fewer : (names : List Name) (name : Name) → AreDistinct (names ++ name ∷ []) → AreDistinct names
distinct_fewer names name distinct k inside =
    let long = length_push names name in
    position_is (is_same_name (get_or names k [])) names k [] inside (same_name (get_or names k []))
    (λ j h. rw (get_or_append_left names (name ∷ []) [] j (omega arith), get_or_append_left names (name ∷ []) [] k inside)
    at (apart_at (names ++ name ∷ []) distinct k (omega arith) j h))

-- the last name is none of the others
pub last_new : (names : List Name) (name : Name) → AreDistinct (names ++ name ∷ []) → is_in name names ≡ false
last_new names name distinct =
    let long = length_push names name in
    rw (get_or_push names name [] (length names) refl, take_at names (name ∷ []) (length names) refl)
    at (earlier_apart (names ++ name ∷ []) distinct (length names) (omega arith))
