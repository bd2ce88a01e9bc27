-- Marks of names: what is added stays, and a name without its mark is none of those that are marked.
use Rattle.std.proofs.Common.{◌≡◌, ◌∙◌, ◌^◌, ◌+◌, ◌-◌, ◌*◌, ◌%◌, ℕ, Bool, true, false, ◌&&◌, ◌||◌, eqb, List, [], ◌∷◌, ◌++◌, length, Option, refl, sym, ap, subst}
use Rattle.std.specs.Prelude.{bit_and, bit_or, is_some, position, slice_get, slice_index_or, Some, None}
use Rattle.std.specs.List.{list_all}
use Rattle.std.proofs.lemmas.Bool.{eq-eqb, eqb-true, eqb-false}
use Rattle.std.proofs.lemmas.List.Folds.{list_all-append}
use Rattle.std.proofs.lemmas.Nat.{and_or_self, and_or_apart, pow_apart}
use Rattle.pp_model.specs.Names.{Name, is_in, is_same_name}
use Rattle.pp_macros.specs.inner.Marks.{number_by_bytes, mark_number, mark_of, has_mark, AreMarked}
use Rattle.pp_macros.proofs.defined_names.NameKeysLemmas.{names_same}
use Rattle.pp_macros.proofs.defined_names.ParameterNamesLemmas.{is_some-position}

-- the number by the bytes' first one
pub number_of_some : (bytes : List ℕ) (first : ℕ) → slice_get bytes 0 ≡ Some first
    → (length bytes + first * 5 + slice_index_or bytes (length bytes - 1) 0 * 3) % 64 ≡ number_by_bytes bytes
number_of_some [] first is = cc
number_of_some (b ∷ bytes) first is = let same : b ≡ first = cc in rw (← same) refl

pub number_of_none : (bytes : List ℕ) → slice_get bytes 0 ≡ None → 0 ≡ number_by_bytes bytes
number_of_none [] is = refl
number_of_none (b ∷ bytes) is = cc

-- the mark that is added is there
pub mark_there : (marks : ℕ) (name : Name) → has_mark (bit_or marks (mark_of name)) name ≡ true
mark_there marks name = eq-eqb _ _ (and_or_self (mark_of name) marks)

-- marks that were there stay
pub mark_stays : (marks : ℕ) (name other : Name) → has_mark marks other ≡ true → has_mark (bit_or marks (mark_of name)) other ≡ true
mark_stays marks name other was = by (eqb (mark_number name) (mark_number other)) refl
  where
    by : (b : Bool) → eqb (mark_number name) (mark_number other) ≡ b → has_mark (bit_or marks (mark_of name)) other ≡ true
    by true e = subst (λ n. eqb (bit_and (bit_or marks (2 ^ mark_number name)) (2 ^ n)) (2 ^ n) ≡ true) (eqb-true _ _ e) (mark_there marks name)
    by false e = ap (λ m. eqb m (mark_of other)) (and_or_apart (mark_of other) marks (mark_of name) (pow_apart (mark_number name) (mark_number other) (eqb-false _ _ e))) ∙ was

marks_stay : (marks : ℕ) (names : List Name) (name : Name) → AreMarked marks names → AreMarked (bit_or marks (mark_of name)) names
marks_stay marks [] name all = refl
marks_stay marks (x ∷ names) name all = by (has_mark marks x) refl all (marks_stay marks names name)
  where
    by : (b : Bool) → has_mark marks x ≡ b → (b && list_all (has_mark marks) names) ≡ true
        → (AreMarked marks names → AreMarked (bit_or marks (mark_of name)) names) → AreMarked (bit_or marks (mark_of name)) (x ∷ names)
    by true e rest stay = rw (mark_stays marks name x e) (stay rest)
    by false e rest stay = cc

-- one name more
pub marked_more : (marks : ℕ) (names : List Name) (name : Name) → AreMarked marks names → AreMarked (bit_or marks (mark_of name)) (name ∷ names)
marked_more marks names name all = rw (mark_there marks name) (marks_stay marks names name all)

-- the same of a name at the end
pub marked_push : (marks : ℕ) (names : List Name) (name : Name) → AreMarked marks names → AreMarked (bit_or marks (mark_of name)) (names ++ name ∷ [])
marked_push marks names name all =
    list_all-append (has_mark (bit_or marks (mark_of name))) names (name ∷ []) ∙ rw (mark_there marks name) (ap (λ b. b && true) (marks_stay marks names name all))

-- one name fewer
pub marked_fewer : (marks : ℕ) (names : List Name) (name : Name) → AreMarked marks (names ++ name ∷ []) → AreMarked marks names
marked_fewer marks names name all = by (list_all (has_mark marks) names) (sym (list_all-append (has_mark marks) names (name ∷ [])) ∙ all)
  where
    by : (b : Bool) → (b && list_all (has_mark marks) (name ∷ [])) ≡ true → b ≡ true
    by true e = refl
    by false e = cc

pub marked_rest : (marks : ℕ) (name : Name) (names : List Name) → AreMarked marks (name ∷ names) → AreMarked marks names
marked_rest marks name names all = by (has_mark marks name) all
  where
    by : (b : Bool) → (b && list_all (has_mark marks) names) ≡ true → AreMarked marks names
    by true e = e
    by false e = cc

-- a name that isn't there has no position
pub without_position : (name : Name) (names : List Name) → is_in name names ≡ false → None ≡ position (is_same_name name) names
without_position name names without = by (position (is_same_name name) names) (is_some-position (is_same_name name) names ∙ without)
  where
    by : (found : Option ℕ) → is_some found ≡ false → None ≡ found
    by None e = refl
    by (Some k) e = cc

-- a name without its mark is none of them
pub unmarked : (marks : ℕ) (names : List Name) (name : Name) → AreMarked marks names → has_mark marks name ≡ false → is_in name names ≡ false
unmarked marks [] name all without = refl
unmarked marks (x ∷ names) name all without =
    by (is_same_name name x) refl (has_mark marks x) refl all (λ rest. unmarked marks names name rest without)
  where
    by : (same : Bool) → is_same_name name x ≡ same → (b : Bool) → has_mark marks x ≡ b → (b && list_all (has_mark marks) names) ≡ true
        → (AreMarked marks names → is_in name names ≡ false) → (same || is_in name names) ≡ false
    by false e true f rest others = others rest
    by true e true f rest others = let same : name ≡ x = names_same name x e in let none : has_mark marks x ≡ false = rw same at without in cc
    by same e false f rest others = cc
