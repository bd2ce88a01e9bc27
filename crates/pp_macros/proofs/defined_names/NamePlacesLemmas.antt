-- The table that finds names, when a name is added or removed.
use Rattle.std.proofs.Common.{◌≡◌, ◌∙◌, ◌≢◌, ℕ, ◌+◌, ◌<◌, ◌≤◌, Bool, true, false, List, [], ◌∷◌, ◌++◌, length, get_or, set, Option, Some, None, refl, sym, ap, arith, inl, inr, ◌⊎◌, if◌then◌else◌}
use Rattle.std.specs.Prelude.{is_some, position}
use Rattle.std.specs.Map.{lookup}
use Rattle.std.specs.declared.string.String.{String}
use Rattle.std.proofs.lemmas.Bool.{cases_lt}
use Rattle.std.proofs.lemmas.List.{get_or_read, length-set, get_or-set_same, get_or-set_other}
use Rattle.std.proofs.lemmas.List.Quantifiers.{position-Some}
use Rattle.pp_model.specs.Places.{placed}
use Rattle.pp_model.specs.Names.{Name, is_same_name, is_in}
use Rattle.pp_macros.specs.declared.names.table.Place.{Place}
use Rattle.pp_macros.specs.inner.NamePlaces.{hash_of, no_place, place_index, place_after, AreTaken, IsCrowded, IsPlaced, IsFree, IsFound, FindsNames}
use Rattle.pp_macros.proofs.defined_names.NameKeysLemmas.{names_same, has_name, text_name}
use Rattle.pp_macros.proofs.defined_names.DistinctNamesLemmas.{same_name}
use Rattle.pp_macros.proofs.defined_names.ParameterNamesLemmas.{position_kept, position_found, is_some-position}

-- the places whose numbers are below this one are the same in both tables
pub record KeepsPlaces (old new : List Place) (count : ℕ) : Type 0 where
  pub size : length new ≡ length old
  pub same : (i : ℕ) → (get_or old i no_place).number < count → get_or new i no_place ≡ get_or old i no_place

module _ (old new : List Place) (count : ℕ) (keeps : KeepsPlaces old new count) where
  place_kept : (hash k : ℕ) → (place_after old hash k).number < count → place_after new hash k ≡ place_after old hash k
  place_kept hash k below = rw keeps.size (keeps.same (place_index old hash k) below)

  taken_kept : (hash n number : ℕ) → number ≤ count → AreTaken old hash n number → AreTaken new hash n number
  taken_kept hash n number h taken k near =
      let below = taken k near in
      rw (place_kept hash k (omega arith)) below

  placed_kept : (hash number : ℕ) → number < count → IsPlaced old hash number → IsPlaced new hash number
  placed_kept hash number h placed =
      let at : (place_after old hash placed.after).number ≡ number = ap (λ (p : Place). p.number) placed.here in
      record {
        after = placed.after;
        near = placed.near;
        here = place_kept hash placed.after (omega arith) ∙ placed.here;
        before = taken_kept hash placed.after number (omega arith) placed.before;
      }

  found_kept : (hash : ℕ) (other o : Option ℕ) → ((number : ℕ) → o ≡ Some number → number < count) → IsFound old hash other o → IsFound new hash other o
  found_kept hash other None below found = found
  found_kept hash other (Some number) below (inl placed) = inl (placed_kept hash number (below number refl) placed)
  found_kept hash other (Some number) below (inr crowded) = inr (taken_kept hash 8 number (let h = below number refl in omega arith) crowded.0, crowded.1)

-- a place that no name has takes one
set_keeps : (places : List Place) (i count : ℕ) (p : Place) → count ≤ (get_or places i no_place).number → KeepsPlaces places (set places i p) count
set_keeps places i count p free = record {
  size = length-set places i p;
  same = λ j below.
      let apart : j ≢ i = λ e. let f = ap (λ k. (get_or places k no_place).number) e in omega arith in
      get_or-set_other places i j p no_place apart;
}

-- a table of no names
pub finds_none : (Z : Type 0) (places : List Place) → FindsNames {Z = Z} places [] []
finds_none Z places name = refl

below_count : (names : List Name) (name : Name) (number : ℕ) → position (is_same_name name) names ≡ Some number → number < length names
below_count names name number e = (position-Some (is_same_name name) names number [] e).0

none_there : (names : List Name) (name : Name) (o : Option ℕ) → position (is_same_name name) names ≡ o → is_in name names ≡ false → o ≡ None
none_there names name None e new = refl
none_there names name (Some number) e new =
    let found : is_in name names ≡ true = sym (is_some-position (is_same_name name) names) ∙ ap is_some e in
    absurd (cc)

module _ {Z : Type 0} (places : List Place) (others : List (String Z × ℕ)) (names : List Name) (new : Name) (apart : is_in new names ≡ false) where
  abbrev other_of : List (String Z × ℕ) → Name → Option ℕ
  other_of entries name = lookup (has_name text_name name) entries

  at_end : (name : Name) → is_same_name name new ≡ true → position (is_same_name name) (names ++ new ∷ []) ≡ Some (length names)
  at_end name e = rw (names_same name new e) (position_found (is_same_name new) names new apart (same_name new))

  -- the new name is at its place or among the others, and the names from before as they were
  more : (after : List Place) (later : List (String Z × ℕ)) → FindsNames places others names → KeepsPlaces places after (length names)
      → IsFound after (hash_of new) (other_of later new) (Some (length names))
      → ((name : Name) → is_same_name name new ≡ false → other_of later name ≡ other_of others name)
      → FindsNames after later (names ++ new ∷ [])
  more after later finds keeps here same name = by (is_same_name name new) refl
    where
      by : (b : Bool) → is_same_name name new ≡ b
          → IsFound after (hash_of name) (other_of later name) (position (is_same_name name) (names ++ new ∷ []))
      by true e = rw (at_end name e, names_same name new e) here
      by false e = rw (position_kept (is_same_name name) names new e, same name e)
          (found_kept places after (length names) keeps (hash_of name) (other_of others name) (position (is_same_name name) names)
          (below_count names name) (finds name))

  -- the new name takes its place
  pub finds_placed : (i : ℕ) → FindsNames places others names → IsFree places (hash_of new) (length names) i
      → FindsNames (set places i (record { hash = hash_of new; number = length names })) others (names ++ new ∷ [])
  finds_placed i finds free =
      let placed : Place = record { hash = hash_of new; number = length names } in
      let keeps = set_keeps places i (length names) placed (rw free.here free.free) in
      more (set places i placed) others finds keeps
      (inl (record {
        after = free.after;
        near = free.near;
        here = rw (length-set places i placed, ← free.here) (get_or-set_same places i placed no_place free.inside);
        before = taken_kept places (set places i placed) (length names) keeps (hash_of new) free.after (length names) (omega arith) free.before;
      }))
      (λ name e. refl)

  -- the new name is put among the others
  pub finds_crowded : (later : List (String Z × ℕ)) → FindsNames places others names → IsCrowded places (hash_of new) (length names)
      → ((name : Name) (b : Bool) → is_same_name name new ≡ b → other_of later name ≡ (if b then Some (length names) else other_of others name))
      → FindsNames places later (names ++ new ∷ [])
  finds_crowded later finds crowded changed =
      more places later finds (record { size = refl; same = λ i below. refl }) (inr (crowded, changed new true (same_name new))) (λ name e. changed name false e)

  -- the last name is forgotten
  pub finds_fewer : (later : List (String Z × ℕ)) → FindsNames places others (names ++ new ∷ [])
      → ((name : Name) (b : Bool) → is_same_name name new ≡ b → other_of later name ≡ (if b then None else other_of others name))
      → FindsNames places later names
  finds_fewer later finds changed name = by (is_same_name name new) refl
    where
      by : (b : Bool) → is_same_name name new ≡ b → IsFound places (hash_of name) (other_of later name) (position (is_same_name name) names)
      by true e = rw (changed name true e, none_there names name (position (is_same_name name) names) refl (rw (names_same name new e) apart)) refl
      by false e = rw (changed name false e, ← position_kept (is_same_name name) names new e) (finds name)

-- no place of the hash's first, so many, is that of the name with this number, if there is one
abbrev pub AreOthers : List Place → ℕ → Option ℕ → ℕ → Type 0
AreOthers places hash o count = (k number : ℕ) → k < count → o ≡ Some number → place_after places hash k ≢ record { hash = hash; number = number }

module _ (places : List Place) (hash : ℕ) where
  -- a name that has none of the eight places is among the others, if it is there
  pub found_other : (other o : Option ℕ) → IsFound places hash other o → AreOthers places hash o 8 → other ≡ o
  found_other other None found passed = found
  found_other other (Some number) (inl placed) passed = absurd (passed placed.after number placed.near refl placed.here)
  found_other other (Some number) (inr crowded) passed = crowded.1

-- one more place, which another name has, or none
pub others_more : (places : List Place) (hash : ℕ) (o : Option ℕ) (k i : ℕ) (place : Place) → AreOthers places hash o k
    → i ≡ place_index places hash k → i < length places → place ≡ get_or places i place
    → ((number : ℕ) → o ≡ Some number → place ≢ record { hash = hash; number = number }) → AreOthers places hash o (k + 1)
others_more places hash o k i place passed at inside is other j number h e here = by (cases_lt j k)
  where
    by : (j < k) ⊎ (k ≤ j) → ⊥
    by (inl l) = passed j number l e here
    by (inr g) =
        let same : j ≡ k = omega arith in
        other number e (get_or_read places i place inside is no_place ∙ rw (at, ← same) here)

-- a place with another hash, or with the number of another name
pub other_hash : (place : Place) (hash : ℕ) → place.hash ≢ hash → (number : ℕ) → place ≢ record { hash = hash; number = number }
other_hash place hash differs number e = differs (ap (λ (p : Place). p.hash) e)

pub other_text : (names : List Name) (name there : Name) (place : Place) (hash : ℕ) → place.number < length names → there ≡ get_or names place.number there
    → is_same_name name there ≡ false → (number : ℕ) → position (is_same_name name) names ≡ Some number → place ≢ record { hash = hash; number = number }
other_text names name there place hash inside is differs number found e =
    let at : place.number ≡ number = ap (λ (p : Place). p.number) e in
    let same = (position-Some (is_same_name name) names number [] found).1 in
    let here : there ≡ get_or names number [] = rw (← at) (get_or_read names place.number there inside is []) in
    absurd (cc)
