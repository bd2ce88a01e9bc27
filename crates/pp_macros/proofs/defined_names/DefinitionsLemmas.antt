-- Names by number, each with its definition if it is defined.
use Rattle.std.proofs.Common.{◌≡◌, ◌∙◌, ℕ, zero, suc, ◌+◌, ◌<◌, Bool, true, false, ◌||◌, if◌then◌else◌, List, [], ◌∷◌, ◌++◌, length, set, Option, Some, None, refl, sym, ap, arith}
use Rattle.std.proofs.lemmas.List.{length-map, length-set, length_push, map-append, append-nil}
use Rattle.std.specs.Prelude.{sum_by, slice_get, position, option_map, IfSome}
use Rattle.std.specs.Option.{option_copied}
use denote.Ref.{Bor}
use Rattle.std.specs.declared.rc.Rc.{Rc}
use Rattle.std.proofs.lemmas.List.Sums.{sum_by-append, sum_by-cons, sum_by-set}
use Rattle.std.proofs.lemmas.Option.{same_Some}
use Rattle.pp_model.specs.Definitions.{Definition, with_change}
use Rattle.pp_model.specs.Names.{Name, is_same_name, is_in}
use Rattle.pp_model.proofs.taking.OpenNamesLemmas.{not_in_tail}
use Rattle.pp_macros.specs.inner.Defined.{Defined, Macro, names_in, defined_as, AreOfNames, opened_by, meaning_of, body_tokens, more_tokens, IsChanged}
use Rattle.pp_macros.proofs.defined_names.NameKeysLemmas.{names_same}
use Rattle.pp_macros.proofs.defined_names.FoundNamesLemmas.{apart_too, not_first, IsFoundAt, found_at, found_within, names-set}

-- a name that is none of them has no definition
pub meaning_absent : (name : Name) (ds : List Defined) → is_in name (names_in ds) ≡ false → meaning_of ds name ≡ None
meaning_absent name [] absent = refl
meaning_absent name (d ∷ ds) absent = by (is_same_name name d.name) absent (λ h. meaning_absent name ds h)
  where
    by : (b : Bool) → (b || is_in name (names_in ds)) ≡ false → (is_in name (names_in ds) ≡ false → meaning_of ds name ≡ None)
        → (if b then d.definition else meaning_of ds name) ≡ None
    by true h later = cc
    by false h later = later h

-- how many tokens the bodies have together
tokens_among : (ds : List Defined) → body_tokens ds ≡ sum_by (λ (d : Defined). more_tokens d.definition) ds
tokens_among [] = refl
tokens_among (d ∷ ds) =
    rw (sum_by-cons (λ (d : Defined). more_tokens d.definition) d ds) (ap (λ t. more_tokens d.definition + t) (tokens_among ds))

-- of two names that differ either may be asked for first
choices : (n name other : Name) (d change rest : Option Definition) → is_same_name n name ≡ false
    → (if is_same_name other n then d else (if is_same_name other name then change else rest))
    ≡ (if is_same_name other name then change else (if is_same_name other n then d else rest))
choices n name other d change rest apart = by (is_same_name other n) refl
  where
    by : (b : Bool) → is_same_name other n ≡ b → (if b then d else (if is_same_name other name then change else rest))
        ≡ (if is_same_name other name then change else (if b then d else rest))
    by true e = rw (names_same other n e, apart) refl
    by false e = refl

-- the name that is found has another definition now, or none
set_meaning : (ds : List Defined) (name : Name) (k : ℕ) (e : Defined) → e.name ≡ name → IsFoundAt name (names_in ds) k → (other : Name)
    → meaning_of (set ds k e) other ≡ with_change (meaning_of ds) name e.definition other
set_meaning [] name k e same found other = absurd found
set_meaning (d ∷ ds) name zero e same found other =
    ap (λ (m : Name). if is_same_name other m then e.definition else meaning_of ds other) same
    ∙ by (is_same_name other name) refl
  where
    by : (b : Bool) → is_same_name other name ≡ b → (if b then e.definition else meaning_of ds other)
        ≡ (if b then e.definition else (if is_same_name other d.name then d.definition else meaning_of ds other))
    by true h = refl
    by false h = rw (sym (names_same name d.name found), h) refl
set_meaning (d ∷ ds) name (suc k) e same found other =
    ap (λ o. if is_same_name other d.name then d.definition else o) (set_meaning ds name k e same found.1 other)
    ∙ choices d.name name other d.definition e.definition (meaning_of ds other) (apart_too name d.name found.0)

set_changes : (ds : List Defined) (name : Name) (k : ℕ) (e : Defined) → e.name ≡ name → IsFoundAt name (names_in ds) k
    → IsChanged name e.definition ds (set ds k e)
set_changes ds name k e same found =
    let within : k < length ds = let h = found_within name (names_in ds) k found in let l = length-map ds (λ (d : Defined). d.name) in omega arith in
    let tokens = sum_by-set (λ (d : Defined). more_tokens d.definition) ds k e e within in
    record {
      meaning = λ i other. set_meaning ds name k e same found other i;
      kept = ([], names-set (λ (d : Defined). d.name) ds k e (rw same found) ∙ sym (append-nil (names_in ds)));
      names = rw (length-set ds k e) (omega arith);
      tokens = rw (tokens_among ds, tokens_among (set ds k e)) (omega arith);
    }

-- a new name
push_meaning : (ds : List Defined) (e : Defined) → is_in e.name (names_in ds) ≡ false → (other : Name)
    → meaning_of (ds ++ e ∷ []) other ≡ with_change (meaning_of ds) e.name e.definition other
push_meaning [] e new other = refl
push_meaning (d ∷ ds) e new other =
    ap (λ o. if is_same_name other d.name then d.definition else o) (push_meaning ds e (not_in_tail e.name d.name (names_in ds) new) other)
    ∙ choices d.name e.name other d.definition e.definition (meaning_of ds other)
    (apart_too e.name d.name (not_first e.name d.name (names_in ds) new))

push_changes : (ds : List Defined) (name : Name) (definition : Definition) → is_in name (names_in ds) ≡ false
    → IsChanged name (Some definition) ds (ds ++ record { name = name; definition = Some definition } ∷ [])
push_changes ds name definition new =
    let e : Defined = record { name = name; definition = Some definition } in
    record {
      meaning = λ i other. push_meaning ds e new other i;
      kept = (name ∷ [], map-append (λ (d : Defined). d.name) ds (e ∷ []));
      names = rw (length_push ds e) (omega arith);
      tokens = rw (tokens_among ds, tokens_among (ds ++ e ∷ []), sum_by-append (λ (d : Defined). more_tokens d.definition) ds (e ∷ [])) (omega arith);
    }

-- a name that is none of them needs no change to have no definition
pub is_absent : (ds : List Defined) (name : Name) → is_in name (names_in ds) ≡ false → IsChanged name None ds ds
is_absent ds name absent = record {
  meaning = λ i other. at other (is_same_name other name) refl i;
  kept = ([], sym (append-nil (names_in ds)));
  names = omega arith;
  tokens = omega arith;
}
  where
    at : (other : Name) (b : Bool) → is_same_name other name ≡ b → meaning_of ds other ≡ (if b then None else meaning_of ds other)
    at other true e = rw (names_same other name e) (meaning_absent name ds absent)
    at other false e = refl

module _ {Z : Type 0} where
  -- what a borrow of an optional macro shows
  pub shown_as : (o : Option (Bor (Rc Macro Z))) (m : Option (Rc Macro Z)) → option_copied o ≡ m
      → option_map {U = Name × Definition} (λ (b : Bor (Rc Macro Z)). (b.now.value.name, b.now.value.definition)) o
      ≡ option_map {U = Name × Definition} (λ (shared : Rc Macro Z). (shared.value.name, shared.value.definition)) m
  shown_as None m is = rw (← is) refl
  shown_as (Some b) m is = rw (← is) refl

  abbrev definition_of : Option (Rc Macro Z) → Option Definition
  definition_of m = option_map (λ (shared : Rc Macro Z). shared.value.definition) m

  abbrev IsNamed : Name → Option (Rc Macro Z) → Type 0
  IsNamed name m = IfSome m (λ (shared : Rc Macro Z). shared.value.name ≡ name)

  pub names_as : (names : List Name) (macros : List (Option (Rc Macro Z))) → AreOfNames names macros → names_in (defined_as names macros) ≡ names
  names_as [] [] of = refl
  names_as (n ∷ names) (m ∷ macros) of = ap (λ (rest : List Name). n ∷ rest) (names_as names macros of.1)
  names_as [] (m ∷ macros) of = absurd of
  names_as (n ∷ names) [] of = absurd of

  pub as_many : (names : List Name) (macros : List (Option (Rc Macro Z))) → AreOfNames names macros → length macros ≡ length names
  as_many [] [] of = refl
  as_many (n ∷ names) (m ∷ macros) of = ap suc (as_many names macros of.1)
  as_many [] (m ∷ macros) of = absurd of
  as_many (n ∷ names) [] of = absurd of

  -- the number of a name, among the names and among their macros
  pub number_found : (names : List Name) (macros : List (Option (Rc Macro Z))) (name : Name) (k : ℕ) → AreOfNames names macros
      → position (is_same_name name) (names_in (defined_as names macros)) ≡ Some k → IsFoundAt name names k × (k < length macros)
  number_found names macros name k of at =
      let found = found_at name names k (rw (names_as names macros of) at at) in
      let within = found_within name names k found in
      let many = as_many names macros of in (found, omega arith)

  -- the macro at the number of a name is what the name means
  pub opened_at : (names : List Name) (macros : List (Option (Rc Macro Z))) (name : Name) (k : ℕ) (m : Option (Rc Macro Z)) → AreOfNames names macros
      → IsFoundAt name names k → slice_get macros k ≡ Some m
      → option_map {U = Name × Definition} (λ (shared : Rc Macro Z). (shared.value.name, shared.value.definition)) m ≡ opened_by name (meaning_of (defined_as names macros) name)
  opened_at [] macros name k m of found is = absurd found
  opened_at (n ∷ names) [] name k m of found is = absurd of
  opened_at (n ∷ names) (o ∷ macros) name zero m of found is = rw (found, ← same_Some o m is) (by o of.0)
    where
      by : (o : Option (Rc Macro Z)) → IsNamed n o
          → option_map {U = Name × Definition} (λ (shared : Rc Macro Z). (shared.value.name, shared.value.definition)) o ≡ opened_by name (definition_of o)
      by None named = refl
      by (Some shared) named = rw (named, names_same name n found) refl
  opened_at (n ∷ names) (o ∷ macros) name (suc k) m of found is = rw found.0 (opened_at names macros name k m of.1 found.1 is)

  -- another macro of the name that is found, or none
  set_as : (names : List Name) (macros : List (Option (Rc Macro Z))) (name : Name) (k : ℕ) (m : Option (Rc Macro Z)) → AreOfNames names macros
      → IsFoundAt name names k → defined_as names (set macros k m) ≡ set (defined_as names macros) k (record { name = name; definition = definition_of m })
  set_as [] macros name k m of found = absurd found
  set_as (n ∷ names) [] name k m of found = absurd of
  set_as (n ∷ names) (o ∷ macros) name zero m of found =
      ap (λ (x : Name). record { name = x; definition = definition_of m } ∷ defined_as names macros) (sym (names_same name n found))
  set_as (n ∷ names) (o ∷ macros) name (suc k) m of found =
      ap (λ (rest : List Defined). record { name = n; definition = definition_of o } ∷ rest) (set_as names macros name k m of.1 found.1)

  pub set_named : (names : List Name) (macros : List (Option (Rc Macro Z))) (name : Name) (k : ℕ) (m : Option (Rc Macro Z)) → AreOfNames names macros
      → IsFoundAt name names k → IsNamed name m → AreOfNames names (set macros k m)
  set_named [] macros name k m of found named = absurd found
  set_named (n ∷ names) [] name k m of found named = absurd of
  set_named (n ∷ names) (o ∷ macros) name zero m of found named = (rw (sym (names_same name n found)) named, of.1)
  set_named (n ∷ names) (o ∷ macros) name (suc k) m of found named = (of.0, set_named names macros name k m of.1 found.1 named)

  -- that leaves the names
  pub names_set : (names : List Name) (macros : List (Option (Rc Macro Z))) (name : Name) (k : ℕ) (m : Option (Rc Macro Z)) → AreOfNames names macros
      → IsFoundAt name names k → IsNamed name m → names_in (defined_as names (set macros k m)) ≡ names_in (defined_as names macros)
  names_set names macros name k m of found named =
      names_as names (set macros k m) (set_named names macros name k m of found named) ∙ sym (names_as names macros of)

  pub is_set : (names : List Name) (macros : List (Option (Rc Macro Z))) (name : Name) (k : ℕ) (m : Option (Rc Macro Z)) → AreOfNames names macros
      → IsFoundAt name names k → IsChanged name (definition_of m) (defined_as names macros) (defined_as names (set macros k m))
  is_set names macros name k m of found =
      rw (set_as names macros name k m of found)
      (set_changes (defined_as names macros) name k (record { name = name; definition = definition_of m }) refl (rw (names_as names macros of) found))

  -- a macro of a new name
  push_as : (names : List Name) (macros : List (Option (Rc Macro Z))) (name : Name) (m : Option (Rc Macro Z)) → AreOfNames names macros
      → defined_as (names ++ name ∷ []) (macros ++ m ∷ []) ≡ defined_as names macros ++ record { name = name; definition = definition_of m } ∷ []
  push_as [] [] name m of = refl
  push_as (n ∷ names) (o ∷ macros) name m of =
      ap (λ (rest : List Defined). record { name = n; definition = definition_of o } ∷ rest) (push_as names macros name m of.1)
  push_as [] (o ∷ macros) name m of = absurd of
  push_as (n ∷ names) [] name m of = absurd of

  pub push_named : (names : List Name) (macros : List (Option (Rc Macro Z))) (name : Name) (m : Option (Rc Macro Z)) → AreOfNames names macros
      → IsNamed name m → AreOfNames (names ++ name ∷ []) (macros ++ m ∷ [])
  push_named [] [] name m of named = (named, tt)
  push_named (n ∷ names) (o ∷ macros) name m of named = (of.0, push_named names macros name m of.1 named)
  push_named [] (o ∷ macros) name m of named = absurd of
  push_named (n ∷ names) [] name m of named = absurd of

  pub is_pushed : (names : List Name) (macros : List (Option (Rc Macro Z))) (name : Name) (shared : Rc Macro Z) → AreOfNames names macros
      → is_in name names ≡ false
      → IsChanged name (Some shared.value.definition) (defined_as names macros) (defined_as (names ++ name ∷ []) (macros ++ Some shared ∷ []))
  is_pushed names macros name shared of new =
      rw (push_as names macros name (Some shared) of)
      (push_changes (defined_as names macros) name shared.value.definition (rw (names_as names macros of) new))
