-- The parameters of a macro, found by their names.
use Rattle.std.proofs.Common.{◌≡◌, ◌∙◌, ℕ, ◌+◌, Bool, true, false, cond, List, [], ◌∷◌, ◌++◌, length, take, ◌<◌, ◌≤◌, Option, Some, None, refl, sym, ap, arith}
use Rattle.std.specs.Prelude.{◌||◌, is_some, position}
use Rattle.std.specs.BTreeMap as tree
use Rattle.std.specs.BTreeMap.{BTreeMap, is_at}
use Rattle.std.specs.List.{list_any, position_from}
use Rattle.std.specs.Map.{lookup}
use Rattle.std.specs.declared.string.String.{String}
use Rattle.std.specs.String.{string_cmp}
use Rattle.std.proofs.lemmas.Iterator.Adapters.{position_from-zero}
use Rattle.std.proofs.lemmas.List.{take_all, take-append-le, length-append}
use Rattle.pp_model.specs.Names.{Name, is_same_name, is_in}
use Rattle.pp_macros.specs.inner.ParameterPositions.{FindsOthers, or_else}
use Rattle.pp_macros.proofs.defined_names.NameKeysLemmas.{names_same, lookup_changed, text_name, texts_same}

module _ {B : Type 0} (p : B → Bool) where
  -- a position among items that start at i, with one more item at their end
  from_kept : (i : ℕ) (xs : List B) (x : B) → p x ≡ false → position_from p i (xs ++ x ∷ []) ≡ position_from p i xs
  from_kept i [] x e = ap (λ b. cond b (Some i) None) e
  from_kept i (y ∷ ys) x e = ap (λ o. cond (p y) (Some i) o) (from_kept (i + 1) ys x e)

  from_found : (i : ℕ) (xs : List B) (x : B) → list_any p xs ≡ false → p x ≡ true → position_from p i (xs ++ x ∷ []) ≡ Some (i + length xs)
  from_found i [] x none e = rw e (ap (λ n. Some n) (omega arith))
  from_found i (y ∷ ys) x none e = by (p y) none (λ h. from_found (i + 1) ys x h e)
    where
      by : (b : Bool) → (b || list_any p ys) ≡ false
          → (list_any p ys ≡ false → position_from p (i + 1) (ys ++ x ∷ []) ≡ Some (i + 1 + length ys))
          → cond b (Some i) (position_from p (i + 1) (ys ++ x ∷ [])) ≡ Some (i + length (y ∷ ys))
      by true h later = absurd (cc)
      by false h later = later h ∙ ap (λ n. Some n) (omega arith)

  from_any : (i : ℕ) (xs : List B) → is_some (position_from p i xs) ≡ list_any p xs
  from_any i [] = refl
  from_any i (y ∷ ys) = by (p y) (from_any (i + 1) ys)
    where
      by : (b : Bool) → is_some (position_from p (i + 1) ys) ≡ list_any p ys
          → is_some (cond b (Some i) (position_from p (i + 1) ys)) ≡ (b || list_any p ys)
      by true later = refl
      by false later = later

  pub position_kept : (xs : List B) (x : B) → p x ≡ false → position p (xs ++ x ∷ []) ≡ position p xs
  position_kept xs x e = position_from-zero p (xs ++ x ∷ []) ∙ from_kept 0 xs x e ∙ sym (position_from-zero p xs)

  pub position_found : (xs : List B) (x : B) → list_any p xs ≡ false → p x ≡ true → position p (xs ++ x ∷ []) ≡ Some (length xs)
  position_found xs x none e = position_from-zero p (xs ++ x ∷ []) ∙ from_found 0 xs x none e ∙ ap (λ n. Some n) (omega arith)

  -- what is found tells whether there is one
  pub is_some-position : (xs : List B) → is_some (position p xs) ≡ list_any p xs
  is_some-position xs = ap is_some (position_from-zero p xs) ∙ from_any 0 xs

  position_none : (xs : List B) → list_any p xs ≡ false → position p xs ≡ None
  position_none xs none = by (position p xs) (is_some-position xs ∙ none)
    where
      by : (o : Option ℕ) → is_some o ≡ false → o ≡ None
      by None e = refl
      by (Some k) e = cc

-- nothing is found among the first few, if it is found nowhere
or_else_none : (o later : Option ℕ) → or_else o later ≡ None → o ≡ None
or_else_none None later e = refl
or_else_none (Some k) later e = cc

-- what isn't among the first few is where the map says
pub other_found : {Z : Type 0} (few : ℕ) (entries : List (String Z × ℕ)) (names : List Name) (name : Name) → FindsOthers few entries names
    → None ≡ position (is_same_name name) (take few names)
    → lookup (λ (k : String Z). is_same_name name (text_name k)) entries ≡ position (is_same_name name) names
other_found {Z} few entries names name finds none =
    ap (λ (o : Option ℕ). or_else o (lookup (λ (k : String Z). is_same_name name (text_name k)) entries)) none ∙ finds name

-- a new parameter is found at the end, and the others where they were; if there are only a few, no map changes
pub finds_few_more : {Z : Type 0} (few : ℕ) (entries : List (String Z × ℕ)) (names : List Name) (name : Name) → length names < few
    → is_in name names ≡ false → FindsOthers few entries names → FindsOthers few entries (names ++ name ∷ [])
finds_few_more {Z} few entries names name short new finds other = by (is_same_name other name) refl
  where
    later : Option ℕ
    later = lookup (λ (k : String Z). is_same_name other (text_name k)) entries

    among : or_else (position (is_same_name other) names) later ≡ position (is_same_name other) names
    among = rw (take_all few names (omega (arith, short))) at finds other

    whole : take few (names ++ name ∷ []) ≡ names ++ name ∷ []
    whole = take_all few (names ++ name ∷ []) (omega (arith, short, length-append names (name ∷ [])))

    by : (b : Bool) → is_same_name other name ≡ b
        → or_else (position (is_same_name other) (take few (names ++ name ∷ []))) later ≡ position (is_same_name other) (names ++ name ∷ [])
    by true e =
        let none : list_any (is_same_name other) names ≡ false = rw (names_same other name e) new in
        rw (whole, position_found (is_same_name other) names name none e) refl
    by false e = rw (whole, position_kept (is_same_name other) names name e) among

-- if there are more, it is put into the map
pub finds_other_more : {Z : Type 0} (few : ℕ) (m n : BTreeMap (String Z) ℕ) (key : String Z) (names : List Name)
    → tree.Updates string_cmp m n key (Some (length names)) → few ≤ length names → is_in (text_name key) names ≡ false
    → FindsOthers few m.entries names → FindsOthers few n.entries (names ++ text_name key ∷ [])
finds_other_more {Z} few m n key names updates long new finds other = by (is_same_name other (text_name key)) refl
  where
    first : take few (names ++ text_name key ∷ []) ≡ take few names
    first = take-append-le few names (text_name key ∷ []) long

    found : (b : Bool) → is_same_name other (text_name key) ≡ b
        → lookup (λ (k : String Z). is_same_name other (text_name k)) n.entries
        ≡ cond b (Some (length names)) (lookup (λ (k : String Z). is_same_name other (text_name k)) m.entries)
    found b e = lookup_changed text_name _ texts_same (text_name key) (is_at (string_cmp key)) (texts_same key) m.entries n.entries (Some (length names))
        updates.1 updates.3 other b e

    by : (b : Bool) → is_same_name other (text_name key) ≡ b
        → or_else (position (is_same_name other) (take few (names ++ text_name key ∷ [])))
        (lookup (λ (k : String Z). is_same_name other (text_name k)) n.entries)
        ≡ position (is_same_name other) (names ++ text_name key ∷ [])
    by true e =
        let none : list_any (is_same_name other) names ≡ false = rw (names_same other (text_name key) e) new in
        let nowhere : position (is_same_name other) names ≡ None = position_none (is_same_name other) names none in
        let absent : position (is_same_name other) (take few names) ≡ None = or_else_none _ _ (finds other ∙ nowhere) in
        rw (first, absent, found true e, position_found (is_same_name other) names (text_name key) none e) refl
    by false e = rw (first, found false e, position_kept (is_same_name other) names (text_name key) e) (finds other)
