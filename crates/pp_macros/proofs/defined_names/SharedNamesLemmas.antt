-- The names that shared texts are.
use Rattle.std.proofs.Common.{◌≡◌, ◌∙◌, ℕ, ◌+◌, ◌<◌, cond, List, [], ◌∷◌, ◌++◌, length, get_or, take, Some, refl, sym, ap}
use Rattle.std.specs.Prelude.{position}
use Rattle.std.specs.List.{position_from}
use Rattle.std.specs.declared.rc.Rc.{Rc}
use Rattle.std.proofs.lemmas.Iterator.Adapters.{position_from-zero}
use Rattle.std.proofs.lemmas.List.{length-map, map-append, take-map, get_or-map}
use Rattle.pp_model.specs.Names.{Name, is_same_name}
use Rattle.pp_macros.specs.inner.NamePlaces.{names_of}

module _ {Z : Type 0} where
  abbrev value_of : Rc Name Z → Name
  value_of text = text.value

  pub length-names_of : (texts : List (Rc Name Z)) → length (names_of texts) ≡ length texts
  length-names_of texts = length-map texts value_of

  -- the name of a text that is read
  pub name_read : (texts : List (Rc Name Z)) (k : ℕ) (text : Rc Name Z) → k < length texts → text ≡ get_or texts k text
      → text.value ≡ get_or (names_of texts) k text.value
  name_read texts k text within is = sym (get_or-map value_of texts k text text.value within ∙ ap value_of (sym is))

  -- one more text, and the first so many
  pub names_of-more : (texts : List (Rc Name Z)) (text : Rc Name Z) → names_of (texts ++ text ∷ []) ≡ names_of texts ++ text.value ∷ []
  names_of-more texts text = map-append value_of texts (text ∷ [])

  pub names_of-take : (texts : List (Rc Name Z)) (k : ℕ) → names_of (take k texts) ≡ take k (names_of texts)
  names_of-take texts k = sym (take-map value_of k texts)

  -- a text is where its name is among the names
  position_there : (name : Name) (i : ℕ) (texts : List (Rc Name Z))
      → position_from (λ (text : Rc Name Z). is_same_name name text.value) i texts ≡ position_from (is_same_name name) i (names_of texts)
  position_there name i [] = refl
  position_there name i (text ∷ texts) = ap (λ o. cond (is_same_name name text.value) (Some i) o) (position_there name (i + 1) texts)

  pub position_shared : (name : Name) (texts : List (Rc Name Z))
      → position (λ (text : Rc Name Z). is_same_name name text.value) texts ≡ position (is_same_name name) (names_of texts)
  position_shared name texts =
      position_from-zero (λ (text : Rc Name Z). is_same_name name text.value) texts ∙ position_there name 0 texts
      ∙ sym (position_from-zero (is_same_name name) (names_of texts))
