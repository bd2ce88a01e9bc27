-- Macros of extensions that are put one after another.
use Rattle.std.proofs.Common.{◌≡◌, ◌∙◌, ◌<◌, ◌+◌, ◌++◌, ◌∷◌, [], ℕ, List, drop, get_or, length, map, sym, ap, append_assoc, drop-cons, add-one}
use Rattle.std.specs.Prelude.{Option, Some, codes}
use Rattle.std.specs.Borrow.{Bor}
use Rattle.std.proofs.lemmas.List.{map-append}
use Rattle.glslpp_parts.specs.declared.changes.Change.{Change}
use Rattle.glslpp_parts.specs.declared.changes.Change.TheVariants.{Define}
use Rattle.glslpp_parts.specs.Extensions.{as_defined}
use Rattle.glslpp_parts.specs.Version.{said, said_of}

-- the first of those that are left is put, and then the others
module _ (names : List (Bor (List ℕ))) (i : ℕ) (d content : Bor (List ℕ)) (h : i < length names) (one : content.now ≡ codes "1") where
  first : List ℕ × Option (List ℕ)
  first = as_defined (get_or names i d)

  left : first ∷ map as_defined (drop (i + 1) names) ≡ map as_defined (drop i names)
  unfolding first
  left = ap (λ n. first ∷ map as_defined (drop n names)) (add-one i) ∙ sym (ap (map as_defined) (drop-cons names i d h))

  put : (old new : List Change) → new ≡ old ++ Define (get_or names i d) content ∷ [] → said new ≡ said old ++ first ∷ []
  unfolding first
  put old new e =
      ap said e ∙ map-append said_of old (Define (get_or names i d) content ∷ [])
      ∙ ap (λ (text : List ℕ). said old ++ ((get_or names i d).now, Some text) ∷ []) one

  pub one_put : (old new : List Change) (all : List (List ℕ × Option (List ℕ))) → new ≡ old ++ Define (get_or names i d) content ∷ []
      → said old ++ map as_defined (drop i names) ≡ all → said new ++ map as_defined (drop (i + 1) names) ≡ all
  one_put old new all e rest =
      ap (λ (s : List (List ℕ × Option (List ℕ))). s ++ map as_defined (drop (i + 1) names)) (put old new e)
      ∙ append_assoc (said old) (first ∷ []) (map as_defined (drop (i + 1) names)) ∙ ap (λ (s : List (List ℕ × Option (List ℕ))). said old ++ s) left ∙ rest
