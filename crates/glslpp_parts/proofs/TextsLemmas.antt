-- The texts of a run, by their numbers.
use Rattle.std.proofs.Common.{◌≡◌, ◌≢◌, ◌∙◌, ◌+◌, ℕ, zero, suc, List, [], ◌∷◌, length, get_or, map, refl, sym, ap, add-one}
use Rattle.std.specs.Borrow.{Bor}
use Rattle.std.specs.Prelude.{Option, Some, None, option_map, slice_get}
use Rattle.std.specs.Option.{option_copied}
use Rattle.std.specs.Slice.{IsItemAt}
use Rattle.std.proofs.lemmas.Option.{slice_get_past, slice_get_read, slice_get-map}
use Rattle.glslpp_parts.specs.declared.texts.Added.{Added as Kept}
use Rattle.glslpp_parts.specs.Texts.{Added}
use Rattle.glslpp_parts.specs.inner.Added.{added_of, added_at}

-- what stands at the number of an added text
pub at_added : {B : Type 0} (f : Added → B) (xs : List Added) (n : ℕ) (a : Added) (x d : B) → added_at xs n ≡ Some a
    → get_or (x ∷ map f xs) n d ≡ f a
at_added f xs zero a x d is = cc
at_added f [] (suc n) a x d is = cc
at_added f (b ∷ xs) (suc zero) a x d is = cc
at_added f (b ∷ xs) (suc (suc n)) a x d is = at_added f xs (suc n) a (f b) d is

-- nothing stands past the added texts
past_all : {B : Type 0} (f : Added → B) (xs : List Added) (n : ℕ) (d : B) → slice_get xs n ≡ None
    → get_or (map f xs) n d ≡ d
past_all f [] n d is = refl
past_all f (b ∷ xs) zero d is = cc
past_all f (b ∷ xs) (suc n) d is = past_all f xs n d is

-- the same of the number of a text
pub past_added : {B : Type 0} (f : Added → B) (xs : List Added) (n : ℕ) (x d : B) → n ≢ 0 → added_at xs n ≡ None
    → get_or (x ∷ map f xs) n d ≡ d
past_added f xs zero x d other is = absurd (other refl)
past_added f xs (suc n) x d other is = past_all f xs n d is

-- a copy of what a list lends
lent_copied : {X : Type 0} (xs : List X) (i : ℕ) (r : Option (Bor X)) → IsItemAt xs i r → option_copied r ≡ slice_get xs i
lent_copied xs i None lent = sym (slice_get_past xs i lent.3)
lent_copied xs i (Some x) lent = sym (slice_get_read xs (length xs) i x.now refl lent.3.0 lent.1)

-- the text with a number is kept before it
pub added_lent : (kept : List Kept) (added : List Added) (n i : ℕ) (r : Option (Bor Kept)) (o : Option Kept) → n ≡ i + 1
    → added ≡ map added_of kept → IsItemAt kept i r → o ≡ option_copied r → option_map added_of o ≡ added_at added n
added_lent kept added n i r o is all lent copied =
    ap (option_map added_of) (copied ∙ lent_copied kept i r lent) ∙ sym (slice_get-map added_of kept i)
    ∙ sym (ap (λ (xs : List Added). slice_get xs i) all) ∙ sym (ap (added_at added) (is ∙ add-one i))
