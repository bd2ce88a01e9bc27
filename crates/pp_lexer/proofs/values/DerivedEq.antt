-- A derived `==` of an enum decides equality where the `==` of each variant's fields does.
use Rattle.std.proofs.Common.{◌≡◌, Bool, true, false, List, [], ◌∷◌, refl, ap}
use Rattle.std.specs.Bool.{Decides}
use Rattle.std.proofs.lemmas.Bool.{false≢true}
use Rattle.std.proofs.lemmas.Bool.Decides.{Decides-like}
use mathlib.Core.Logic.{inl, inr}
use denote.Struct.Field.{Field}
use denote.Struct.Values.{Values}
use denote.Enum.Compared.{Each, by}
use denote.Enum.Declared.{Choice, Record, values_one, left_or, right_or}

-- the test of each variant's fields decides whether they are equal
abbrev pub EachDecides : (variants : List (List Field)) → Each Bool variants → Type 0
EachDecides [] tests = Unit {0}
EachDecides (fields ∷ variants) tests =
    ((x y : Values fields) → Decides (tests.0 x y) (x ≡ y)) × EachDecides variants tests.1

choices_decide : (variants : List (List Field)) (tests : Each Bool variants) → EachDecides variants tests → (c d : Choice variants)
    → Decides (by false false variants tests c d) (c ≡ d)
choices_decide [] tests each c d = absurd c
choices_decide (fields ∷ variants) tests each (inl x) (inl y) =
    Decides-like (tests.0 x y) (ap inl) (ap (left_or x)) (each.0 x y)
choices_decide (fields ∷ variants) tests each (inl x) (inr d) = (λ h. absurd (false≢true h), λ e. cc)
choices_decide (fields ∷ variants) tests each (inr c) (inl y) = (λ h. absurd (false≢true h), λ e. cc)
choices_decide (fields ∷ variants) tests each (inr c) (inr d) =
    Decides-like (by false false variants tests.1 c d) (ap inr) (ap (right_or c)) (choices_decide variants tests.1 each.1 c d)

pub enum_decides : (enum : Record) (tests : Each Bool enum.parts) → EachDecides enum.parts tests → (x y : enum.D)
    → Decides (by false false enum.parts tests (enum.as_values x) (enum.as_values y)) (x ≡ y)
enum_decides enum tests each x y =
    Decides-like _ (values_one enum x y) (ap enum.as_values) (choices_decide enum.parts tests each (enum.as_values x) (enum.as_values y))

-- a variant with no field
pub bare_decides : (x y : Values []) → Decides true (x ≡ y)
bare_decides x y = (λ _. refl, λ _. refl)

-- a variant with one field
pub one_decides : {A : Type 0} (test : A → A → Bool) → ((x y : A) → Decides (test x y) (x ≡ y)) → (x y : A × Unit {0}) → Decides (test x.0 y.0) (x ≡ y)
one_decides test decides x y = Decides-like _ (λ e i. (e i, tt)) (ap (λ p. p.0)) (decides x.0 y.0)
