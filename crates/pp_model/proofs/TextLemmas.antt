-- Texts are the same if their characters are.
use Rattle.std.proofs.Common.{◌≡◌, ◌∙◌, ℕ, suc, false, ◌&&◌, List, [], ◌∷◌, length, nat_eq, refl, sym, ap}
use Rattle.std.specs.Cmp.Lexicographic.{pointwise}
use Rattle.std.proofs.lemmas.Bool.{ne_eqb}
use Rattle.std.proofs.Math.Bool.{and-false}
use Rattle.std.specs.Str.{chars}
use Rattle.std.proofs.lemmas.Str.{chars-IsAscii}
use Rattle.std.proofs.Common.{rules}
use Rattle.std.specs.Prelude.{codes}
use Rattle.pp_model.specs.Names.{defined_name, line_name}

-- texts of letters are their own characters
pub chars-defined : chars (codes "defined") ≡ defined_name
chars-defined = chars-IsAscii (codes "defined") (search rules)

pub chars-line : chars (codes "__LINE__") ≡ line_name
chars-line = chars-IsAscii (codes "__LINE__") (search rules)

lists_apart : (xs ys : List ℕ) → (length xs ≡ length ys → ⊥) → pointwise nat_eq xs ys ≡ false
lists_apart [] [] apart = absurd (apart refl)
lists_apart [] (y ∷ ys) apart = refl
lists_apart (x ∷ xs) [] apart = refl
lists_apart (x ∷ xs) (y ∷ ys) apart = ap (λ b. nat_eq x y && b) (lists_apart xs ys (λ same. apart (ap suc same))) ∙ and-false (nat_eq x y)

-- texts of different lengths are apart
pub apart_by_length : (xs ys : List ℕ) → (length xs ≡ length ys → ⊥) → nat_eq (length xs) (length ys) ≡ pointwise nat_eq xs ys
apart_by_length xs ys apart = ne_eqb (length xs) (length ys) apart ∙ sym (lists_apart xs ys apart)
