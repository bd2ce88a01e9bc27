-- The characters of a text that grows or is compared.
use Rattle.std.proofs.Common.{◌≡◌, ◌++◌, ◌∷◌, [], ℕ, List, sym, ◌∙◌, ap, nat_eq, refl, length, ◌==◌, arith}
use Rattle.std.specs.Prelude.{Result, Ok, Err, is_ok, OnOk, OnErr, if◌then◌else◌}
use Rattle.std.specs.Bool.{Decides}
use Rattle.std.specs.Char.{IsScalar}
use Rattle.std.specs.Str.{chars, IsUtf8}
use Rattle.std.proofs.lemmas.Str.{chars-append, chars-nil, chars_past_char, IsUtf8-encode, encodes-chars}
use Rattle.std.proofs.lemmas.List.{append-nil}
use lib.Utf8.{encode, encodes}
use Rattle.std.specs.Cmp.Lexicographic.{pointwise, bytes_decides}
use Rattle.std.proofs.lemmas.Bool.Decides.{same_from_decides, Decides-like}

pub chars-encode : (c : ℕ) → IsScalar c → chars (encode c) ≡ c ∷ []
chars-encode c s = chars_past_char (encode c) [] c (IsUtf8-encode c s) (sym (append-nil (encode c))) ∙ ap (λ t. c ∷ t) chars-nil

pub chars-push : (bs : List ℕ) (c : ℕ) → IsUtf8 bs → IsScalar c → chars (bs ++ encode c) ≡ chars bs ++ c ∷ []
chars-push bs c u s = chars-append bs (encode c) u ∙ ap (λ t. chars bs ++ t) (chars-encode c s)

-- a text after a push, which memory may have refused
pub chars-pushed : {T E : Type 0} (r : Result T E) (old new : List ℕ) (c : ℕ) → IsUtf8 old → IsScalar c
    → new ≡ (if is_ok r then old ++ encode c else old) → OnOk r (chars new ≡ chars old ++ c ∷ []) × OnErr r (chars new ≡ chars old)
chars-pushed (Ok x) old new c u s e = (ap chars e ∙ chars-push old c u s, tt)
chars-pushed (Err d) old new c u s e = (tt, ap chars e)

-- two texts have one list of bytes where they have one list of characters
pub chars_same : (xs ys : List ℕ) → IsUtf8 xs → IsUtf8 ys → chars xs ≡ chars ys → xs ≡ ys
chars_same xs ys u v e = sym (encodes-chars xs u) ∙ ap encodes e ∙ encodes-chars ys v

pub chars_tested : (xs ys : List ℕ) → IsUtf8 xs → IsUtf8 ys → pointwise nat_eq xs ys ≡ pointwise nat_eq (chars xs) (chars ys)
chars_tested xs ys u v =
    same_from_decides _ _
    (bytes_decides xs ys)
    (Decides-like _ (chars_same xs ys u v) (ap chars) (bytes_decides (chars xs) (chars ys)))

pub chars-empty : (bs : List ℕ) → IsUtf8 bs → Decides (length bs == 0) (chars bs ≡ [])
chars-empty [] u = (λ _. chars-nil, λ _. refl)
chars-empty (b ∷ bs) u = grind (arith, chars_same, chars-nil)
