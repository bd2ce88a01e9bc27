-- Texts that are written piece by piece.
use Rattle.std.proofs.Common.{◌≡◌, ◌∙◌, ◌+◌, ◌<◌, ℕ, List, [], ◌∷◌, ◌++◌, ap, append_assoc, sym, map, length, get_or, drop, refl, nat_lt, true}
use Rattle.std.specs.Char.{encode_utf8}
use Rattle.std.specs.List.{flat_map, list_all}
use Rattle.std.specs.Str.{chars, IsUtf8}
use Rattle.std.proofs.lemmas.List.{at_drop_more}
use Rattle.glslpp_parts.proofs.CharactersLemmas.{chars_appended, chars_same}

-- one more of the pieces that are left
pub one_more_piece : {X : Type 0} (f : List ℕ → List ℕ) (g : X → List ℕ) (xs : List X) (i : ℕ) (d : X) (whole text new : List ℕ) → i < length xs
    → new ≡ text ++ f (g (get_or xs i d)) → text ++ flat_map f (map g (drop i xs)) ≡ whole → new ++ flat_map f (map g (drop (i + 1) xs)) ≡ whole
one_more_piece f g xs i d whole text new l n e =
    ap (λ t. t ++ flat_map f (map g (drop (i + 1) xs))) n ∙ append_assoc text (f (g (get_or xs i d))) (flat_map f (map g (drop (i + 1) xs)))
    ∙ ap (λ ys. text ++ ys) (sym (at_drop_more (λ ys. flat_map f (map g ys)) xs i d l)) ∙ e

-- an ASCII character is appended
pub letter_appended : (before after : List ℕ) (c : ℕ) → IsUtf8 before → after ≡ before ++ encode_utf8 c → encode_utf8 c ≡ c ∷ []
    → list_all (λ b. nat_lt b 128) (c ∷ []) ≡ true → chars after ≡ chars before ++ c ∷ []
letter_appended before after c is e a small = chars_appended before after (encode_utf8 c) (c ∷ []) is e (ap chars a ∙ chars_same (c ∷ []) small)

-- a word after an ASCII character
pub word_appended : (before middle after word : List ℕ) (c : ℕ) → IsUtf8 middle → chars middle ≡ chars before ++ c ∷ [] → after ≡ middle ++ word
    → chars after ≡ chars before ++ (c ∷ [] ++ chars word)
word_appended before middle after word c is m e =
    chars_appended middle after word (chars word) is e refl ∙ ap (λ t. t ++ chars word) m ∙ append_assoc (chars before) (c ∷ []) (chars word)

pub four_parts : (old a b c : List ℕ) → ((old ++ a) ++ b) ++ c ≡ old ++ ((a ++ b) ++ c)
four_parts old a b c = simp append_assoc
