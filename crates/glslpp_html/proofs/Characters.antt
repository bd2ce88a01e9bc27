-- The characters of texts that are written.
use Rattle.std.proofs.Common.{◌≡◌, ◌∙◌, ℕ, Bool, true, false, ◌&&◌, if◌then◌else◌, List, [], ◌∷◌, ◌++◌, refl, ap, sym, append_assoc, append-nil, ltb-true}
use Rattle.std.specs.Prelude.{Result, Ok, Err, OnOk, IfOk, is_ok, nat_lt}
use Rattle.std.specs.Char.{IsScalar, encode_utf8}
use Rattle.std.specs.List.{list_all, flat_map}
use Rattle.std.specs.Str.{chars, IsUtf8, IsAscii}
use Rattle.std.proofs.Common.{inl, inr}
use Rattle.std.proofs.lemmas.Bool.Decides.{eqb_tells}
use Rattle.std.proofs.lemmas.Grind.{flat_map-append}
use Rattle.std.proofs.lemmas.Str.{chars-append, chars-nil, chars-IsAscii, chars_past_char, IsUtf8-encode}
use Rattle.std.proofs.lemmas.Str.Ascii.{IsAscii-nil, IsAscii-cons}
use Rattle.glslpp_html.specs.Shown.{link_character}

and_parts : (a b : Bool) → (a && b) ≡ true → (a ≡ true) × (b ≡ true)
and_parts true b e = (refl, e)
and_parts false b e = cc

ascii : (bytes : List ℕ) → list_all (λ b. nat_lt b 128) bytes ≡ true → IsAscii bytes
ascii [] e = IsAscii-nil
ascii (b ∷ bytes) e = let h = and_parts (nat_lt b 128) (list_all (λ b. nat_lt b 128) bytes) e in IsAscii-cons b bytes (ltb-true b 128 h.0) (ascii bytes h.1)

-- of ASCII text the characters are the bytes
pub chars_same : (bytes : List ℕ) → list_all (λ b. nat_lt b 128) bytes ≡ true → chars bytes ≡ bytes
chars_same bytes e = chars-IsAscii bytes (ascii bytes e)

pub chars_one : (c : ℕ) → IsScalar c → chars (encode_utf8 c) ≡ c ∷ []
chars_one c is = chars_past_char (encode_utf8 c) [] c (IsUtf8-encode c is) (sym (append-nil (encode_utf8 c))) ∙ ap (λ cs. c ∷ cs) chars-nil

-- what `push` and `push_str` say of bytes, as characters
pub chars_pushed : {T E : Type 0} (r : Result T E) (before after more cs : List ℕ) → IsUtf8 before → after ≡ (if is_ok r then before ++ more else before)
    → chars more ≡ cs → OnOk r (chars after ≡ chars before ++ cs)
chars_pushed (Ok x) before after more cs is e m = ap chars e ∙ chars-append before more is ∙ ap (λ x. chars before ++ x) m
chars_pushed (Err x) before after more cs is e m = tt

-- the same where it is known to have succeeded
pub chars_appended : (before after more cs : List ℕ) → IsUtf8 before → after ≡ before ++ more → chars more ≡ cs → chars after ≡ chars before ++ cs
chars_appended before after more cs is e m = ap chars e ∙ chars-append before more is ∙ ap (λ x. chars before ++ x) m

-- what is pushed after something else
pub two_pushed : {T E : Type 0} (r : Result T E) (old now new first rest : List ℕ) → chars now ≡ chars old ++ first
    → OnOk r (chars new ≡ chars now ++ rest) → OnOk r (chars new ≡ chars old ++ (first ++ rest))
two_pushed (Ok x) old now new first rest a b = b ∙ ap (λ t. t ++ rest) a ∙ append_assoc (chars old) first rest
two_pushed (Err x) old now new first rest a b = tt

-- one more character of a text, each of which is written by a function
pub one_more : (f : ℕ → List ℕ) (old now new yielded : List ℕ) (c : ℕ) → now ≡ old ++ flat_map f yielded → new ≡ now ++ f c
    → new ≡ old ++ flat_map f (yielded ++ c ∷ [])
one_more f old now new yielded c so_far e =
    e ∙ ap (λ t. t ++ f c) so_far ∙ append_assoc old (flat_map f yielded) (f c)
    ∙ ap (λ t. old ++ t) (ap (λ t. flat_map f yielded ++ t) (sym (append-nil (f c))) ∙ sym (flat_map-append f yielded (c ∷ [])))

-- what follows from a fact of success
pub on_ok : {T E : Type 0} (r : Result T E) (P Q : Type 0) → (P → Q) → OnOk r P → OnOk r Q
on_ok (Ok x) P Q f h = f h
on_ok (Err x) P Q f h = tt

pub if_ok : {T E : Type 0} (r : Result T E) (P Q : T → Type 0) → ((x : T) → P x → Q x) → IfOk r P → IfOk r Q
if_ok (Ok x) P Q f h = f x h
if_ok (Err x) P Q f h = tt

-- a character that stands for itself in a link
pub linked_itself : (c : ℕ) → (c ≡ 37 → ⊥) → (c ≡ 35 → ⊥) → (c ≡ 63 → ⊥) → (c ≡ 92 → ⊥) → link_character c ≡ c ∷ []
linked_itself c a b d f = elim (eqb_tells c 37) [
  | inl h ↦ absurd (a h.1)
  | inr h ↦ elim (eqb_tells c 35) [
    | inl k ↦ absurd (b k.1)
    | inr k ↦ elim (eqb_tells c 63) [
      | inl m ↦ absurd (d m.1)
      | inr m ↦ elim (eqb_tells c 92) [ inl n ↦ absurd (f n.1) | inr n ↦ rw (h.0, k.0, m.0, n.0) refl ]
    ]
  ]
]
