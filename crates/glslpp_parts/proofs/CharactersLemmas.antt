-- The characters of texts that are written.
use Rattle.std.proofs.Common.{◌≡◌, ◌∙◌, ℕ, Bool, true, false, ◌&&◌, if◌then◌else◌, List, [], ◌∷◌, ◌++◌, refl, ap, sym, append-nil, ltb-true}
use Rattle.std.specs.Prelude.{Result, Ok, Err, OnOk, is_ok, nat_lt}
use Rattle.std.specs.Char.{IsScalar, encode_utf8}
use Rattle.std.specs.List.{list_all}
use Rattle.std.specs.Str.{chars, IsUtf8, IsAscii}
use Rattle.std.proofs.lemmas.Str.{chars-append, chars-nil, chars-IsAscii, chars_past_char, IsUtf8-encode}
use Rattle.std.proofs.lemmas.Str.Ascii.{IsAscii-nil, IsAscii-cons}

and_parts : (a b : Bool) → (a && b) ≡ true → (a ≡ true) × (b ≡ true)
and_parts true b e = (refl, e)
and_parts false b e = cc

ascii : (bytes : List ℕ) → list_all (λ b. nat_lt b 128) bytes ≡ true → IsAscii bytes
ascii [] e = IsAscii-nil
ascii (b ∷ bytes) e = let h = and_parts (nat_lt b 128) (list_all (λ b. nat_lt b 128) bytes) e in IsAscii-cons b bytes (ltb-true b 128 h.0) (ascii bytes h.1)

-- of ASCII text the characters are the bytes
pub chars_same : (bytes : List ℕ) → list_all (λ b. nat_lt b 128) bytes ≡ true → chars bytes ≡ bytes
chars_same bytes e = chars-IsAscii bytes (ascii bytes e)

pub chars_one : (c : ℕ) → IsScalar c → chars (encode_utf8 c) ≡ c ∷ []
chars_one c is = chars_past_char (encode_utf8 c) [] c (IsUtf8-encode c is) (sym (append-nil (encode_utf8 c))) ∙ ap (λ cs. c ∷ cs) chars-nil

-- what `push` and `push_str` say of bytes, as characters
pub chars_pushed : {T E : Type 0} (r : Result T E) (before after more cs : List ℕ) → IsUtf8 before → after ≡ (if is_ok r then before ++ more else before)
    → chars more ≡ cs → OnOk r (chars after ≡ chars before ++ cs)
chars_pushed (Ok x) before after more cs is e m = ap chars e ∙ chars-append before more is ∙ ap (λ x. chars before ++ x) m
chars_pushed (Err x) before after more cs is e m = tt

-- the same where it is known to have succeeded
pub chars_appended : (before after more cs : List ℕ) → IsUtf8 before → after ≡ before ++ more → chars more ≡ cs → chars after ≡ chars before ++ cs
chars_appended before after more cs is e m = ap chars e ∙ chars-append before more is ∙ ap (λ x. chars before ++ x) m

-- what follows from a fact of success
pub on_ok : {T E : Type 0} (r : Result T E) (P Q : Type 0) → (P → Q) → OnOk r P → OnOk r Q
on_ok (Ok x) P Q f h = f h
on_ok (Err x) P Q f h = tt
