-- Names as the keys of a map.
use Rattle.std.proofs.Common.{◌≡◌, ℕ, Bool, true, false, if◌then◌else◌, List, [], ◌∷◌, Option, refl, sym, ◌∙◌, ap}
use Rattle.std.specs.Cmp.Lexicographic.{slice_cmp, bytes_decides}
use Rattle.std.specs.Map.{lookup, KeepsOthers, IsKeyTest, AreApart}
use Rattle.std.specs.Ordering.{eq_by_cmp, is_eq, nat_cmp}
use Rattle.std.specs.Str.{chars, IsUtf8}
use Rattle.std.specs.declared.string.String.{String}
use Rattle.std.specs.String.{string_bytes, string_cmp}
use Rattle.std.proofs.lemmas.Map.Text.{is_eq-slice_cmp}
use Rattle.std.proofs.lemmas.Str.{IsUtf8-string_bytes}
use Rattle.pp_lexer.proofs.values.TextLemmas.{chars_tested}
use Rattle.pp_model.specs.Names.{Name, is_same_name}

-- names of which `==` says so are the same
pub names_same : (x y : Name) → is_same_name x y ≡ true → x ≡ y
names_same x y h = (bytes_decides x y).0 h

pub lookup_alike : {K X : Type 0} (f g : K → Bool) → ((k : K) → f k ≡ g k) → (es : List (K × X)) → lookup f es ≡ lookup g es
lookup_alike f g h [] = refl
lookup_alike f g h (e ∷ es) = rw (h e.0, lookup_alike f g h es) refl

abbrev pub has_name : {K : Type 0} → (K → Name) → Name → K → Bool
has_name name_of name key = is_same_name name (name_of key)

-- a change at the keys of one name, in what names find
module _ {K : Type 0} (name_of : K → Name) (eq : K → K → Bool) (same : (x y : K) → eq x y ≡ is_same_name (name_of x) (name_of y))
    (name : Name) (test : K → Bool) (tests : (k : K) → test k ≡ has_name name_of name k) where
  tests_keys : (other : Name) → IsKeyTest eq (has_name name_of other)
  tests_keys other x y h = ap (λ n. is_same_name n (name_of y)) (names_same other (name_of x) h) ∙ sym (same x y)

  are_apart : (other : Name) → is_same_name other name ≡ false → AreApart test (has_name name_of other)
  are_apart other apart k h = ap (is_same_name other) (sym (names_same name (name_of k) (sym (tests k) ∙ h))) ∙ apart

  pub lookup_changed : {X : Type 0} (old new : List (K × X)) (change : Option X) → lookup test new ≡ change → KeepsOthers eq test old new
      → (other : Name) (b : Bool) → is_same_name other name ≡ b
      → lookup (has_name name_of other) new ≡ (if b then change else lookup (has_name name_of other) old)
  unfolding KeepsOthers
  lookup_changed old new change found keeps other true e =
      rw (names_same other name e) (sym (lookup_alike test (has_name name_of name) tests new) ∙ found)
  lookup_changed old new change found keeps other false e = keeps (has_name name_of other) (tests_keys other) (are_apart other e)

-- keys that are texts: the bytes of two are equal where their characters are
abbrev pub text_name : {Z : Type 0} → String Z → Name
text_name key = chars (string_bytes key)

pub texts_same : {Z : Type 0} (x y : String Z) → eq_by_cmp string_cmp x y ≡ is_same_name (text_name x) (text_name y)
texts_same x y = is_eq-slice_cmp (string_bytes x) (string_bytes y)
    ∙ chars_tested (string_bytes x) (string_bytes y) (IsUtf8-string_bytes x) (IsUtf8-string_bytes y)

pub text_tests : {Z : Type 0} (bs : List ℕ) → IsUtf8 bs → (k : String Z) → is_eq (slice_cmp nat_cmp bs (string_bytes k)) ≡ has_name text_name (chars bs) k
text_tests bs u k = is_eq-slice_cmp bs (string_bytes k) ∙ chars_tested bs (string_bytes k) u (IsUtf8-string_bytes k)
