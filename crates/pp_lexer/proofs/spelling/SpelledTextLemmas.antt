-- A spelled text is made of characters of Unicode, without line breaks, backslashes and comments.
use Rattle.std.proofs.Common.{◌≡◌, ℕ, ℤ, ◌<◌, ◌^◌, List, [], ◌∷◌, ◌++◌, Bool, true, false, not, ◌&&◌, ◌||◌, ◌==◌, refl, arith, codes, pos, if◌then◌else◌}
use Rattle.std.specs.Prelude.{All}
use Rattle.std.specs.Fmt.{decimal}
use Rattle.std.specs.List.{list_all}
use Rattle.std.specs.Ordering.{int_eq}
use Rattle.std.specs.Str.{all_scalars}
use Rattle.std.proofs.Math.Utf8.{scalar, low_scalar}
use Rattle.std.proofs.lemmas.Bool.{and_parts, and_from, not-true}
use Rattle.std.proofs.lemmas.List.Elements.{All-head, All-tail}
use Rattle.unicode_ident.specs.Ident.{is_xid_continue}
use Rattle.unicode_ident.proofs.IdentLemmas.{is_xid_continue-ascii}
use Rattle.pp_lexer.specs.declared.rules.Rules.{Rules}
use Rattle.pp_lexer.specs.declared.token.Integer.{Integer as IntegerLiteral}
use Rattle.pp_lexer.specs.declared.token.Punct.{Punct as Punctuator}
use Rattle.pp_lexer.specs.declared.token.Punct.TheVariants.{AddAssign}
use Rattle.pp_lexer.specs.declared.token.TokenValue.{TokenValue}
use Rattle.pp_lexer.specs.declared.token.TokenValue.TheVariants.{Ident, Integer, Float, Punct, Version, Extension, Pragma}
use Rattle.pp_lexer.specs.Identifiers.{is_start, is_identifier}
use Rattle.pp_lexer.specs.Lines.{is_line_break}
use Rattle.pp_lexer.specs.Numbers.{is_decimal}
use Rattle.pp_lexer.specs.NumberValue.{is_float_text}
use Rattle.pp_lexer.specs.Punctuators.{punctuator}
use Rattle.pp_lexer.specs.Respelling.{IsSpellableBy}
use Rattle.pp_lexer.specs.Spelling.{width_letters, integer_letters, integer_literal, float_literal, spelling, spelled_text}
use Rattle.pp_lexer.specs.Spellings.{nothing, many}
use Rattle.pp_lexer.specs.Surroundings.{begins_with}
use Rattle.pp_lexer.proofs.numbers.DecimalLemmas.{decimal_text}
use Rattle.pp_lexer.proofs.numbers.NumberSetsLemmas.{made_float_text}
use Rattle.pp_lexer.proofs.characters.PlainPhasesLemmas.{is_second, IsPlain, plain-space}
use Rattle.pp_lexer.proofs.words.SetsLemmas.{Implies, IsMadeOf, is_other, made_nothing, made_one, made_many}
use Rattle.pp_lexer.proofs.words.WordsLemmas.{digit_low, ascii_no_start}

-- a character that begins no line break, continuation or comment
abbrev is_calm : ℕ → Bool
is_calm c = is_other 10 c && (is_other 13 c && (is_other 92 c && is_other 47 c))

calm_class : (p : ℕ → Bool) → p 10 ≡ false → p 13 ≡ false → p 92 ≡ false → p 47 ≡ false → Implies p is_calm
calm_class p a b d e c h = grind arith

calm_char : (a b d e other : Bool) → (not a && (not b && (not d && not e))) ≡ true → ((a || b) ≡ false) × (d ≡ false) × ((e && other) ≡ false)
calm_char a b d e other h = grind arith

calm_plain : (w : List ℕ) → list_all is_calm w ≡ true → IsPlain w
calm_plain [] h = tt
calm_plain (c ∷ w) h =
    let b = and_parts (is_calm c) (list_all is_calm w) h in
    let k = calm_char (c == 10) (c == 13) (c == 92) (c == 47) (begins_with is_second w) b.0 in
    (k.0, k.1, k.2, calm_plain w b.1)

all_implied : (p q : ℕ → Bool) → Implies p q → (w : List ℕ) → list_all p w ≡ true → list_all q w ≡ true
all_implied p q h [] e = refl
all_implied p q h (c ∷ w) e = let b = and_parts (p c) (list_all p w) e in and_from (q c) (list_all q w) (h c b.0) (all_implied p q h w b.1)

-- characters of Unicode, one by one
pub scalars_all : (w : List ℕ) → list_all scalar w ≡ true → all_scalars w ≡ true
scalars_all [] h = refl
scalars_all (c ∷ w) h = let b = and_parts (scalar c) (list_all scalar w) h in and_from (scalar c) (all_scalars w) b.0 (scalars_all w b.1)

scalars_append : (v w : List ℕ) → all_scalars v ≡ true → all_scalars w ≡ true → all_scalars (v ++ w) ≡ true
scalars_append [] w h k = k
scalars_append (c ∷ v) w h k = let b = and_parts (scalar c) (all_scalars v) h in and_from (scalar c) (all_scalars (v ++ w)) b.0 (scalars_append v w b.1 k)

all_append : (p : ℕ → Bool) (v w : List ℕ) → list_all p v ≡ true → list_all p w ≡ true → list_all p (v ++ w) ≡ true
all_append p [] w h k = k
all_append p (c ∷ v) w h k = let b = and_parts (p c) (list_all p v) h in and_from (p c) (list_all p (v ++ w)) b.0 (all_append p v w b.1 k)

-- Identifiers

identifier_calm : IsMadeOf is_calm is_identifier
unfolding is_identifier
identifier_calm =
    made_one is_calm is_start (many is_xid_continue nothing)
    (calm_class is_start (ascii_no_start 10 refl refl) (ascii_no_start 13 refl refl) (ascii_no_start 92 refl refl) (ascii_no_start 47 refl refl))
    (made_many is_calm is_xid_continue nothing
    (calm_class is_xid_continue (is_xid_continue-ascii 10 (omega arith)) (is_xid_continue-ascii 13 (omega arith))
    (is_xid_continue-ascii 92 (omega arith)) (is_xid_continue-ascii 47 (omega arith)))
    (made_nothing is_calm))

-- Numbers

-- a character of a number's text: calm, and of Unicode
abbrev is_safe : ℕ → Bool
is_safe c = is_calm c && scalar c

decimal_safe : Implies is_decimal is_safe
decimal_safe c d = and_from (is_calm c) (scalar c) (calm_class is_decimal refl refl refl refl c d) (low_scalar c (omega (arith, digit_low c d)))

float_safe : IsMadeOf is_safe is_float_text
float_safe = made_float_text is_safe decimal_safe refl refl refl refl

letters_safe : (long short : List ℕ) (width : ℤ) → list_all is_safe long ≡ true → list_all is_safe short ≡ true
    → list_all is_safe (width_letters long short width) ≡ true
letters_safe long short width h k = by (int_eq width (pos 64)) (int_eq width (pos 16))
  where
    by : (a b : Bool) → list_all is_safe (if a then long else if b then short else []) ≡ true
    by true b = h
    by false true = k
    by false false = refl

integer_safe : (i : IntegerLiteral) → i.value < 2 ^ 64 → list_all is_safe (integer_literal i) ≡ true
integer_safe i h =
    all_append is_safe (decimal i.value) (integer_letters i.signed i.width)
    (all_implied is_decimal is_safe decimal_safe (decimal i.value) (decimal_text i.value h).digits)
    (by i.signed (letters_safe (codes "l") (codes "s") i.width refl refl))
  where
    by : (signed : Bool) → list_all is_safe (width_letters (codes "l") (codes "s") i.width) ≡ true
        → list_all is_safe (integer_letters signed i.width) ≡ true
    by true e = e
    by false e = e

-- Punctuators

-- whether it is plain
abbrev is_plain : List ℕ → Bool
is_plain [] = true
is_plain (c ∷ cs) = not (is_line_break c) && (not (c == 92) && (not ((c == 47) && begins_with is_second cs) && is_plain cs))

plain_from : (w : List ℕ) → is_plain w ≡ true → IsPlain w
plain_from [] h = tt
plain_from (c ∷ w) h =
    let a = and_parts (not (is_line_break c)) (not (c == 92) && (not ((c == 47) && begins_with is_second w) && is_plain w)) h in
    let b = and_parts (not (c == 92)) (not ((c == 47) && begins_with is_second w) && is_plain w) a.1 in
    let d = and_parts (not ((c == 47) && begins_with is_second w)) (is_plain w) b.1 in
    (not-true (is_line_break c) a.0, not-true (c == 92) b.0, not-true ((c == 47) && begins_with is_second w) d.0, plain_from w d.1)

punctuator_plain : (p : Punctuator) → is_plain (punctuator p) ≡ true
punctuator_plain AddAssign = refl
punctuator_plain _ = refl

punctuator_scalars : (p : Punctuator) → all_scalars (punctuator p) ≡ true
punctuator_scalars AddAssign = refl
punctuator_scalars _ = refl

-- Texts

-- characters of Unicode that pass the phases as they are
pub record IsClean (w : List ℕ) : Type 0 where
  pub plain : IsPlain w
  pub scalars : all_scalars w ≡ true

safe_clean : (w : List ℕ) → list_all is_safe w ≡ true → IsClean w
safe_clean w h = grind (arith, calm_plain, all_implied, scalar, scalars_all)

spelling_clean : (rules : Rules) (v : TokenValue) → IsSpellableBy rules v → IsClean (spelling v)
spelling_clean rules (Ident name) h = record { plain = calm_plain name (identifier_calm name h.0); scalars = h.1 }
spelling_clean rules (Integer i) h = safe_clean (integer_literal i) (integer_safe i h.0)
spelling_clean rules (Float f) h =
    safe_clean (float_literal f.text f.width)
    (all_append is_safe f.text (width_letters (codes "lf") (codes "hf") f.width) (float_safe f.text h.0)
    (letters_safe (codes "lf") (codes "hf") f.width refl refl))
spelling_clean rules (Punct p) h = record { plain = plain_from (punctuator p) (punctuator_plain p); scalars = punctuator_scalars p }
spelling_clean rules (Version v) h = absurd h
spelling_clean rules (Extension e) h = absurd h
spelling_clean rules (Pragma p) h = absurd h

space_clean : (v w : List ℕ) → IsClean v → IsClean w → IsClean (v ++ 32 ∷ w)
space_clean v w h k = record { plain = plain-space v w h.plain k.plain; scalars = scalars_append v (32 ∷ w) h.scalars k.scalars }

-- the spellings of values with spaces between them
pub text_clean : (rules : Rules) (values : List TokenValue) → All (IsSpellableBy rules) values → IsClean (spelled_text values)
text_clean rules [] h = record { plain = tt; scalars = refl }
text_clean rules (v ∷ []) h = spelling_clean rules v (All-head (IsSpellableBy rules) v [] h)
text_clean rules (v ∷ u ∷ values) h =
    space_clean (spelling v) (spelled_text (u ∷ values)) (spelling_clean rules v (All-head (IsSpellableBy rules) v (u ∷ values) h))
    (text_clean rules (u ∷ values) (All-tail (IsSpellableBy rules) v (u ∷ values) h))
