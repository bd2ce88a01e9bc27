-- A text that grows token by token.
use Rattle.std.proofs.Common.{◌≡◌, ℕ, ℤ, codes, ◌/◌, ◌%◌, map, lit≤, ◌^◌, ◌<◌, false, if◌then◌else◌, List, [], ◌∷◌, ◌++◌, Result, Ok, Err, OnOk, refl, sym, ◌∙◌, ap, append_assoc, length, drop, get_or, ◌+◌, ◌≤◌, arith, suc, subst, All}
use Rattle.std.specs.Prelude.{is_ok, OnErr}
use Rattle.std.proofs.Math.Nat.{le_refl}
use Rattle.std.specs.Fmt.{decimal}
use Rattle.std.specs.Io.{StartsWith}
use Rattle.std.specs.Str.{chars, IsUtf8, encode_utf8_all}
use Rattle.std.specs.String.Boundary.{IsSplitPoint}
use Rattle.std.proofs.lemmas.List.{append-nil, map-append, at_drop_more, at_drop_all, take_at, take_all, length-take}
use Rattle.std.proofs.lemmas.Fmt.{IsAscii-decimal, decimal-digits_of}
use Rattle.std.proofs.lemmas.Int.Digits.{digits_of_step}
use Rattle.std.specs.Int.Digits.{digits_of}
use Rattle.std.proofs.lemmas.Str.{chars-append, chars-IsAscii, chars-nil, encodes-append, encodes-chars, IsCharBoundary-from_take}
use Rattle.pp_lexer.specs.Punctuators.{punctuator}
use Rattle.pp_lexer.specs.Spelling.{width_letters, integer_letters, integer_literal, spelling, spelled_text, values_of}
use Rattle.pp_lexer.specs.declared.token.Integer.{Integer}
use Rattle.pp_lexer.specs.declared.token.Punct.{Punct}
use Rattle.pp_lexer.specs.declared.token.Punct.TheVariants.{AddAssign}
use Rattle.pp_lexer.specs.TokenValue.{is_ordinary}
use Rattle.pp_lexer.specs.declared.token.Token.{Token}
use Rattle.pp_lexer.specs.declared.token.TokenValue.{TokenValue}
use Rattle.pp_lexer.proofs.spelling.ItemTextLemmas.{integer_letters_ascii, float_letters_ascii}
use Rattle.pp_lexer.specs.declared.token.TokenValue.TheVariants.{Ident, Integer as IntegerValue, Float, Punct as PunctValue}

-- each punctuator is plain ASCII
pub chars-punctuator : (p : Punct) → chars (punctuator p) ≡ punctuator p
unfolding chars
chars-punctuator AddAssign = refl
chars-punctuator _ = refl

-- so are the digits of a number
pub chars-decimal : (n : ℕ) → n < 2 ^ 64 → chars (decimal n) ≡ decimal n
chars-decimal n h = chars-IsAscii (decimal n) (IsAscii-decimal n h)

-- an integer written after a text
module _ (i : Integer) (old digits : List ℕ) (u : IsUtf8 old) (fits : i.value < 2 ^ 64) (written : digits ≡ old ++ decimal i.value) where
  pub chars-digits : chars digits ≡ chars old ++ decimal i.value
  chars-digits = ap chars written ∙ chars-append old (decimal i.value) u ∙ ap (λ t. chars old ++ t) (chars-decimal i.value fits)

-- and its letters after these
pub integer-pushed : {E : Type 0} (r : Result (Unit {0}) E) (i : Integer) (new digits old letters : List ℕ) → IsUtf8 old → IsUtf8 digits
    → i.value < 2 ^ 64 → digits ≡ old ++ decimal i.value → letters ≡ integer_letters i.signed i.width
    → new ≡ (if is_ok r then digits ++ letters else digits) → OnOk r (chars new ≡ chars old ++ integer_literal i)
integer-pushed (Ok x) i new digits old letters u v fits written l e =
    let same : chars letters ≡ integer_letters i.signed i.width =
    ap chars l ∙ chars-IsAscii (integer_letters i.signed i.width) (integer_letters_ascii i.signed i.width) in
    ap chars e ∙ chars-append digits letters v ∙ (λ k. chars-digits i old digits u fits written k ++ same k)
    ∙ append_assoc (chars old) (decimal i.value) (integer_letters i.signed i.width)
integer-pushed (Err x) i new digits old letters u v fits written l e = tt

-- two texts put after another
pub both-pushed : {E : Type 0} (r : Result (Unit {0}) E) (new mid old first second : List ℕ) → IsUtf8 old → IsUtf8 mid → mid ≡ old ++ first
    → new ≡ (if is_ok r then mid ++ second else mid) → OnOk r (chars new ≡ chars old ++ (chars first ++ chars second))
both-pushed (Ok x) new mid old first second u v m e =
    ap chars e ∙ chars-append mid second v ∙ ap (λ t. t ++ chars second) (ap chars m ∙ chars-append old first u)
    ∙ append_assoc (chars old) (chars first) (chars second)
both-pushed (Err x) new mid old first second u v m e = tt

-- the letters of a float's width are plain ASCII
pub chars-float_letters : (width : ℤ) → chars (width_letters (codes "lf") (codes "hf") width) ≡ width_letters (codes "lf") (codes "hf") width
chars-float_letters width = chars-IsAscii (width_letters (codes "lf") (codes "hf") width) (float_letters_ascii width)

-- a text put after another puts its characters after those of the other
pub chars-pushed : {E : Type 0} (r : Result (Unit {0}) E) (new old more : List ℕ) → IsUtf8 old → new ≡ (if is_ok r then old ++ more else old)
    → OnOk r (chars new ≡ chars old ++ chars more)
chars-pushed (Ok x) new old more u e = ap chars e ∙ chars-append old more u
chars-pushed (Err x) new old more u e = tt

-- so does a space after a word
pub space_pushed : {E : Type 0} (r : Result (Unit {0}) E) (new mid old word : List ℕ) → IsUtf8 mid → new ≡ (if is_ok r then mid ++ 32 ∷ [] else mid)
    → chars mid ≡ chars old ++ word → OnOk r (chars new ≡ chars old ++ (word ++ 32 ∷ []))
unfolding chars
space_pushed (Ok x) new mid old word u e f = ap chars e ∙ chars-append mid (32 ∷ []) u ∙ ap (λ t. t ++ 32 ∷ []) f ∙ append_assoc (chars old) word (32 ∷ [])
space_pushed (Err x) new mid old word u e f = tt

-- or nothing, if there was no room
pub not-pushed : {E : Type 0} (r : Result (Unit {0}) E) (new old more : List ℕ) → new ≡ (if is_ok r then old ++ more else old) → OnErr r (new ≡ old)
not-pushed (Ok x) new old more e = tt
not-pushed (Err x) new old more e = e

-- the spellings after a first one, each after a space
abbrev pub spaced_spellings : List TokenValue → List ℕ
spaced_spellings [] = []
spaced_spellings (v ∷ vs) = 32 ∷ (spelling v ++ spaced_spellings vs)

-- the first is spelled in front of them
pub spelled_text-cons : (v : TokenValue) (vs : List TokenValue) → spelled_text (v ∷ vs) ≡ spelling v ++ spaced_spellings vs
spelled_text-cons v [] = sym (append-nil (spelling v))
spelled_text-cons v (w ∷ ws) = ap (λ t. spelling v ++ (32 ∷ t)) (spelled_text-cons w ws)

-- a text to which the tokens after the first are added one by one
pub spelled_none : (text : List ℕ) (ts : List Token) → length ts ≡ 0 → text ≡ [] → chars text ≡ spelled_text (values_of ts)
spelled_none text [] e f = rw f chars-nil
spelled_none text (t ∷ ts) e f = absurd (omega arith)

pub spelled_first : (text start : List ℕ) (ts others : List Token) (t : Token) → ts ≡ t ∷ others → start ≡ [] → chars text ≡ chars start ++ spelling t.value
    → chars text ++ spaced_spellings (values_of others) ≡ spelled_text (values_of ts)
spelled_first text start ts others t e f g = rw (e, g, f, chars-nil) (sym (spelled_text-cons t.value (values_of others)))

module _ (whole text : List ℕ) (others : List Token) (i : ℕ) (so_far : chars text ++ spaced_spellings (values_of (drop i others)) ≡ whole) where
  pub spelled_more : (mid new : List ℕ) (t : Token) → IsUtf8 text → i < length others → t ≡ get_or others i t → mid ≡ text ++ (32 ∷ [])
      → chars new ≡ chars mid ++ spelling t.value
      → chars new ++ spaced_spellings (values_of (drop (i + 1) others)) ≡ whole
  unfolding chars
  spelled_more mid new t u low is e g =
      let rest = spaced_spellings (values_of (drop (i + 1) others)) in
      let p : spaced_spellings (values_of (drop i others)) ≡ 32 ∷ (spelling t.value ++ rest) =
      at_drop_more (λ ts. spaced_spellings (values_of ts)) others i t low ∙ ap (λ (x : Token). 32 ∷ (spelling x.value ++ rest)) (sym is) in
      let q : chars mid ≡ chars text ++ (32 ∷ []) = ap chars e ∙ chars-append text (32 ∷ []) u in
      rw (g, q) (simp append_assoc (ap (λ t. chars text ++ t) (sym p) ∙ so_far))

  pub spelled_all : length others ≤ i → chars text ≡ whole
  spelled_all high = sym (append-nil (chars text)) ∙ ap (λ t. chars text ++ t)
      (sym (at_drop_all (λ ts. spaced_spellings (values_of ts)) others i high)) ∙ so_far

-- what holds of each token holds of those after the first
pub all_after_first : (P : Token → Type 0) (ts others : List Token) (t x : Token) (i : ℕ) → All P ts → ts ≡ t ∷ others → i < length others
    → x ≡ get_or others i x → P x
all_after_first P ts others t x i all e low is =
    let n : length ts ≡ suc (length others) = ap length e in
    subst P (ap (λ l. get_or l (suc i) x) e ∙ sym is) (all (suc i) x (omega arith))

-- the last digit of a number of several digits is that of its remainder by ten, after those of its tenth
pub decimal-last : (n : ℕ) → 10 ≤ n → n < 2 ^ 64 → decimal n ≡ decimal (n / 10) ++ (48 + n % 10) ∷ []
decimal-last n more fits =
    let some : 0 < n = omega arith in
    let tenth : 0 < n / 10 = omega arith in
    let less : n / 10 < 2 ^ 64 = omega arith in
    decimal-digits_of n some fits ∙ ap (map (λ d. 48 + d)) (digits_of_step 10 n (lit≤ tt) some)
    ∙ map-append (λ d. 48 + d) (digits_of 10 (n / 10)) (n % 10 ∷ [])
    ∙ ap (λ t. t ++ (48 + n % 10) ∷ []) (sym (decimal-digits_of (n / 10) tenth less))

-- A text to which something was added, in whole or in part.
pub grown : (new old more : List ℕ) → new ≡ old ++ more → StartsWith new old
grown new old more e = rw e (take_at old more (length old) refl)

pub not_grown : (new old : List ℕ) → new ≡ old → StartsWith new old
not_grown new old e = rw e (take_all (length old) old (le_refl (length old)))

-- what was added first is there, if the next was refused
pub first_grown : {E : Type 0} (r : Result (Unit {0}) E) (new mid old first second : List ℕ) → mid ≡ old ++ first
    → new ≡ (if is_ok r then mid ++ second else mid) → OnErr r (StartsWith new old)
first_grown (Ok x) new mid old first second m e = tt
first_grown (Err x) new mid old first second m e = grown new old first (e ∙ m)

-- a directive has no spelling
pub unspelled : (value : TokenValue) → is_ordinary value ≡ false → encode_utf8_all (spelling value) ≡ []
unspelled (Ident _) e = cc
unspelled (IntegerValue _) e = cc
unspelled (Float _) e = cc
unspelled (PunctValue _) e = cc
unspelled _ e = refl

-- it can be cut where it ended before
pub cut_before : (new old : List ℕ) → IsUtf8 new → IsUtf8 old → StartsWith new old → IsSplitPoint new (length old)
cut_before new old u v e =
    let fits : length old ≤ length new = omega (arith, ap length e, length-take (length old) new) in
    let place = IsCharBoundary-from_take new (length old) u fits (subst IsUtf8 (sym e) v) in
    (place.0, λ some. place.1)

-- the bytes that were added are those of the characters that were added
pub bytes-pushed : (new old piece : List ℕ) → IsUtf8 new → IsUtf8 old → chars new ≡ chars old ++ piece → new ≡ old ++ encode_utf8_all piece
bytes-pushed new old piece u v e =
    sym (encodes-chars new u) ∙ ap encode_utf8_all e ∙ encodes-append (chars old) piece
    ∙ ap (λ t. t ++ encode_utf8_all piece) (encodes-chars old v)
