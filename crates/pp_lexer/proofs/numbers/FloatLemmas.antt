-- What a float's text is, read from its front.
use Rattle.std.proofs.Common.{◌≡◌, ℕ, List, [], ◌∷◌, drop, Bool, true, false, ◌&&◌, ◌||◌, refl, sym, ◌∙◌, ap, if◌then◌else◌, arith}
use Rattle.std.proofs.Math.Bool.{or-false}
use Rattle.std.proofs.lemmas.Bool.{eqb-true}
use Rattle.pp_lexer.specs.Longest.{front_len}
use Rattle.pp_lexer.specs.Numbers.{is_point, is_sign, is_decimal, digits}
use Rattle.pp_lexer.specs.Spellings.{nothing, one, many}
use Rattle.pp_lexer.specs.Surroundings.{begins_with}
use Rattle.pp_lexer.specs.NumberValue.{float_exponent, float_tail, is_float_text}
use Rattle.pp_lexer.specs.inner.NumberValue.{is_small_e, float_power}
use Rattle.pp_lexer.proofs.words.LongestLemmas.{many_is}
use Rattle.pp_lexer.proofs.numbers.NumbersLemmas.{point_apart, small_e_apart}

-- one digit or more, and what follows
module _ (p : ℕ → Bool) (tail : List ℕ → Bool) (ends : tail [] ≡ true) (apart : (c : ℕ) (w : List ℕ) → p c ≡ true → tail (c ∷ w) ≡ false) where
  pub some_is : (w : List ℕ) → begins_with p w ≡ true → one p (many p tail) w ≡ tail (drop (front_len p w) w)
  some_is w h = grind (arith, many_is)

pub front_none : (p : ℕ → Bool) (w : List ℕ) → begins_with p w ≡ false → drop (front_len p w) w ≡ w
front_none p [] h = refl
front_none p (c ∷ w) h = let n : front_len p (c ∷ w) ≡ 0 = rw h refl in ap (λ k. drop k (c ∷ w)) n

sign_power : (c : ℕ) (w : List ℕ) → is_sign c ≡ true → one is_decimal digits (c ∷ w) ≡ false
sign_power c w h = grind arith

exponent_apart : (c : ℕ) (w : List ℕ) → is_decimal c ≡ true → float_exponent (c ∷ w) ≡ false
exponent_apart c w h = rw (small_e_apart c h) refl

pub tail_apart : (c : ℕ) (w : List ℕ) → is_decimal c ≡ true → float_tail (c ∷ w) ≡ false
tail_apart c w h = rw (small_e_apart c h, point_apart c h) refl

-- the set `one is_decimal digits` lacks the empty spelling, so `maybe` is opened here
power_is : (t : List ℕ) → float_power t ≡ one is_decimal digits (drop (if begins_with is_sign t then 1 else 0) t)
power_is t = grind arith

mark_is : (t : List ℕ) → begins_with is_small_e t ≡ true → float_exponent t ≡ float_power (drop 1 t)
mark_is [] h = cc
mark_is (c ∷ t) h = rw h refl

-- where a test gave true, and what it moved past
moved_true : (b : Bool) (t t1 : List ℕ) → b ≡ true → t1 ≡ drop (if b then 1 else 0) t → t1 ≡ drop 1 t
moved_true b t t1 h e = e ∙ ap (λ x. drop (if x then 1 else 0) t) h

moved_false : (b : Bool) (t t1 : List ℕ) → b ≡ false → t1 ≡ drop (if b then 1 else 0) t → t1 ≡ t
moved_false b t t1 h e = e ∙ ap (λ x. drop (if x then 1 else 0) t) h

-- the mark of an exponent, a sign or none, one digit or more, and the end
pub exponent_is : (t t1 t2 t3 : List ℕ) (e s d : Bool) → e ≡ begins_with is_small_e t → e ≡ true → t1 ≡ drop (if e then 1 else 0) t
    → s ≡ begins_with is_sign t1 → t2 ≡ drop (if s then 1 else 0) t1 → d ≡ begins_with is_decimal t2 → d ≡ true → t3 ≡ drop (front_len is_decimal t2) t2
    → nothing t3 ≡ float_exponent t
exponent_is t t1 t2 t3 e s d a b f g h i j k =
    let digits_end : nothing t3 ≡ one is_decimal digits t2 = ap nothing k ∙ sym (some_is is_decimal nothing refl (λ c w x. refl) t2 (sym i ∙ j)) in
    let signed : one is_decimal digits t2 ≡ float_power t1 =
    ap (one is_decimal digits) h ∙ ap (λ x. one is_decimal digits (drop (if x then 1 else 0) t1)) g ∙ sym (power_is t1) in
    let marked : float_power t1 ≡ float_exponent t = ap float_power (moved_true e t t1 b f) ∙ sym (mark_is t (sym a ∙ b)) in
    digits_end ∙ signed ∙ marked

-- what follows the digits before a point
pointed_tail : (t : List ℕ) → begins_with is_point t ≡ true → float_tail t ≡ many is_decimal float_exponent (drop 1 t)
pointed_tail [] h = cc
pointed_tail (c ∷ t) h = rw (eqb-true c 46 h) refl

plain_tail : (t : List ℕ) → begins_with is_point t ≡ false → float_tail t ≡ float_exponent t
plain_tail [] h = refl
plain_tail (c ∷ t) h = rw h (or-false (float_exponent (c ∷ t)))

-- a text that begins with a digit
digits_first : (t : List ℕ) → begins_with is_decimal t ≡ true → is_float_text t ≡ float_tail (drop (front_len is_decimal t) t)
digits_first [] h = cc
digits_first (c ∷ t) h =
    let o : is_float_text (c ∷ t) ≡ (one is_decimal (many is_decimal float_tail) (c ∷ t) || false) =
    ap (λ b. one is_decimal (many is_decimal float_tail) (c ∷ t) || (b && one is_decimal (many is_decimal float_exponent) t)) (point_apart c h) in
    o ∙ or-false (one is_decimal (many is_decimal float_tail) (c ∷ t)) ∙ some_is is_decimal float_tail refl tail_apart (c ∷ t) h

-- digits, a point and digits
pub pointed_is : (t t1 t2 t3 : List ℕ) (d p : Bool) → d ≡ begins_with is_decimal t → d ≡ true → t1 ≡ drop (front_len is_decimal t) t
    → p ≡ begins_with is_point t1 → p ≡ true → t2 ≡ drop (if p then 1 else 0) t1 → t3 ≡ drop (front_len is_decimal t2) t2 → float_exponent t3 ≡ is_float_text t
pointed_is t t1 t2 t3 d p a b e f g h i = grind (arith, many_is, exponent_apart, moved_true, pointed_tail, digits_first)

-- digits alone
pub plain_is : (t t1 t2 : List ℕ) (d p : Bool) → d ≡ begins_with is_decimal t → d ≡ true → t1 ≡ drop (front_len is_decimal t) t
    → p ≡ begins_with is_point t1 → p ≡ false → t2 ≡ drop (if p then 1 else 0) t1 → float_exponent t2 ≡ is_float_text t
plain_is t t1 t2 d p a b e f g h =
    ap float_exponent (moved_false p t1 t2 g h) ∙ sym (plain_tail t1 (sym f ∙ g)) ∙ ap float_tail e ∙ sym (digits_first t (sym a ∙ b))

point_first : (t : List ℕ) → begins_with is_decimal t ≡ false → begins_with is_point t ≡ true
    → is_float_text t ≡ one is_decimal (many is_decimal float_exponent) (drop 1 t)
point_first [] d h = cc
point_first (c ∷ t) d h = rw (eqb-true c 46 h) refl

-- a point and digits
pub point_first_is : (t t1 t2 t3 : List ℕ) (d p q : Bool) → d ≡ begins_with is_decimal t → d ≡ false → t1 ≡ drop (front_len is_decimal t) t
    → p ≡ begins_with is_point t1 → p ≡ true → t2 ≡ drop (if p then 1 else 0) t1 → q ≡ begins_with is_decimal t2 → q ≡ true
    → t3 ≡ drop (front_len is_decimal t2) t2
    → float_exponent t3 ≡ is_float_text t
point_first_is t t1 t2 t3 d p q a b e f g h i j k =
    let still : t1 ≡ t = e ∙ front_none is_decimal t (sym a ∙ b) in
    let after : float_exponent t3 ≡ one is_decimal (many is_decimal float_exponent) t2 = ap float_exponent k
    ∙ sym (some_is is_decimal float_exponent refl exponent_apart t2 (sym i ∙ j)) in
    let here : begins_with is_point t ≡ true = ap (begins_with is_point) (sym still) ∙ sym f ∙ g in
    after ∙ ap (one is_decimal (many is_decimal float_exponent)) (moved_true p t1 t2 g h)
    ∙ ap (λ x. one is_decimal (many is_decimal float_exponent) (drop 1 x)) still ∙ sym (point_first t (sym a ∙ b) here)
