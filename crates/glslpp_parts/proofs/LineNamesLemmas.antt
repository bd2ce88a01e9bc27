-- `#line` lines, and texts with blanks in place of their names.
use Rattle.std.proofs.Common.{◌≡◌, ◌&&◌, ◌^◌, Result, Ok, Err, ◌↔◌, ◌≤◌, zero, suc, not, nat_lt, take, ◌+◌, ◌<◌, Bool, true, false, Option, Some, None, drop, get_or, option_map, nat_eq, if◌then◌else◌, ◌∙◌, ℕ, List, [], ◌∷◌, ◌++◌, length, refl, sym, ap, subst, inl, inr, append_assoc, arith}
use Rattle.std.proofs.lemmas.List.{length-append}
use Rattle.std.proofs.Math.ListN.{replicate}
use Rattle.std.specs.Borrow.{Bor}
use Rattle.std.specs.Char.{is_ascii_digit}
use Rattle.std.specs.List.{after_first, before_first, position_or_len, starts_with}
use Rattle.std.specs.Option.{IfSome, IsSome, MatchOption, option_and_then, unwrap_or}
use Rattle.std.proofs.lemmas.Bool.{false≢true}
use Rattle.std.specs.Str.{IsCharBoundary, IsUtf8, trim_start}
use Rattle.std.specs.Str.Pattern.{FindsTextPrefix, StripsPrefix}
use Rattle.std.proofs.lemmas.Bool.Decides.{eqb_tells, nat_tests}
use Rattle.std.proofs.lemmas.List.{at_drop_more, drop_at, get_or-take, length-take-le}
use Rattle.std.proofs.lemmas.List.Sums.{fails_before_first, passes_at_first, prefix_len-le-length, split_at_first}
use Rattle.std.proofs.lemmas.Str.{IsCharBoundary-after_ascii, IsCharBoundary-start, IsUtf8-drop}
use Rattle.std.proofs.lemmas.Str.Pattern.{starts_text}
use Rattle.std.specs.Int.{IsInRange}
use Rattle.std.specs.Result.{OkIff, result_ok}
use Rattle.std.specs.Str.Parse.{ParsesUnsigned, digits_value}
use Rattle.std.proofs.lemmas.Str.Parse.{numerals_by_value, parse_digits, tells_by_index}
use Rattle.glslpp_parts.specs.LineNames.{IsBlanked, Numbering, line_rest, leading_digits, label_or, numbering_in, line_numbering, numbering_with, name_length}
use Rattle.glslpp_parts.specs.LineNames.{quoted_name, number_in, own_label}
use Rattle.glslpp_parts.specs.inner.Adding.{IsBlankedOnto}

-- the length stays
length-blanked : (xs ys : List ℕ) → IsBlanked xs ys → length ys ≡ length xs
length-blanked [] [] is = refl
length-blanked [] (y ∷ ys) is = absurd is
length-blanked (x ∷ xs) [] is = absurd is
length-blanked (x ∷ xs) (y ∷ ys) is = omega (arith, length-blanked xs ys is.1)

-- nothing is blanked
blanked_nowhere : (xs : List ℕ) → IsBlanked xs xs
blanked_nowhere [] = tt
blanked_nowhere (x ∷ xs) = (inl refl, blanked_nowhere xs)

-- all is
blanked_everywhere : (xs : List ℕ) → IsBlanked xs (replicate (length xs) 32)
blanked_everywhere [] = tt
blanked_everywhere (x ∷ xs) = (inr refl, blanked_everywhere xs)

-- two parts, one after the other
blanked-append : (xs ys us vs : List ℕ) → IsBlanked xs ys → IsBlanked us vs → IsBlanked (xs ++ us) (ys ++ vs)
blanked-append [] [] us vs p q = q
blanked-append [] (y ∷ ys) us vs p q = absurd p
blanked-append (x ∷ xs) [] us vs p q = absurd p
blanked-append (x ∷ xs) (y ∷ ys) us vs p q = (p.0, blanked-append xs ys us vs p.1 q)

-- a line without a name
pub line_as_is : (line old new : List ℕ) → new ≡ old ++ line → IsBlankedOnto line old new
line_as_is line old new e = record { more = line; is = blanked_nowhere line; text = e }

-- a line with blanks in place of its name
pub line_blanked : (line before name behind old first second new : List ℕ) → line ≡ (before ++ name) ++ behind
    → first ≡ old ++ before → second ≡ first ++ replicate (length name) 32 → new ≡ second ++ behind → IsBlankedOnto line old new
line_blanked line before name behind old first second new is f s n =
    let blanks = replicate (length name) 32 in record {
      more = before ++ (blanks ++ behind);
      is = subst (λ (xs : List ℕ). IsBlanked xs (before ++ (blanks ++ behind))) (sym (is ∙ append_assoc before name behind))
          (blanked-append before before (name ++ behind) (blanks ++ behind) (blanked_nowhere before)
          (blanked-append name blanks behind behind (blanked_everywhere name) (blanked_nowhere behind)));
      text = n ∙ ap (λ (t : List ℕ). t ++ behind) (s ∙ ap (λ (t : List ℕ). t ++ blanks) f) ∙ simp append_assoc;
    }

-- one more line of a text
pub blanked_more : (text passed rest blanked line later new : List ℕ) → text ≡ passed ++ rest → IsBlanked passed blanked
    → rest ≡ line ++ later → IsBlankedOnto line blanked new → (more : List ℕ) × (text ≡ more ++ later) × IsBlanked more new
blanked_more text passed rest blanked line later new is so_far next onto = (
  passed ++ line,
  is ∙ ap (λ (t : List ℕ). passed ++ t) next ∙ sym (append_assoc passed line later),
  subst (IsBlanked (passed ++ line)) (sym onto.text) (blanked-append passed blanked line onto.more so_far onto.is),
)

-- all lines of a text
pub length-all_blanked : (text passed rest blanked : List ℕ) → text ≡ passed ++ rest → IsBlanked passed blanked → length rest ≡ 0
    → length blanked ≡ length text
length-all_blanked text passed rest blanked is so_far none =
    omega (arith, ap length is, length-append passed rest, length-blanked passed blanked so_far, none)

-- what `strip_prefix` says of a word
pub strip_prefix_text : (word text : List ℕ) (r : Option (Bor (List ℕ)))
    → MatchOption r (FindsTextPrefix word text None) (λ x. StripsPrefix (FindsTextPrefix word) text x.now)
    → option_map (λ x. x.now) r ≡ (if starts_with nat_eq text word then Some (drop (length word) text) else None)
strip_prefix_text word text None h = rw (sym (starts_text false word text h)) refl
strip_prefix_text word text (Some x) h =
    let found = h.1 in
    rw (sym (starts_text true word text (h.0, found, subst (IsCharBoundary text) (sym found.0) found.2)))
    (ap Some (h.2 ∙ ap (λ n. drop n text) found.0))

-- a length that is counted on by one
counted : (i : ℕ) (o : Option ℕ) → option_map (λ n. (i + 1) + n) o ≡ option_map (λ n. i + n) (option_map (λ n. n + 1) o)
counted i None = refl
counted i (Some n) = ap Some (omega arith)

-- one more character of a name, after a backslash that counts
pub one_more_escaped : (bytes : List ℕ) (i d : ℕ) (whole : Option ℕ) → i < length bytes
    → option_map (λ n. i + n) (name_length true (drop i bytes)) ≡ whole
    → option_map (λ n. (i + 1) + n) (name_length false (drop (i + 1) bytes)) ≡ whole
one_more_escaped bytes i d whole l e =
    counted i (name_length false (drop (i + 1) bytes)) ∙ ap (option_map (λ n. i + n)) (sym (at_drop_more (name_length true) bytes i d l)) ∙ e

other_than : (a b : ℕ) → ¬ (a ≡ b) → nat_eq a b ≡ false
other_than a b differ = elim (eqb_tells a b) [
  | inl h ↦ absurd (differ h.1)
  | inr h ↦ h.0
]

-- one more character of a name, which isn't the last
pub one_more_of_name : (bytes : List ℕ) (i d : ℕ) (whole : Option ℕ) → i < length bytes → ¬ (get_or bytes i d ≡ 34)
    → option_map (λ n. i + n) (name_length false (drop i bytes)) ≡ whole
    → option_map (λ n. (i + 1) + n) (name_length (nat_eq (get_or bytes i d) 92) (drop (i + 1) bytes)) ≡ whole
one_more_of_name bytes i d whole l other e =
    let rest = name_length (nat_eq (get_or bytes i d) 92) (drop (i + 1) bytes) in
    counted i rest ∙ ap (option_map (λ n. i + n)) (sym (at_drop_more (name_length false) bytes i d l ∙ rw (other_than _ _ other) refl)) ∙ e

-- a text may be cut after digits
cut_after_digits : (text : List ℕ) (n : ℕ) → IsUtf8 text → n ≤ length text
    → ((k : ℕ) → k < n → not (is_ascii_digit (get_or text k 0)) ≡ false) → IsCharBoundary text n
cut_after_digits text zero u l digits = IsCharBoundary-start text u
cut_after_digits text (suc k) u l digits =
    let small : get_or text k 0 < 128 = is_small (get_or text k 0) (digits k (omega arith)) in
    let e : k + 1 ≡ suc k = omega arith in
    subst (IsCharBoundary text) e (IsCharBoundary-after_ascii text k u (omega arith) small)
  where
    is_small : (c : ℕ) → not (is_ascii_digit c) ≡ false → c < 128
    is_small c e = grind (arith, nat_tests)

-- where the search for a character that is no digit ends
pub end_of_digits : (n all : ℕ) (r : Option ℕ) → n ≤ all → r ≡ (if nat_lt n all then Some n else None) → unwrap_or r all ≡ n
end_of_digits n all r l e = grind (arith, nat_tests)

-- where the digits end with which a text begins
pub digits_end : (text : List ℕ) (end : ℕ) → IsUtf8 text → end ≡ position_or_len (λ c. not (is_ascii_digit c)) text → IsCharBoundary text end
digits_end text end u e =
    let is_no_digit = λ (c : ℕ). not (is_ascii_digit c) in
    let within = prefix_len-le-length (λ c. not (is_no_digit c)) text in
    subst (IsCharBoundary text) (sym e) (cut_after_digits text (position_or_len is_no_digit text) u within (λ k l. fails_before_first is_no_digit text k 0 l))

-- what is cut where a text may be
pub cut_there : (text : List ℕ) (end : ℕ) (r : Option (Bor (List ℕ) × Bor (List ℕ))) (d parts : Bor (List ℕ) × Bor (List ℕ)) → parts ≡ unwrap_or r d
    → IsCharBoundary text end → (IsSome r ↔ IsCharBoundary text end) → IfSome r (λ x. x.0.now ≡ take end text) → IfSome r (λ x. x.1.now ≡ drop end text)
    → (parts.0.now ≡ take end text) × (parts.1.now ≡ drop end text)
cut_there text end None d parts e b v f g = absurd (false≢true (v.1 b))
cut_there text end (Some x) d parts e b v f g = (ap (λ p. p.0.now) e ∙ f, ap (λ p. p.1.now) e ∙ g)

-- the number of bytes of the front of a text
pub length_of_front : {X : Type 0} (p : X → Bool) (xs : List X) → length (before_first p xs) ≡ position_or_len p xs
length_of_front p xs = length-take-le (position_or_len p xs) xs (prefix_len-le-length (λ x. not (p x)) xs)

-- the number that digits write
pub parsed : {E : Type 0} (text : List ℕ) (r : Result ℕ E) → ParsesUnsigned 32 10 (leading_digits text) r → result_ok r ≡ number_in (leading_digits text)
parsed text r h = by r (parse_digits (numerals_by_value _ tells_by_index) 32 (leading_digits text) r h digits)
  where
    is_digit : (c : ℕ) → not (is_ascii_digit c) ≡ false → IsInRange 48 57 c
    is_digit c e = grind (arith, nat_tests)

    digits : (i : ℕ) → i < length (leading_digits text) → IsInRange 48 57 (get_or (leading_digits text) i 0)
    digits i l =
        let is_no_digit = λ (c : ℕ). not (is_ascii_digit c) in
        let below : i < position_or_len is_no_digit text = omega (arith, length_of_front is_no_digit text) in
        subst (IsInRange 48 57) (sym (get_or-take (position_or_len is_no_digit text) text i 0 below))
        (is_digit (get_or text i 0) (fails_before_first is_no_digit text i 0 below))

    no_number : (l n : ℕ) → ¬ ((0 < l) × (n < 2 ^ 32)) → (if nat_lt 0 l && nat_lt n (2 ^ 32) then Some n else None) ≡ None
    no_number l n k = grind (arith, nat_tests)

    ltb_true : (m n : ℕ) → m < n → nat_lt m n ≡ true
    ltb_true m n l = grind (arith, nat_tests)

    by : {F : Type 0} (r : Result ℕ F) → OkIff r ((0 < length (leading_digits text)) × (digits_value 10 (leading_digits text) < 2 ^ 32)) (digits_value 10 (leading_digits text))
        → result_ok r ≡ number_in (leading_digits text)
    by (Ok n) k = rw (ltb_true _ _ k.0.0, ltb_true _ _ k.0.1) (ap Some k.1)
    by (Err e) k = sym (no_number (length (leading_digits text)) (digits_value 10 (leading_digits text)) k)

one_on : (c : ℕ) (cs : List ℕ) (n : ℕ) (o : Option ℕ) → option_map (λ m. m + 1) o ≡ Some n
    → ((m : ℕ) → o ≡ Some m → (m < length cs) × (get_or cs m 0 ≡ 34)) → (n < length (c ∷ cs)) × (get_or (c ∷ cs) n 0 ≡ 34)
one_on c cs n None e h = cc
one_on c cs n (Some m) e h =
    let k = h m refl in
    let same : m + 1 ≡ n = cc in
    let next : suc m ≡ n = omega arith in
    (omega (arith, k.0), subst (λ i. get_or (c ∷ cs) i 0 ≡ 34) next k.1)

-- a name ends at a `"`
pub name_ends : (is_escaped : Bool) (bytes : List ℕ) (n : ℕ) → name_length is_escaped bytes ≡ Some n → (n < length bytes) × (get_or bytes n 0 ≡ 34)
name_ends is_escaped [] n e = cc
name_ends true (c ∷ cs) n e = one_on c cs n (name_length false cs) e (name_ends false cs)
name_ends false (c ∷ cs) n e = elim (eqb_tells c 34) [
  | inl h ↦ let here : Some 0 ≡ Some n = sym (rw h.0 refl) ∙ e in let first : 0 ≡ n = cc in
      (omega (arith, first), subst (λ i. get_or (c ∷ cs) i 0 ≡ 34) first h.1)
  | inr h ↦ one_on c cs n (name_length (nat_eq c 92) cs) (sym (rw h.0 refl) ∙ e) (name_ends (nat_eq c 92) cs)
]

-- what begins at the first `"`
pub named_at_first : (rest front named : List ℕ) → position_or_len (λ c. nat_eq c 34) rest < length rest → front ≡ before_first (λ c. nat_eq c 34) rest
    → named ≡ drop (length front) rest → named ≡ 34 ∷ after_first (λ c. nat_eq c 34) rest
named_at_first rest front named l f n =
    let is_mark = λ (c : ℕ). nat_eq c 34 in
    let at = position_or_len is_mark rest in
    let mark = is_34 (get_or rest at 0) (passes_at_first is_mark rest 0 l) in
    n ∙ ap (λ t. drop (length t) rest) f ∙ ap (λ t. drop (length (before_first is_mark rest)) t) (split_at_first is_mark rest 0 l)
    ∙ drop_at (before_first is_mark rest) (get_or rest at 0 ∷ after_first is_mark rest) _ refl ∙ ap (λ c. c ∷ after_first is_mark rest) mark
  where
    is_34 : (c : ℕ) → nat_eq c 34 ≡ true → c ≡ 34
    is_34 c e = grind (arith, nat_tests)

-- a `#line` without a number, and one with it
pub no_mark : (line before rest : List ℕ) (at : ℕ) → Some rest ≡ line_rest line → None ≡ number_in (leading_digits (trim_start rest)) → None ≡ line_numbering line at before
no_mark line before rest at w n = ap (option_map (numbering_with at before rest)) n ∙ ap (option_and_then (numbering_in at before)) w

abbrev with_label : ℕ → ℕ → List ℕ → Numbering
with_label at n l = record { line = at; number = n; label = l }

pub mark_told : (line before rest label : List ℕ) (at n : ℕ) → Some rest ≡ line_rest line → Some n ≡ number_in (leading_digits (trim_start rest))
    → label ≡ label_or before (own_label rest) → Some (with_label at n label) ≡ line_numbering line at before
mark_told line before rest label at n w e l =
    ap (λ l. Some (with_label at n l)) l ∙ ap (option_map (numbering_with at before rest)) e ∙ ap (option_and_then (numbering_in at before)) w

-- the name that begins with this text and ends where it does
pub name_told : (rest inner named name : List ℕ) (n end : ℕ) → inner ≡ after_first (λ c. nat_eq c 34) rest → named ≡ 34 ∷ after_first (λ c. nat_eq c 34) rest
    → Some n ≡ name_length false inner → end ≡ n + 2 → name ≡ take end named → Some name ≡ quoted_name rest
name_told rest inner named name n end i m l e t =
    let whole = after_first (λ c. nat_eq c 34) rest in
    let size : Some n ≡ name_length false whole = l ∙ ap (name_length false) i in
    let next : end ≡ suc (n + 1) = omega arith in
    ap Some (t ∙ ap (λ k. take k named) next ∙ ap (take (suc (n + 1))) m) ∙ ap (option_map (λ n. 34 ∷ take (n + 1) whole)) size

-- a text may be cut after a name
pub cut_after_name : (rest inner named : List ℕ) (at n end : ℕ) → IsUtf8 rest → IsCharBoundary rest at → named ≡ drop at rest
    → inner ≡ after_first (λ c. nat_eq c 34) rest → named ≡ 34 ∷ after_first (λ c. nat_eq c 34) rest → Some n ≡ name_length false inner → end ≡ n + 2
    → IsCharBoundary named end
cut_after_name rest inner named at n end u b d i m l e =
    let ends = name_ends false inner n (sym l) in
    let same : named ≡ 34 ∷ inner = m ∙ ap (λ t. 34 ∷ t) (sym i) in
    let is_text : IsUtf8 named = subst IsUtf8 (sym d) (IsUtf8-drop rest at u b) in
    let last : get_or named (suc n) 0 ≡ 34 = ap (λ t. get_or t (suc n) 0) same ∙ ends.1 in
    let size : length named ≡ suc (length inner) = ap length same in
    let next : suc n + 1 ≡ end = omega arith in
    subst (IsCharBoundary named) next (IsCharBoundary-after_ascii named (suc n) is_text (omega (arith, ends.0)) (omega arith))
