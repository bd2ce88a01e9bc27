-- Bytes of plain text whose words are no errors, and the words at their front.
use Rattle.std.proofs.Common.{◌≡◌, ℕ, zero, suc, ◌+◌, ◌-◌, ◌<◌, ◌≤◌, ◌⊎◌, List, ◌∷◌, [], length, take, drop, get_or, Bool, true, false, not, ◌&&◌, ◌||◌, ◌==◌, refl, sym, ◌∙◌, ap, subst, arith, inl, inr, Option, Some, None, is_some, if◌then◌else◌}
use Rattle.std.specs.Prelude.{◌≢◌}
use Rattle.std.specs.List.{list_all, prefix_len}
use Rattle.std.specs.Str.{IsUtf8, IsCharBoundary}
use Rattle.std.proofs.lemmas.Bool.{agree_below, agree_below_at, and_parts, and_from, or_cases, or_parts, false≢true, ltb-true, eqb-true, ne_eqb, cases_eq, not-true}
use Rattle.std.proofs.lemmas.List.{length-take-le, length-drop, get_or-take, get_or-drop}
use Rattle.std.proofs.lemmas.List.Sums.{list_all-from_AllPass, prefix_len-le-length, prefix_len_passes, prefix_len_stops}
use Rattle.std.proofs.lemmas.List.Elements.{All-from_get_or}
use Rattle.std.proofs.lemmas.Str.{IsUtf8-drop, IsCharBoundary-after_ascii}
use Rattle.pp_lexer.specs.declared.token.Punct.{Punct as Punctuator}
use Rattle.pp_lexer.specs.declared.lexer.item.TokenValue.{TokenValue}
use Rattle.pp_lexer.specs.declared.lexer.item.TokenValue.TheVariants.{Hash, Ident, Punct}
use Rattle.pp_lexer.specs.Numbers.{is_decimal, is_point}
use Rattle.pp_lexer.specs.Punctuators.{punct_of}
use Rattle.pp_lexer.specs.inner.PlainWords.{is_space, begins, continues, single, is_lone, begins_comment, Stops, IsPlainWord}
use Rattle.pp_lexer.specs.PlainItems.{value_of}
use Rattle.pp_lexer.specs.declared.lexer.plain.Form.{Form}
use Rattle.pp_lexer.specs.declared.lexer.plain.Form.TheVariants as form
use Rattle.pp_lexer.specs.declared.lexer.plain.Word.{Word}
use Rattle.pp_lexer.specs.inner.PlainWords.{IsFirstWord}
use Rattle.pp_lexer.specs.inner.Tame.{BeginsLast, BeginsNumber, ArePlainWords, is_hash_form, is_free, is_tame, IsTameFront, parts, IsTame, feeds}
use Rattle.pp_lexer.proofs.characters.FrontsLemmas.{plain_parts}
use Rattle.pp_lexer.proofs.characters.PlainFrontsLemmas.{passes_at, drop_none}
use Rattle.pp_lexer.proofs.characters.PlainFrontsLemmas.{get_or-drop as first_dropped}
use Rattle.pp_lexer.proofs.characters.SpacesLemmas.{space_plain}
use Rattle.pp_lexer.proofs.words.PlainWordsLemmas.{plain_identifier}
use Rattle.pp_lexer.proofs.words.PlainPunctuationLemmas.{lone_of, lone_word, punct_small, pair_none, no_triple_third, single_is, single_word, pair_word, triple_word, stops_single, stops_pair}

-- What single bytes are

-- what holds of each ASCII byte that passes a test
implied : (p q : ℕ → Bool) → agree_below (λ c. p c && not (q c)) (λ c. false) 128 ≡ true → (c : ℕ) → c < 128 → p c ≡ true → q c ≡ true
implied p q all c small h = by (p c) (q c) h (agree_below_at (λ c. p c && not (q c)) (λ c. false) 128 c all small)
  where
    by : (a b : Bool) → a ≡ true → (a && not b) ≡ false → b ≡ true
    by a true h k = refl
    by true false h k = absurd (false≢true (sym k))
    by false false h k = h

pub tame_small : (c : ℕ) → is_tame c ≡ true → c < 128
tame_small c h = ltb-true c 128 (and_parts _ _ h).0

free_tame : (c : ℕ) → is_free c ≡ true → is_tame c ≡ true
free_tame c h = implied is_free is_tame refl c (ltb-true c 128 (and_parts _ _ h).0) h

free_no_decimal : (c : ℕ) → is_free c ≡ true → is_decimal c ≡ false
free_no_decimal c h = not-true _ (implied is_free (λ c. not (is_decimal c)) refl c (ltb-true c 128 (and_parts _ _ h).0) h)

free_no_feed : (c : ℕ) → is_free c ≡ true → (c == 10) ≡ false
free_no_feed c h = not-true _ (implied is_free (λ c. not (c == 10)) refl c (ltb-true c 128 (and_parts _ _ h).0) h)

tame_no_backslash : (c : ℕ) → is_tame c ≡ true → (c == 92) ≡ false
tame_no_backslash c h = not-true _ (implied is_tame (λ c. not (c == 92)) refl c (tame_small c h) h)

tame_no_return : (c : ℕ) → is_tame c ≡ true → (c == 13) ≡ false
tame_no_return c h = not-true _ (implied is_tame (λ c. not (c == 13)) refl c (tame_small c h) h)

-- a tame byte that is no digit begins a word, or stands between words
tame_begins : (c : ℕ) → is_tame c ≡ true → is_decimal c ≡ false
    → (is_space c || ((c == 10) || (begins c || (is_some (single c) && not (c == 47))))) ≡ true
tame_begins c h d =
    implied (λ c. is_tame c && not (is_decimal c)) (λ c. is_space c || ((c == 10) || (begins c || (is_some (single c) && not (c == 47))))) refl c
    (tame_small c h) (and_from _ _ h (ap not d))

decimal_small : (c : ℕ) → is_decimal c ≡ true → c < 58
decimal_small c h = grind arith

-- what follows a word that ends there
record Follows (d : ℕ) : Type 0 where
  small : d < 128
  no_backslash : (d == 92) ≡ false
  no_return : (d == 13) ≡ false

tame_follows : (d : ℕ) → is_tame d ≡ true → Follows d
tame_follows d h = record { small = tame_small d h; no_backslash = tame_no_backslash d h; no_return = tame_no_return d h }

decimal_more : (c : ℕ) → is_decimal c ≡ true → continues c ≡ true
decimal_more c e = let below = decimal_small c e in implied is_decimal continues refl c (omega (arith, below)) e

begins_more : (c : ℕ) → begins c ≡ true → continues c ≡ true
begins_more c k = grind arith

continues_small : (c : ℕ) → continues c ≡ true → c < 123
continues_small c h = grind arith

or_second : (a b : Bool) → (a || b) ≡ true → a ≡ false → b ≡ true
or_second true b h e = absurd (false≢true (sym e))
or_second false b h e = h

parted_follows : (c d : ℕ) → parts c d ≡ true → Follows d
parted_follows c d h = elim (or_cases (is_lone d) _ h) [
  | inl lone ↦
      let p = plain_parts d (lone_of d lone).plain in
      let small : d < 128 = p.small in
      let is : is_tame d ≡ true = implied is_lone is_tame refl d small lone in
      tame_follows d is
  | inr number ↦
      let e = (and_parts (continues d) _ number).0 in
      let below = continues_small d e in
      let small : d < 128 = omega (arith, below) in
      tame_follows d (implied continues is_tame refl d small e)
]

lone_small : (d : ℕ) → is_lone d ≡ true → d < 128
lone_small d lone = (plain_parts d (lone_of d lone).plain).small

lone_no_more : (d : ℕ) → is_lone d ≡ true → continues d ≡ false
lone_no_more d lone = not-true _ (implied is_lone (λ c. not (continues c)) refl d (lone_small d lone) lone)

lone_no_decimal : (d : ℕ) → is_lone d ≡ true → is_decimal d ≡ false
lone_no_decimal d lone = not-true _ (implied is_lone (λ c. not (is_decimal c)) refl d (lone_small d lone) lone)

pub lone_single : (d : ℕ) → is_lone d ≡ true → is_some (single d) ≡ true
lone_single d lone = implied is_lone (λ c. is_some (single c)) refl d (lone_small d lone) lone

-- after a letter or digit, a letter or digit goes on
together : (c d : ℕ) → continues c ≡ true → continues d ≡ true → parts c d ≡ false
together c d h k = by (is_lone d) refl
  where
    by : (b : Bool) → is_lone d ≡ b → (b || (continues d && not (continues c || is_point c))) ≡ false
    by true e = absurd (false≢true (sym (lone_no_more d e) ∙ k))
    by false e = rw (k, h) refl

-- Fronts

pub front_zero : (text : List ℕ) → IsTameFront text 0
front_zero text = record { within = omega arith; tame = λ k h. absurd (omega arith); digits = λ k h. absurd (omega arith) }

pub front_shorter : (text : List ℕ) (m n : ℕ) → m ≤ n → IsTameFront text n → IsTameFront text m
front_shorter text m n le h =
    let within = h.within in
    record {
      within = omega (arith, within);
      tame = λ k l. h.tame k (omega arith);
      digits = λ k l. h.digits k (omega arith);
    }

-- one more byte
front_more : (text : List ℕ) (n : ℕ) → IsTameFront text n → n < length text → is_tame (get_or text n 0) ≡ true
    → (is_decimal (get_or text n 0) ≡ true → (0 < n) × (continues (get_or text (n - 1) 0) ≡ true)) → IsTameFront text (suc n)
front_more text n h l tame digits = record {
  within = omega arith;
  tame = λ k below. elim (cases_eq k n) [
    | inl same ↦ subst (λ j. is_tame (get_or text j 0) ≡ true) (sym same) tame
    | inr other ↦ h.tame k (omega (arith, below, other))
  ];
  digits = λ k below. elim (cases_eq k n) [
    | inl same ↦ subst (λ j. is_decimal (get_or text j 0) ≡ true → (0 < j) × (continues (get_or text (j - 1) 0) ≡ true)) (sym same) digits
    | inr other ↦ h.digits k (omega (arith, below, other))
  ];
}

-- a front and how many newlines it has
pub record Front (text : List ℕ) (n newlines : ℕ) : Type 0 where
  pub tame : IsTameFront text n
  pub counted : newlines ≡ feeds text n

pub one_feed : (text : List ℕ) (n newlines : ℕ) → Front text n newlines → n < length text → get_or text n 0 ≡ 10 → Front text (n + 1) (newlines + 1)
one_feed text n newlines h l e =
    let there : n + 1 ≡ suc n = omega arith in
    rw there (record {
      tame = front_more text n h.tame l (ap is_tame e) (λ d. absurd (false≢true (sym (ap is_decimal e) ∙ d)));
      counted = ap (λ k. k + 1) h.counted ∙ ap (λ c. feeds text n + (if c == 10 then 1 else 0)) (sym e);
    })

other_counts : (text : List ℕ) (n : ℕ) → (get_or text n 0 == 10) ≡ false → feeds text (suc n) ≡ feeds text n
other_counts text n h = rw h (omega arith)

decimal_no_feed : (c : ℕ) → is_decimal c ≡ true → (c == 10) ≡ false
decimal_no_feed c h = ne_eqb c 10 (λ e. absurd (false≢true (sym (ap is_decimal e) ∙ h)))

pub one_digit : (text : List ℕ) (n newlines : ℕ) → Front text n newlines → n < length text → is_decimal (get_or text n 0) ≡ true → 0 < n
    → continues (get_or text (n - 1) 0) ≡ true → Front text (n + 1) newlines
one_digit text n newlines h l d some k =
    let there : n + 1 ≡ suc n = omega arith in
    let below = decimal_small (get_or text n 0) d in
    rw there (record {
      tame = front_more text n h.tame l (implied is_decimal is_tame refl (get_or text n 0) (omega (arith, below)) d) (λ e. (some, k));
      counted = h.counted ∙ sym (other_counts text n (decimal_no_feed (get_or text n 0) d));
    })

one_free : (text : List ℕ) (n newlines : ℕ) → Front text n newlines → n < length text → is_free (get_or text n 0) ≡ true → Front text (suc n) newlines
one_free text n newlines h l free = record {
  tame = front_more text n h.tame l (free_tame (get_or text n 0) free) (λ d. absurd (false≢true (sym (free_no_decimal (get_or text n 0) free) ∙ d)));
  counted = h.counted ∙ sym (other_counts text n (free_no_feed (get_or text n 0) free));
}

some_free : (text : List ℕ) (n r newlines : ℕ) → Front text n newlines → n + r ≤ length text
    → ((k : ℕ) → k < r → is_free (get_or text (n + k) 0) ≡ true) → Front text (n + r) newlines
some_free text n zero newlines h l free = subst (λ m. Front text m newlines) (omega arith) h
some_free text n (suc r) newlines h l free =
    let before = some_free text n r newlines h (omega (arith, l)) (λ k below. free k (omega (arith, below))) in
    subst (λ m. Front text m newlines) (omega arith) (one_free text (n + r) newlines before (omega (arith, l)) (free r (omega arith)))

pub more_free : (text : List ℕ) (n r newlines : ℕ) → Front text n newlines → r ≤ length (take (length text - n) (drop n text))
    → list_all is_free (take r (take (length text - n) (drop n text))) ≡ true → Front text (n + r) newlines
more_free text n r newlines h le free =
    let within = h.tame.within in
    let rest = take (length text - n) (drop n text) in
    let size : length rest ≡ length text - n = length-take-le (length text - n) (drop n text) (omega (arith, length-drop n text)) in
    some_free text n r newlines h (omega (arith, le, size, within)) (λ k below.
    let here : get_or rest k 0 ≡ get_or text (n + k) 0 = get_or-take (length text - n) (drop n text) k 0 (omega (arith, below, le, size)) ∙ get_or-drop n text k 0 in
    let front : list_all is_free (take (suc k) rest) ≡ true = front_passes is_free (suc k) r rest (omega (arith, below)) free in
    subst (λ c. is_free c ≡ true) here (passes_at is_free k rest (omega (arith, size, below, le)) front))
  where
    front_passes : (p : ℕ → Bool) (k r : ℕ) (xs : List ℕ) → k ≤ r → list_all p (take r xs) ≡ true → list_all p (take k xs) ≡ true
    front_passes p zero r xs le h = refl
    front_passes p (suc k) zero xs le h = absurd (omega arith)
    front_passes p (suc k) (suc r) [] le h = refl
    front_passes p (suc k) (suc r) (x ∷ xs) le h =
        let b = and_parts (p x) (list_all p (take r xs)) h in
        and_from (p x) (list_all p (take k xs)) b.0 (front_passes p k r xs (omega (arith, le)) b.1)

-- a byte before
pub feed_before : (text : List ℕ) (n : ℕ) → 0 < n → get_or text (n - 1) 0 ≡ 10 → feeds text n ≡ feeds text (n - 1) + 1
feed_before text zero some h = absurd (omega (arith, some))
feed_before text (suc n) some h =
    let there : suc n - 1 ≡ n = omega arith in
    let here : get_or text n 0 ≡ 10 = subst (λ k. get_or text k 0 ≡ 10) there h in
    ap (λ c. feeds text n + (if c == 10 then 1 else 0)) here ∙ ap (λ k. feeds text k + 1) (sym there)

pub other_before : (text : List ℕ) (n : ℕ) → 0 < n → (get_or text (n - 1) 0 ≡ 10 → ⊥) → feeds text n ≡ feeds text (n - 1)
other_before text zero some h = absurd (omega (arith, some))
other_before text (suc n) some h =
    let there : suc n - 1 ≡ n = omega arith in
    let other = ne_eqb (get_or text n 0) 10 (λ e. h (ap (λ k. get_or text k 0) there ∙ e)) in
    other_counts text n other ∙ ap (feeds text) (sym there)

pub feeds_few : (text : List ℕ) (n : ℕ) → feeds text n ≤ n
feeds_few text zero = omega arith
feeds_few text (suc n) =
    let few = feeds_few text n in
    grind arith

pub feeds_none : (text : List ℕ) (n : ℕ) → ((k : ℕ) → k < n → (get_or text k 0 == 10) ≡ false) → feeds text n ≡ 0
feeds_none text zero h = refl
feeds_none text (suc n) h = other_counts text n (h n (omega arith)) ∙ feeds_none text n (λ k below. h k (omega (arith, below)))

pub feeds_drop : (text : List ℕ) (m n : ℕ) → feeds text (m + n) ≡ feeds text m + feeds (drop m text) n
feeds_drop text m zero =
    let there : m + zero ≡ m = omega arith in
    let none : feeds text m ≡ feeds text m + zero = omega arith in
    ap (feeds text) there ∙ none
feeds_drop text m (suc n) =
    let here : get_or text (m + n) 0 ≡ get_or (drop m text) n 0 = sym (get_or-drop m text n 0) in
    let there : m + suc n ≡ suc (m + n) = omega arith in
    let grouped : (a b c : ℕ) → a + b + c ≡ a + (b + c) = λ a b c. omega arith in
    ap (feeds text) there ∙ ap (λ k. k + (if get_or text (m + n) 0 == 10 then 1 else 0)) (feeds_drop text m n)
    ∙ ap (λ c. feeds text m + feeds (drop m text) n + (if c == 10 then 1 else 0)) here
    ∙ grouped (feeds text m) (feeds (drop m text) n) (if get_or (drop m text) n 0 == 10 then 1 else 0)

pub tame_utf8 : (text : List ℕ) (n : ℕ) → IsUtf8 text → IsTameFront text n → IsUtf8 (drop n text)
tame_utf8 text zero u h = subst IsUtf8 (sym (drop_none text)) u
tame_utf8 text (suc n) u h =
    let within = h.within in
    let cut : IsCharBoundary text (n + 1) =
    IsCharBoundary-after_ascii text n u (omega (arith, within)) (tame_small (get_or text n 0) (h.tame n (omega arith))) in
    IsUtf8-drop text (suc n) u (subst (IsCharBoundary text) (omega arith) cut)

-- The word at the front

pub record First (text : List ℕ) (n : ℕ) : Type 0 where
  pub value : TokenValue
  pub no_hash : value ≢ Hash
  pub size : ℕ
  pub is : IsPlainWord text value size
  pub fits : size ≤ n
  pub no_feed : (k : ℕ) → k < size → (get_or text k 0 == 10) ≡ false
  pub ends : is_decimal (get_or text size 0) ≡ true → continues (get_or text (size - 1) 0) ≡ false

-- what is left after it
pub tame_after : (text : List ℕ) (n m : ℕ) → IsTame text n → 0 < m → m ≤ n
    → (is_decimal (get_or text m 0) ≡ true → continues (get_or text (m - 1) 0) ≡ false) → IsTame (drop m text) (n - m)
tame_after text n m h some le ends =
    let more = h.more in
    let size = length-drop m text in
    record {
      front = record {
        within = omega (arith, more, size);
        tame = λ k below. subst (λ c. is_tame c ≡ true) (sym (get_or-drop m text k 0)) (h.front.tame (m + k) (omega (arith, below, le)));
        digits = λ k below d. after k below (subst (λ c. is_decimal c ≡ true) (get_or-drop m text k 0) d);
      };
      more = omega (arith, more, size, le);
      ends = λ left.
          let before : get_or text (n - 1) 0 ≡ get_or (drop m text) (n - m - 1) 0 =
          ap (λ k. get_or text k 0) (omega (arith, le, left)) ∙ sym (get_or-drop m text (n - m - 1) 0) in
          let here : get_or text n 0 ≡ get_or (drop m text) (n - m) 0 = ap (λ k. get_or text k 0) (omega (arith, le)) ∙ sym (get_or-drop m text (n - m) 0) in
          ap (λ c. parts c (get_or (drop m text) (n - m) 0)) (sym before) ∙ ap (λ d. parts (get_or text (n - 1) 0) d) (sym here) ∙ h.ends (omega (arith, left));
    }
  where
    after : (k : ℕ) → k < n - m → is_decimal (get_or text (m + k) 0) ≡ true
        → (0 < k) × (continues (get_or (drop m text) (k - 1) 0) ≡ true)
    after zero below d =
        let e : is_decimal (get_or text m 0) ≡ true = subst (λ j. is_decimal (get_or text j 0) ≡ true) (omega arith) d in
        let k = h.front.digits m (omega (arith, below)) e in
        absurd (false≢true (sym (ends e) ∙ k.1))
    after (suc k) below d =
        let e = h.front.digits (m + suc k) (omega (arith, below)) d in
        let one : suc k - 1 ≡ k = omega arith in
        let back : m + k ≡ m + suc k - 1 = omega arith in
        let there : get_or (drop m text) (suc k - 1) 0 ≡ get_or text (m + suc k - 1) 0 =
        ap (λ j. get_or (drop m text) j 0) one ∙ get_or-drop m text k 0 ∙ ap (λ j. get_or text j 0) back in
        (omega arith, ap continues there ∙ e.1)

-- what the text goes on with after some of these bytes
follows_at : (text : List ℕ) (n k : ℕ) → IsTame text n → 0 < k → k ≤ n → Follows (get_or text k 0)
follows_at text n k h some le = elim (cases_eq k n) [
  | inl same ↦ subst (λ j. Follows (get_or text j 0)) (sym same) (parted_follows (get_or text (n - 1) 0) (get_or text n 0) (h.ends (omega (arith, some, same))))
  | inr other ↦ tame_follows (get_or text k 0) (h.front.tame k (omega (arith, le, other)))
]

-- an identifier
abbrev extent : List ℕ → ℕ
extent text = prefix_len continues text

first_identifier : (text : List ℕ) (n : ℕ) → IsUtf8 text → IsTame text n → 0 < n → begins (get_or text 0 0) ≡ true → First text n
first_identifier text n u h some b = record {
  value = Ident (take (extent text) text);
  no_hash = λ e. cc;
  size = extent text;
  is = plain_identifier text (extent text) u le (omega (arith, some, h.more)) b all (λ l. stop l) plainly;
  fits = fits;
  no_feed = λ k below. goes_no_feed (get_or text k 0) (goes k below);
  ends = λ d. by (get_or text (extent text) 0) d;
}
  where
    goes : (k : ℕ) → k < extent text → continues (get_or text k 0) ≡ true
    goes k below = prefix_len_passes continues text k 0 below

    le : extent text ≤ length text
    le = prefix_len-le-length continues text

    stop : extent text < length text → continues (get_or text (extent text) 0) ≡ false
    stop l = prefix_len_stops continues text 0 l

    all : list_all continues (take (extent text) text) ≡ true
    all =
        let long : length (take (extent text) text) ≡ extent text = length-take-le (extent text) text le in
        list_all-from_AllPass continues (take (extent text) text)
        (All-from_get_or (λ x. continues x ≡ true) (take (extent text) text) 0
        (λ k inside. let to : k < extent text = omega (arith, long, inside) in ap continues (get_or-take (extent text) text k 0 to) ∙ goes k to))

    goes_no_feed : (c : ℕ) → continues c ≡ true → (c == 10) ≡ false
    goes_no_feed c k = ne_eqb c 10 (λ e. absurd (false≢true (sym (ap continues e) ∙ k)))

    positive : 0 < extent text
    positive = elim (cases_eq (extent text) 0) [
      | inl none ↦ absurd (false≢true (sym (stop (omega (arith, none, some, h.more))) ∙ subst (λ j. continues (get_or text j 0) ≡ true) (sym none) (begins_more (get_or text 0 0) b)))
      | inr other ↦ omega (arith, other)
    ]

    fits : extent text ≤ n
    fits = elim (cases_le (extent text) n) [
      | inl l ↦ l
      | inr l ↦
          let bad = together (get_or text (n - 1) 0) (get_or text n 0) (goes (n - 1) (omega (arith, l, some))) (goes n (omega (arith, l))) in
          absurd (false≢true (sym bad ∙ h.ends some))
    ]
      where
        cases_le : (a b : ℕ) → (a ≤ b) ⊎ (b < a)
        cases_le a b = grind arith

    plainly : Stops (λ _. false) text (extent text)
    plainly l = let f = follows_at text n (extent text) h positive fits in (f.small, f.no_backslash, refl)

    by : (d : ℕ) → is_decimal (get_or text (extent text) 0) ≡ true → continues (get_or text (extent text - 1) 0) ≡ false
    by d e =
        let more : continues (get_or text (extent text) 0) ≡ true = decimal_more (get_or text (extent text) 0) e in
        absurd (false≢true (sym (stop (omega (arith, fits, h.more))) ∙ more))

-- Punctuators

single_small : (c : ℕ) → is_some (single c) ≡ true → c < 128
single_small c h = by (single c) refl h
  where
    by : (o : Option Punctuator) → single c ≡ o → is_some o ≡ true → c < 128
    by None e k = absurd (false≢true k)
    by (Some p) e k = punct_small c [] p (single_is c ∙ e)

single_no_more : (c : ℕ) → is_some (single c) ≡ true → continues c ≡ false
single_no_more c h = not-true _ (implied (λ c. is_some (single c)) (λ c. not (continues c)) refl c (single_small c h) h)

single_no_feed : (c : ℕ) → is_some (single c) ≡ true → (c == 10) ≡ false
single_no_feed c h = not-true _ (implied (λ c. is_some (single c)) (λ c. not (c == 10)) refl c (single_small c h) h)

-- the second character of a punctuator is an equals sign, or the first again
second_is : (c d : ℕ) (q : Punctuator) → punct_of (c ∷ d ∷ []) ≡ Some q → (d ≡ 61) ⊎ (d ≡ c)
second_is c d q h = elim (cases_eq d 61) [
  | inl e ↦ inl e
  | inr n ↦ elim (cases_eq d c) [
    | inl e ↦ inr e
    | inr m ↦ let none = pair_none c d (ne_eqb d 61 n) (ne_eqb d c m) in cc
  ]
]

lone_single_alone : (c : ℕ) → is_lone c ≡ true → punct_of (c ∷ c ∷ []) ≡ None
lone_single_alone c lone = none (punct_of (c ∷ c ∷ [])) refl
  where
    none : (o : Option Punctuator) → punct_of (c ∷ c ∷ []) ≡ o → punct_of (c ∷ c ∷ []) ≡ None
    none None e = e
    none (Some p) e =
        let bad = (or_parts (is_some (punct_of (c ∷ c ∷ []))) _ ((lone_of c lone).alone c)).0 in
        absurd (false≢true (sym bad ∙ ap is_some e))

-- so it doesn't part from the first
second_joins : (c d : ℕ) (q : Punctuator) → punct_of (c ∷ d ∷ []) ≡ Some q → continues c ≡ false → parts c d ≡ false
second_joins c d q h k = elim (second_is c d q h) [
  | inl e ↦ subst (λ x. parts c x ≡ false) (sym e) refl
  | inr e ↦ by (is_lone d) refl e
]
  where
    by : (b : Bool) → is_lone d ≡ b → d ≡ c → (b || (continues d && not (continues c || is_point c))) ≡ false
    by true lone same =
        let none = lone_single_alone d lone in
        let some : punct_of (d ∷ d ∷ []) ≡ Some q = ap (λ x. punct_of (x ∷ d ∷ [])) same ∙ h in
        cc
    by false lone same = ap (λ b. b && not (continues c || is_point c)) (ap continues same ∙ k)

third_is : (c d e : ℕ) (q : Punctuator) → punct_of (c ∷ d ∷ e ∷ []) ≡ Some q → e ≡ 61
third_is c d e q h = elim (cases_eq e 61) [
  | inl same ↦ same
  | inr n ↦ let none = no_triple_third c d e (ne_eqb e 61 n) in cc
]

joins_more : (c d : ℕ) (q : Punctuator) → punct_of (c ∷ d ∷ []) ≡ Some q → continues c ≡ false → continues d ≡ false
joins_more c d q h k = elim (second_is c d q h) [
  | inl e ↦ ap continues e
  | inr e ↦ ap continues e ∙ k
]

joins_no_feed : (c d : ℕ) (q : Punctuator) → punct_of (c ∷ d ∷ []) ≡ Some q → (c == 10) ≡ false → (d == 10) ≡ false
joins_no_feed c d q h k = elim (second_is c d q h) [
  | inl e ↦ ap (λ x. x == 10) e
  | inr e ↦ ap (λ x. x == 10) e ∙ k
]

-- a punctuator that begins no comment
module _ (text : List ℕ) (n : ℕ) (u : IsUtf8 text) (h : IsTame text n) (some : 0 < n) (is : is_some (single (get_or text 0 0)) ≡ true)
    (no_slash : (get_or text 0 0 == 47) ≡ false) where
  no_more : continues (get_or text 0 0) ≡ false
  no_more = single_no_more (get_or text 0 0) is

  no_feed_first : (get_or text 0 0 == 10) ≡ false
  no_feed_first = single_no_feed (get_or text 0 0) is

  longer : 1 < length text
  longer = let more = h.more in omega (arith, more, some)

  plainly : (k : ℕ) → 0 < k → k ≤ n → Stops (λ _. false) text k
  plainly k positive le l = let f = follows_at text n k h positive le in (f.small, f.no_backslash, refl)

  one : (p : Punctuator) → single (get_or text 0 0) ≡ Some p → punct_of (get_or text 0 0 ∷ []) ≡ Some p
  one p s = single_is (get_or text 0 0) ∙ s

  -- a digit comes after no point
  no_number : (is_point (get_or text 0 0) && is_decimal (get_or text 1 0)) ≡ false
  no_number = by (is_decimal (get_or text 1 0)) refl
    where
      alone : parts (get_or text 0 0) (get_or text 1 0) ≡ true → is_decimal (get_or text 1 0) ≡ true → (is_point (get_or text 0 0) && true) ≡ false
      alone part digit = elim (or_cases (is_lone (get_or text 1 0)) _ part) [
        | inl lone ↦ absurd (false≢true (sym (lone_no_decimal (get_or text 1 0) lone) ∙ digit))
        | inr number ↦
            let k = not-true _ (and_parts (continues (get_or text 1 0)) _ number).1 in
            grind (arith, or_parts)
      ]

      by : (b : Bool) → is_decimal (get_or text 1 0) ≡ b → (is_point (get_or text 0 0) && b) ≡ false
      by false digit = grind arith
      by true digit = elim (cases_eq n 1) [
        | inl last ↦ alone (subst (λ k. parts (get_or text (k - 1) 0) (get_or text k 0) ≡ true) last (h.ends some)) digit
        | inr other ↦
            let k = (h.front.digits 1 (omega (arith, some, other)) digit).1 in
            absurd (false≢true (sym no_more ∙ k))
      ]

  no_other : ((is_point (get_or text 0 0) && is_decimal (get_or text 1 0)) || begins_comment (get_or text 0 0) (get_or text 1 0)) ≡ false
  no_other = rw (no_number, no_slash) refl

  -- it goes on only with bytes of the front
  joins_within : (k : ℕ) → 0 < k → k ≤ n → parts (get_or text (k - 1) 0) (get_or text k 0) ≡ false → k < n
  joins_within k positive le joins = elim (cases_eq k n) [
    | inl same ↦
        let parted : parts (get_or text (k - 1) 0) (get_or text k 0) ≡ true =
        subst (λ j. parts (get_or text (j - 1) 0) (get_or text j 0) ≡ true) (sym same) (h.ends some) in
        absurd (false≢true (sym joins ∙ parted))
    | inr other ↦ omega (arith, le, other)
  ]

  pub first_punct : First text n
  first_punct = with_one (single (get_or text 0 0)) refl is
    where
      three : (p q x : Punctuator) → single (get_or text 0 0) ≡ Some p → punct_of (get_or text 0 0 ∷ get_or text 1 0 ∷ []) ≡ Some q
          → punct_of (get_or text 0 0 ∷ get_or text 1 0 ∷ get_or text 2 0 ∷ []) ≡ Some x → 1 < n → First text n
      three p q x s two all some_more =
          let last = third_is (get_or text 0 0) (get_or text 1 0) (get_or text 2 0) x all in
          let joins : parts (get_or text 1 0) (get_or text 2 0) ≡ false = subst (λ y. parts (get_or text 1 0) y ≡ false) (sym last) refl in
          let more = h.more in
          let fits = joins_within 2 (omega arith) (omega (arith, some_more)) joins in
          record {
            value = Punct x;
            no_hash = λ e. cc;
            size = 3;
            is = triple_word text q x u (omega (arith, more, some_more)) two all;
            fits = omega (arith, fits);
            no_feed = feed_of p q x s two last;
            ends = λ digit. ap continues last;
          }
        where
          feed_of : (p q x : Punctuator) → single (get_or text 0 0) ≡ Some p → punct_of (get_or text 0 0 ∷ get_or text 1 0 ∷ []) ≡ Some q
              → get_or text 2 0 ≡ 61 → (k : ℕ) → k < 3 → (get_or text k 0 == 10) ≡ false
          feed_of p q x s two last zero below = no_feed_first
          feed_of p q x s two last (suc zero) below = joins_no_feed (get_or text 0 0) (get_or text 1 0) q two no_feed_first
          feed_of p q x s two last (suc (suc zero)) below = ap (λ y. y == 10) last
          feed_of p q x s two last (suc (suc (suc k))) below = absurd (omega (arith, below))

      pair : (p q : Punctuator) → single (get_or text 0 0) ≡ Some p → punct_of (get_or text 0 0 ∷ get_or text 1 0 ∷ []) ≡ Some q → 1 < n
          → punct_of (get_or text 0 0 ∷ get_or text 1 0 ∷ get_or text 2 0 ∷ []) ≡ None → First text n
      pair p q s two some_more none = record {
        value = Punct q;
        no_hash = λ e. cc;
        size = 2;
        is = pair_word text q u longer two (stops_pair text (plainly 2 (omega arith) (omega (arith, some_more))) (λ l. none));
        fits = omega (arith, some_more);
        no_feed = feed_of;
        ends = λ digit. joins_more (get_or text 0 0) (get_or text 1 0) q two no_more;
      }
        where
          feed_of : (k : ℕ) → k < 2 → (get_or text k 0 == 10) ≡ false
          feed_of zero below = no_feed_first
          feed_of (suc zero) below = joins_no_feed (get_or text 0 0) (get_or text 1 0) q two no_feed_first
          feed_of (suc (suc k)) below = absurd (omega (arith, below))

      with_three : (p q : Punctuator) → single (get_or text 0 0) ≡ Some p → punct_of (get_or text 0 0 ∷ get_or text 1 0 ∷ []) ≡ Some q → 1 < n
          → (o : Option Punctuator) → punct_of (get_or text 0 0 ∷ get_or text 1 0 ∷ get_or text 2 0 ∷ []) ≡ o → First text n
      with_three p q s two more None none = pair p q s two more none
      with_three p q s two more (Some x) all = three p q x s two all more

      with_two : (p : Punctuator) → single (get_or text 0 0) ≡ Some p → (o : Option Punctuator)
          → punct_of (get_or text 0 0 ∷ get_or text 1 0 ∷ []) ≡ o → First text n
      with_two p s None none = record {
        value = Punct p;
        no_hash = λ e. cc;
        size = 1;
        is = single_word text p u (omega (arith, longer)) (one p s) (stops_single text (plainly 1 (omega arith) (omega (arith, some))) (λ l. none) (λ l. no_other));
        fits = omega (arith, some);
        no_feed = feed_of;
        ends = λ digit. no_more;
      }
        where
          feed_of : (k : ℕ) → k < 1 → (get_or text k 0 == 10) ≡ false
          feed_of zero below = no_feed_first
          feed_of (suc k) below = absurd (omega (arith, below))
      with_two p s (Some q) two =
          let joins = second_joins (get_or text 0 0) (get_or text 1 0) q two no_more in
          let more : 1 < n = joins_within 1 (omega arith) (omega (arith, some)) joins in
          with_three p q s two more (punct_of (get_or text 0 0 ∷ get_or text 1 0 ∷ get_or text 2 0 ∷ [])) refl

      with_one : (o : Option Punctuator) → single (get_or text 0 0) ≡ o → is_some o ≡ true → First text n
      with_one None s k = absurd (false≢true k)
      with_one (Some p) s k = with_two p s (punct_of (get_or text 0 0 ∷ get_or text 1 0 ∷ [])) refl

-- What stands at the front of such bytes

pub data Piece (text : List ℕ) (n : ℕ) : Type 0 where
  space : is_space (get_or text 0 0) ≡ true → Piece text n
  feed : get_or text 0 0 ≡ 10 → Piece text n
  word : First text n → Piece text n

pub first_piece : (text : List ℕ) (n : ℕ) → IsUtf8 text → IsTame text n → 0 < n → Piece text n
first_piece text n u h some =
    let tame = h.front.tame 0 some in
    elim (or_cases (is_space (get_or text 0 0)) _ (tame_begins (get_or text 0 0) tame (no_digit (is_decimal (get_or text 0 0)) refl))) [
      | inl is ↦ space is
      | inr more ↦ elim (or_cases (get_or text 0 0 == 10) _ more) [
        | inl is ↦ feed (eqb-true (get_or text 0 0) 10 is)
        | inr more ↦ elim (or_cases (begins (get_or text 0 0)) _ more) [
          | inl is ↦ word (first_identifier text n u h some is)
          | inr is ↦
              let both = and_parts (is_some (single (get_or text 0 0))) _ is in
              word (first_punct text n u h some both.0 (not-true _ both.1))
        ]
      ]
    ]
  where
    no_digit : (b : Bool) → is_decimal (get_or text 0 0) ≡ b → is_decimal (get_or text 0 0) ≡ false
    no_digit false e = e
    no_digit true e = let below = (h.front.digits 0 some e).0 in absurd (omega (arith, below))

-- what a text goes on with after a newline
pub feed_follows : (text : List ℕ) (n : ℕ) → IsTame text n → 0 < n → 1 < length text → (get_or text 1 0 < 128) × ((get_or text 1 0 == 13) ≡ false)
feed_follows text n h some l = let f = follows_at text n 1 h (omega arith) (omega (arith, some)) in (f.small, f.no_return)

space_no_more : (c : ℕ) → is_space c ≡ true → continues c ≡ false
space_no_more c h =
    let small : c < 128 = (plain_parts c (space_plain c h)).small in
    not-true _ (implied is_space (λ c. not (continues c)) refl c small h)

space_no_feed : (c : ℕ) → is_space c ≡ true → (c == 10) ≡ false
space_no_feed c h =
    let small : c < 128 = (plain_parts c (space_plain c h)).small in
    not-true _ (implied is_space (λ c. not (c == 10)) refl c small h)

-- after a space or a newline
pub tame_after_one : (text : List ℕ) (n : ℕ) → IsTame text n → 0 < n → (is_space (get_or text 0 0) || (get_or text 0 0 == 10)) ≡ true
    → IsTame (drop 1 text) (n - 1)
tame_after_one text n h some is =
    tame_after text n 1 h (omega arith) (omega (arith, some)) (λ digit. elim (or_cases (is_space (get_or text 0 0)) _ is) [
      | inl s ↦ space_no_more (get_or text 0 0) s
      | inr e ↦ ap continues (eqb-true (get_or text 0 0) 10 e)
    ])

pub space_counts : (text : List ℕ) → is_space (get_or text 0 0) ≡ true → feeds text 1 ≡ 0
space_counts text h = other_counts text 0 (space_no_feed (get_or text 0 0) h)

pub feed_counts : (text : List ℕ) → get_or text 0 0 ≡ 10 → feeds text 1 ≡ 1
feed_counts text h = ap (λ c. 0 + (if c == 10 then 1 else 0)) h

-- What was found

hash_apart : (f : Form) (w : List ℕ) → is_hash_form f ≡ false → value_of f w ≢ Hash
hash_apart form.Identifier w h = λ e. cc
hash_apart (form.Integer n) w h = λ e. cc
hash_apart (form.Unsigned n) w h = λ e. cc
hash_apart form.Float w h = λ e. cc
hash_apart form.SuffixedFloat w h = λ e. cc
hash_apart (form.Punct p) w h = λ e. cc
hash_apart form.Hash w h = cc

parted : (c d : ℕ) → continues d ≡ true → (continues c || is_point c) ≡ false → parts c d ≡ true
parted c d more before = rw (more, before) (or_last (is_lone d))
  where
    or_last : (b : Bool) → (b || true) ≡ true
    or_last true = refl
    or_last false = refl

-- an identifier's first byte
pub last_begins : (text rest : List ℕ) (m : ℕ) → BeginsLast text m → is_lone (get_or text m 0) ≡ false → rest ≡ drop m text → begins (get_or rest 0 0) ≡ true
last_begins text rest m last apart same =
    let here : get_or rest 0 0 ≡ get_or text m 0 = ap (λ t. get_or t 0 0) same ∙ first_dropped m text in
    ap begins here ∙ or_second _ _ last.start apart

-- an identifier among such bytes
pub name_words : (text rest : List ℕ) (n m newlines : ℕ) (w : Word) → IsTameFront text n → m < n → BeginsLast text m
    → is_lone (get_or text m 0) ≡ false → newlines ≡ feeds text m → rest ≡ drop m text → IsFirstWord rest w → is_hash_form w.form ≡ false
    → ArePlainWords text (record { before = m; newlines = newlines; taken = w.taken })
name_words text rest n m newlines w h below last apart count same first no_hash =
    let within = h.within in
    record {
      tame = record {
        front = front_shorter text m n (omega (arith, below)) h;
        more = omega (arith, within, below);
        ends = λ some. parted (get_or text (m - 1) 0) (get_or text m 0) (begins_more (get_or text m 0) (or_second _ _ last.start apart)) (last.before apart some);
      };
      newlines = count;
      value = value_of w.form (take w.taken rest);
      no_hash = hash_apart w.form (take w.taken rest) no_hash;
      word = subst (λ t. IsPlainWord t (value_of w.form (take w.taken rest)) w.taken) same first;
    }

-- a number after such bytes
pub number_words : (text rest : List ℕ) (n newlines : ℕ) (w : Word) → IsTameFront text n → newlines ≡ feeds text n → BeginsNumber text n
    → rest ≡ drop n text → IsFirstWord rest w → is_hash_form w.form ≡ false
    → ArePlainWords text (record { before = n; newlines = newlines; taken = w.taken })
number_words text rest n newlines w h count number same first apart = record {
  tame = record {
    front = h;
    more = number.within;
    ends = λ some. parted (get_or text (n - 1) 0) (get_or text n 0) (decimal_more (get_or text n 0) number.digit) (number.before some);
  };
  newlines = count;
  value = value_of w.form (take w.taken rest);
  no_hash = hash_apart w.form (take w.taken rest) apart;
  word = subst (λ t. IsPlainWord t (value_of w.form (take w.taken rest)) w.taken) same first;
}

-- a lone punctuator after them
pub lone_words : (text : List ℕ) (n m newlines : ℕ) → IsUtf8 text → IsTameFront text n → m < n → is_lone (get_or text m 0) ≡ true → newlines ≡ feeds text m
    → ArePlainWords text (record { before = m; newlines = newlines; taken = 1 })
lone_words text n m newlines u h below lone count = by (single (get_or text m 0)) refl (lone_single (get_or text m 0) lone)
  where
    front : IsTameFront text m
    front = front_shorter text m n (omega (arith, below)) h

    more : m < length text
    more = let within = h.within in omega (arith, within, below)

    by : (o : Option Punctuator) → single (get_or text m 0) ≡ o → is_some o ≡ true
        → ArePlainWords text (record { before = m; newlines = newlines; taken = 1 })
    by None e k = absurd (false≢true k)
    by (Some p) e k =
        let here : get_or (drop m text) 0 0 ≡ get_or text m 0 = first_dropped m text in
        record {
          tame = record { front = front; more = more; ends = λ some. rw lone refl };
          newlines = count;
          value = Punct p;
          no_hash = λ e. cc;
          word = lone_word (drop m text) p (tame_utf8 text m u front) (omega (arith, more, length-drop m text))
              (single_is (get_or (drop m text) 0 0) ∙ ap single here ∙ e) (ap is_lone here ∙ lone);
        }
