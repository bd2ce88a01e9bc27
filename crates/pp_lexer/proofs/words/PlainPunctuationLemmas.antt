-- Punctuators and `#` at the front of a plain text.
use Rattle.std.proofs.Common.{◌≡◌, ℕ, suc, ◌+◌, ◌<◌, ◌≤◌, List, [], ◌∷◌, ◌++◌, length, take, drop, get_or, Bool, true, false, not, ◌&&◌, ◌||◌, ◌==◌, nat_lt, if◌then◌else◌, refl, sym, ◌∙◌, ap, subst, arith, Option, Some, None, is_some, Ok, inl, inr}
use Rattle.std.proofs.Math.Bool.{and-false, and-true, and_self}
use Rattle.std.specs.List.{list_all}
use Rattle.std.specs.Str.{chars, IsUtf8, IsAscii}
use Rattle.std.proofs.lemmas.Bool.{and_parts, and_right, or_parts, or_cases, eqb-true, false≢true, or_from, and_from, not-true, ltb-true}
use Rattle.std.proofs.lemmas.Str.{IsCharBoundary-after_ascii}
use Rattle.std.proofs.lemmas.Str.Ascii.{IsAscii-cons}
use Rattle.unicode_ident.proofs.IdentLemmas.{is_xid_start-ascii}
use Rattle.pp_lexer.specs.declared.rules.Rules.{Rules}
use Rattle.pp_lexer.specs.declared.token.Punct.{Punct as Punctuator}
use Rattle.pp_lexer.specs.declared.token.Punct.TheVariants.{AddAssign, LeftShiftAssign, RightShiftAssign}
use Rattle.pp_lexer.specs.declared.lexer.item.TokenValue.TheVariants.{Hash, Punct}
use Rattle.pp_lexer.specs.Continuations.{continued}
use Rattle.pp_lexer.specs.inner.Fronts.{spots_from, is_plain, run}
use Rattle.pp_lexer.specs.Identifiers.{is_start}
use Rattle.pp_lexer.specs.Lines.{pieces}
use Rattle.pp_lexer.specs.Numbers.{is_point, is_decimal, begins_number}
use Rattle.pp_lexer.specs.inner.PlainWords.{begins, begins_comment, is_lone, continues_punct, continues_pair, single, before_equals, doubled, Stops, IsFront, IsPlainWord}
use Rattle.pp_lexer.specs.Punctuators.{punctuator, punct_of, is_punctuator}
use Rattle.pp_lexer.specs.inner.Readers.{placed_from}
use Rattle.pp_lexer.specs.Reading.{letters}
use Rattle.pp_lexer.specs.Surroundings.{begins_with}
use Rattle.pp_lexer.specs.Words.{is_blank, word_at}
use Rattle.pp_lexer.proofs.characters.FrontsLemmas.{utf8_after, plain_parts, joined_is_not, slash_first, nothing_begins}
use Rattle.pp_lexer.proofs.characters.PlainFrontsLemmas.{plain_ascii, front_plain}
use Rattle.pp_lexer.proofs.words.PlainWordsLemmas.{word_always, word_before}
use Rattle.pp_lexer.proofs.words.PunctuationLemmas.{at_hash, at_punct}
use Rattle.pp_lexer.proofs.words.PunctuatorsLemmas.{map_choice, IsLongest, found, is_punctuator-closed, one_at_end, one_alone, two_at_end, two_alone, three_of}
use Rattle.pp_lexer.proofs.words.WordAtLemmas.{other_first}

-- what the spellings of punctuators have in common

-- the first character: it begins neither an identifier nor a number, nor is it a blank or a `#`
abbrev first_fits : ℕ → Bool
first_fits c = nat_lt c 128 && (not (is_blank c) && (not (c == 10) && (not (begins c) && (not (is_decimal c) && not (c == 35)))))

-- no phase looks at it, or it is a slash and an equals sign follows
abbrev passes : ℕ → List ℕ → Bool
passes c [] = is_plain c || (c == 47)
passes c (d ∷ ds) = (is_plain c || ((c == 47) && (d == 61))) && (is_plain d && (not (is_decimal d) && list_all is_plain ds))

abbrev fits : List ℕ → Bool
fits [] = false
fits (c ∷ cs) = first_fits c && passes c cs

all_fit : (p : Punctuator) → fits (punctuator p) ≡ true
all_fit AddAssign = refl
all_fit _ = refl

spelling_fits : (w : List ℕ) (p : Punctuator) → punct_of w ≡ Some p → fits w ≡ true
spelling_fits w p h = ap fits (sym (found w p h)) ∙ all_fit p

record First (c : ℕ) : Type 0 where
  small : c < 128
  no_blank : is_blank c ≡ false
  no_feed : (c == 10) ≡ false
  no_letter : begins c ≡ false
  no_decimal : is_decimal c ≡ false
  no_hash : (c == 35) ≡ false

first_of : (c : ℕ) (cs : List ℕ) (p : Punctuator) → punct_of (c ∷ cs) ≡ Some p → First c
first_of c cs p h = grind (arith, spelling_fits, ltb-true, not-true)

pub punct_small : (c : ℕ) (cs : List ℕ) (p : Punctuator) → punct_of (c ∷ cs) ≡ Some p → c < 128
punct_small c cs p h = (first_of c cs p h).small

passes_of : (c : ℕ) (cs : List ℕ) (p : Punctuator) → punct_of (c ∷ cs) ≡ Some p → passes c cs ≡ true
passes_of c cs p h = (and_parts (first_fits c) (passes c cs) (spelling_fits (c ∷ cs) p h)).1

-- no punctuator has such a character after another
unspelled : (c d : ℕ) (ds : List ℕ) → is_plain d ≡ false → is_some (punct_of (c ∷ d ∷ ds)) ≡ false
unspelled c d ds n = grind (arith, passes_of)

unspelled_third : (c d e : ℕ) → is_plain e ≡ false → is_some (punct_of (c ∷ d ∷ e ∷ [])) ≡ false
unspelled_third c d e n = grind (arith, and_parts, passes_of, false≢true)

nothing_of : (o : Option Punctuator) → is_some o ≡ false → o ≡ None
nothing_of None h = refl
nothing_of (Some p) h = cc

-- a newline or a mark continues nothing
break_after : (c d : ℕ) → is_plain d ≡ false → is_decimal d ≡ false → ((d == 47) || (d == 42)) ≡ false → continues_punct c d ≡ false
break_after c d n k m = grind (arith, unspelled)

-- what stands there

starts_nothing : (c : ℕ) → First c → is_start c ≡ false
starts_nothing c f = ap (λ t. t || (c == 95)) (is_xid_start-ascii c f.small) ∙ f.no_letter

no_number : (c : ℕ) (cs : List ℕ) → First c → (is_point c && begins_with is_decimal cs) ≡ false → begins_number (c ∷ cs) ≡ false
no_number c cs f h = or_from (is_decimal c) (is_point c && begins_with is_decimal cs) f.no_decimal h

longest_word : (rules : Rules) (c : ℕ) (cs : List ℕ) (n : ℕ) (p : Punctuator) → First c → (is_point c && begins_with is_decimal cs) ≡ false
    → IsLongest (c ∷ cs) n (Some p)
    → word_at rules (c ∷ cs) ≡ record { value = Ok (Punct p); taken = n }
longest_word rules c cs n p f h l =
    other_first rules (c ∷ cs) f.no_feed (starts_nothing c f) (no_number c cs f h) ∙ at_punct rules (c ∷ cs) p f.no_hash (sym l.value)
    ∙ ap (λ k. record { value = Ok (Punct p); taken = k }) l.taken

single_at : (rules : Rules) (c : ℕ) (cs : List ℕ) (p : Punctuator) → punct_of (c ∷ []) ≡ Some p → begins_with (continues_punct c) cs ≡ false
    → word_at rules (c ∷ cs) ≡ record { value = Ok (Punct p); taken = 1 }
single_at rules c [] p one h = longest_word rules c [] 1 p (first_of c [] p one) (and_right (is_point c) false refl) (one_at_end c p one)
single_at rules c (d ∷ cs) p one h =
    let a = or_parts (is_some (punct_of (c ∷ d ∷ []))) _ h in
    longest_word rules c (d ∷ cs) 1 p (first_of c [] p one) (or_parts (is_point c && is_decimal d) (begins_comment c d) a.1).0
    (one_alone c p one d cs (nothing_of (punct_of (c ∷ d ∷ [])) a.0))

-- the front of a longer one is a punctuator too
one_of : (c d : ℕ) (q : Punctuator) → punct_of (c ∷ d ∷ []) ≡ Some q → (p : Punctuator) × (punct_of (c ∷ []) ≡ Some p)
unfolding is_punctuator
one_of c d q h = by (punct_of (c ∷ [])) refl (is_punctuator-closed (c ∷ d ∷ []) 0 (ap is_some h))
  where
    by : (o : Option Punctuator) → punct_of (c ∷ []) ≡ o → is_some (punct_of (c ∷ [])) ≡ true → (p : Punctuator) × (punct_of (c ∷ []) ≡ Some p)
    by None e t = absurd (false≢true (sym (ap is_some e) ∙ t))
    by (Some p) e t = (p, e)

pub second_no_decimal : (c d : ℕ) (ds : List ℕ) (q : Punctuator) → punct_of (c ∷ d ∷ ds) ≡ Some q → is_decimal d ≡ false
second_no_decimal c d ds q h = grind (arith, and_parts, passes_of)

pair_at : (rules : Rules) (c d : ℕ) (cs : List ℕ) (q : Punctuator) → punct_of (c ∷ d ∷ []) ≡ Some q → begins_with (continues_pair c d) cs ≡ false
    → word_at rules (c ∷ d ∷ cs) ≡ record { value = Ok (Punct q); taken = 2 }
pair_at rules c d cs q two h =
    let one = one_of c d q two in
    longest_word rules c (d ∷ cs) 2 q (first_of c (d ∷ []) q two) (and_right (is_point c) (is_decimal d) (second_no_decimal c d [] q two))
    (by cs h one.0 one.1)
  where
    by : (cs : List ℕ) → begins_with (continues_pair c d) cs ≡ false → (p : Punctuator) → punct_of (c ∷ []) ≡ Some p → IsLongest (c ∷ d ∷ cs) 2 (Some q)
    by [] h p one = two_at_end c p one d q two
    by (e ∷ cs) h p one = two_alone c p one d q two e cs (nothing_of (punct_of (c ∷ d ∷ e ∷ [])) h)

triple_at : (rules : Rules) (c d e : ℕ) (cs : List ℕ) (q x : Punctuator) → punct_of (c ∷ d ∷ []) ≡ Some q → punct_of (c ∷ d ∷ e ∷ []) ≡ Some x
    → word_at rules (c ∷ d ∷ e ∷ cs) ≡ record { value = Ok (Punct x); taken = 3 }
triple_at rules c d e cs q x two three =
    let one = one_of c d q two in
    longest_word rules c (d ∷ e ∷ cs) 3 x (first_of c (d ∷ []) q two) (and_right (is_point c) (is_decimal d) (second_no_decimal c d [] q two))
    (three_of c one.0 one.1 d q two e cs x three)

-- the front of a text

front_none : (text : List ℕ) → IsFront text 0
front_none [] line at = ap (λ k. spots_from line k []) (omega arith)
front_none (c ∷ text) line at = ap (λ k. spots_from line k (c ∷ text)) (omega arith)

-- no comment begins at a slash before this text
before_none : (P : ℕ → Bool) → P 10 ≡ false → (line at : ℕ) (text : List ℕ) → IsUtf8 text
    → (0 < length text → (get_or text 0 0 < 128) × ((get_or text 0 0 == 92) ≡ false) × (P (get_or text 0 0) ≡ false))
    → begins_with (λ q. P q.char) (continued (placed_from line at (pieces (chars text)))) ≡ false
before_none P feed line at [] u h = nothing_begins (λ q. P q.char) line at
before_none P feed line at (b ∷ text) u h = let k = h (omega arith) in joined_is_not P feed line at b text k.0 k.1 k.2 u

slash_front : (n : ℕ) (text : List ℕ) → IsUtf8 (47 ∷ text) → (0 < length text → (get_or text 0 0 < 128) × ((get_or text 0 0 == 92) ≡ false)
    × (((get_or text 0 0 == 47) || (get_or text 0 0 == 42)) ≡ false)) → IsFront text n
    → IsFront (47 ∷ text) (suc n)
slash_front n text u h f line at =
    let v : IsUtf8 text = utf8_after 47 text (omega arith) u in
    let there : at + 1 + n ≡ at + suc n = omega arith in
    slash_first line at text u
    (before_none (λ c. c == 47) refl line (at + 1) text v (λ l. let k = h l in (k.0, k.1, (or_parts (get_or text 0 0 == 47) (get_or text 0 0 == 42) k.2).0)))
    (before_none (λ c. c == 42) refl line (at + 1) text v (λ l. let k = h l in (k.0, k.1, (or_parts (get_or text 0 0 == 47) (get_or text 0 0 == 42) k.2).1)))
    ∙ ap (λ ss. record { c = 47; line = line; begin = at; end = at + 1 } ∷ ss)
    (f line (at + 1) ∙ ap (λ k. run line (at + 1) (take n text) ++ spots_from line k (drop n text)) there)

take_one : (c : ℕ) (text : List ℕ) → take 1 (c ∷ text) ≡ c ∷ []
take_one c [] = refl
take_one c (d ∷ text) = refl

take_two : (c d : ℕ) (text : List ℕ) → take 2 (c ∷ d ∷ text) ≡ c ∷ d ∷ []
take_two c d text = ap (λ t. c ∷ t) (take_one d text)

take_three : (c d e : ℕ) (text : List ℕ) → take 3 (c ∷ d ∷ e ∷ text) ≡ c ∷ d ∷ e ∷ []
take_three c d e text = ap (λ t. c ∷ t) (take_two d e text)

no_more_ascii : IsAscii []
no_more_ascii = λ i. omega arith

plain_small : (c : ℕ) → is_plain c ≡ true → c < 128
plain_small c h = (plain_parts c h).small

-- Hash

hash_at : (rules : Rules) (cs : List ℕ) → word_at rules (35 ∷ cs) ≡ record { value = Ok Hash; taken = 1 }
hash_at rules cs = grind (arith, is_xid_start-ascii, other_first, at_hash)

pub hash_word : (text : List ℕ) → IsUtf8 text → 0 < length text → get_or text 0 0 ≡ 35 → IsPlainWord text Hash 1
hash_word [] u some h = absurd (omega arith)
hash_word (c ∷ text) u some h =
    let one : take 1 (c ∷ text) ≡ c ∷ [] = take_one c text in
    let plain : list_all is_plain (take 1 (c ∷ text)) ≡ true = ap (list_all is_plain) one ∙ ap (λ b. list_all is_plain (b ∷ [])) h in
    word_always (c ∷ text) 1 Hash (omega arith) (omega arith)
    (IsCharBoundary-after_ascii (c ∷ text) 0 u some (omega (arith, h))) (plain_ascii (take 1 (c ∷ text)) plain)
    (front_plain 1 (c ∷ text) u (omega arith) plain) (ap is_blank h) refl
    (λ rules line at. ap (λ t. word_at rules (t ++ letters (spots_from line at (drop 1 (c ∷ text))))) (one ∙ ap (λ b. b ∷ []) h)
    ∙ hash_at rules (letters (spots_from line at (drop 1 (c ∷ text)))))

-- One character

single_front : (c : ℕ) (text : List ℕ) → IsUtf8 (c ∷ text) → (is_plain c || (c == 47)) ≡ true → Stops (continues_punct c) (c ∷ text) 1 → IsFront (c ∷ text) 1
single_front c text u h stops = elim (or_cases (is_plain c) (c == 47) h) [
  | inl p ↦ front_plain 1 (c ∷ text) u (omega arith) (ap (list_all is_plain) (take_one c text) ∙ ap (λ t. t && true) p)
  | inr e ↦
      let k : c ≡ 47 = eqb-true c 47 e in
      subst (λ b. IsFront (b ∷ text) 1) (sym k) (slash_front 0 text (subst (λ b. IsUtf8 (b ∷ text)) k u) (λ l. let s = stops (omega arith) in
      let a = or_parts (is_some (punct_of (c ∷ get_or text 0 0 ∷ []))) _ s.2 in
      let b = or_parts (is_point c && is_decimal (get_or text 0 0)) (begins_comment c (get_or text 0 0)) a.1 in
      (s.0, s.1, sym (ap (λ t. t && ((get_or text 0 0 == 47) || (get_or text 0 0 == 42))) e) ∙ b.1)) (front_none text))
]

pub single_word : (text : List ℕ) (p : Punctuator) → IsUtf8 text → 0 < length text → punct_of (get_or text 0 0 ∷ []) ≡ Some p
    → Stops (continues_punct (get_or text 0 0)) text 1 → IsPlainWord text (Punct p) 1
single_word [] p u some h stops = absurd (omega arith)
single_word (c ∷ text) p u some h stops =
    let f = first_of c [] p h in
    let one : take 1 (c ∷ text) ≡ c ∷ [] = take_one c text in
    word_before (continues_punct c) (break_after c 10 refl refl refl) (break_after c 13 refl refl refl) (c ∷ text) 1 u (omega arith)
    (omega arith) stops (Punct p)
    (IsCharBoundary-after_ascii (c ∷ text) 0 u some f.small) (subst IsAscii (sym one) (IsAscii-cons c [] f.small no_more_ascii))
    (single_front c text u (passes_of c [] p h) stops) f.no_blank refl
    (λ rules cs k. ap (λ t. word_at rules (t ++ cs)) one ∙ single_at rules c cs p h k)

-- one that begins no other, whatever follows

pub record Lone (c : ℕ) : Type 0 where
  pub plain : is_plain c ≡ true
  pub alone : (d : ℕ) → continues_punct c d ≡ false

or_this : (c k : ℕ) (more : Bool) → Lone k → (more ≡ true → Lone c) → (if c == k then true else more) ≡ true → Lone c
or_this c k more this other h = grind arith

pub lone_of : (c : ℕ) → is_lone c ≡ true → Lone c
unfolding punct_of
lone_of c =
    or_this c 40 _ (record { plain = refl; alone = λ d. refl })
    (or_this c 41 _ (record { plain = refl; alone = λ d. refl })
    (or_this c 44 _ (record { plain = refl; alone = λ d. refl })
    (or_this c 58 _ (record { plain = refl; alone = λ d. refl })
    (or_this c 59 _ (record { plain = refl; alone = λ d. refl })
    (or_this c 63 _ (record { plain = refl; alone = λ d. refl })
    (or_this c 91 _ (record { plain = refl; alone = λ d. refl })
    (or_this c 93 _ (record { plain = refl; alone = λ d. refl })
    (or_this c 123 _ (record { plain = refl; alone = λ d. refl })
    (or_this c 125 _ (record { plain = refl; alone = λ d. refl })
    (or_this c 126 _ (record { plain = refl; alone = λ d. refl }) (λ h. absurd (false≢true h))))))))))))

lone_before : (c : ℕ) (cs : List ℕ) → Lone c → begins_with (continues_punct c) cs ≡ false
lone_before c [] l = refl
lone_before c (d ∷ cs) l = l.alone d

pub lone_word : (text : List ℕ) (p : Punctuator) → IsUtf8 text → 0 < length text → punct_of (get_or text 0 0 ∷ []) ≡ Some p
    → is_lone (get_or text 0 0) ≡ true → IsPlainWord text (Punct p) 1
lone_word [] p u some h lone = absurd (omega arith)
lone_word (c ∷ text) p u some h lone =
    let one : take 1 (c ∷ text) ≡ c ∷ [] = take_one c text in
    let f = first_of c [] p h in
    let l = lone_of c lone in
    let plain : list_all is_plain (take 1 (c ∷ text)) ≡ true = ap (list_all is_plain) one ∙ ap (λ b. b && true) l.plain in
    word_always (c ∷ text) 1 (Punct p) (omega arith) (omega arith)
    (IsCharBoundary-after_ascii (c ∷ text) 0 u some f.small) (plain_ascii (take 1 (c ∷ text)) plain)
    (front_plain 1 (c ∷ text) u (omega arith) plain) f.no_blank refl
    (λ rules line at.
    let more = letters (spots_from line at (drop 1 (c ∷ text))) in
    ap (λ t. word_at rules (t ++ more)) one ∙ single_at rules c more p h (lone_before c more l))

-- Two and three

record Pair (c d : ℕ) (ds : List ℕ) : Type 0 where
  first : (is_plain c || ((c == 47) && (d == 61))) ≡ true
  second : is_plain d ≡ true
  others : list_all is_plain ds ≡ true

pair_of : (c d : ℕ) (ds : List ℕ) (p : Punctuator) → punct_of (c ∷ d ∷ ds) ≡ Some p → Pair c d ds
pair_of c d ds p h = grind (arith, and_parts, passes_of)

long_front : (c d : ℕ) (n : ℕ) (text : List ℕ) → IsUtf8 (c ∷ d ∷ text) → n ≤ length text → (is_plain c || ((c == 47) && (d == 61))) ≡ true
    → is_plain d ≡ true → list_all is_plain (take n text) ≡ true
    → IsFront (c ∷ d ∷ text) (suc (suc n))
long_front c d n text u le h p all = elim (or_cases (is_plain c) ((c == 47) && (d == 61)) h) [
  | inl q ↦ front_plain (suc (suc n)) (c ∷ d ∷ text) u (omega arith)
      (and_from (is_plain c) (is_plain d && list_all is_plain (take n text)) q (and_from (is_plain d) (list_all is_plain (take n text)) p all))
  | inr e ↦
      let k = and_parts (c == 47) (d == 61) e in
      let a : c ≡ 47 = eqb-true c 47 k.0 in
      let b : d ≡ 61 = eqb-true d 61 k.1 in
      let w : IsUtf8 (47 ∷ d ∷ text) = subst (λ x. IsUtf8 (x ∷ d ∷ text)) a u in
      let v : IsUtf8 (d ∷ text) = utf8_after 47 (d ∷ text) (omega arith) w in
      subst (λ x. IsFront (x ∷ d ∷ text) (suc (suc n))) (sym a)
      (slash_front (suc n) (d ∷ text) w (λ l. (plain_small d p, ap (λ x. x == 92) b, ap (λ x. (x == 47) || (x == 42)) b))
      (front_plain (suc n) (d ∷ text) v (omega arith) (and_from (is_plain d) (list_all is_plain (take n text)) p all)))
]

pub pair_word : (text : List ℕ) (q : Punctuator) → IsUtf8 text → 1 < length text → punct_of (get_or text 0 0 ∷ get_or text 1 0 ∷ []) ≡ Some q
    → Stops (continues_pair (get_or text 0 0) (get_or text 1 0)) text 2
    → IsPlainWord text (Punct q) 2
pair_word [] q u some h stops = absurd (omega arith)
pair_word (c ∷ []) q u some h stops = absurd (omega arith)
pair_word (c ∷ d ∷ text) q u some h stops =
    let f = first_of c (d ∷ []) q h in
    let s = pair_of c d [] q h in
    let two : take 2 (c ∷ d ∷ text) ≡ c ∷ d ∷ [] = take_two c d text in
    word_before (continues_pair c d) (unspelled_third c d 10 refl) (unspelled_third c d 13 refl) (c ∷ d ∷ text) 2 u (omega arith) (omega arith) stops (Punct q)
    (IsCharBoundary-after_ascii (c ∷ d ∷ text) 1 u some (plain_small d s.second))
    (subst IsAscii (sym two) (IsAscii-cons c (d ∷ []) f.small (IsAscii-cons d [] (plain_small d s.second) no_more_ascii)))
    (long_front c d 0 text u (omega arith) s.first s.second (ap (list_all is_plain) (take_none text))) f.no_blank refl
    (λ rules cs k. ap (λ t. word_at rules (t ++ cs)) two ∙ pair_at rules c d cs q h k)
  where
    take_none : (xs : List ℕ) → take 0 xs ≡ []
    take_none [] = refl
    take_none (x ∷ xs) = refl

pub triple_word : (text : List ℕ) (q x : Punctuator) → IsUtf8 text → 2 < length text → punct_of (get_or text 0 0 ∷ get_or text 1 0 ∷ []) ≡ Some q
    → punct_of (get_or text 0 0 ∷ get_or text 1 0 ∷ get_or text 2 0 ∷ []) ≡ Some x → IsPlainWord text (Punct x) 3
triple_word [] q x u some h k = absurd (omega arith)
triple_word (c ∷ []) q x u some h k = absurd (omega arith)
triple_word (c ∷ d ∷ []) q x u some h k = absurd (omega arith)
triple_word (c ∷ d ∷ e ∷ text) q x u some h k =
    let f = first_of c (d ∷ []) q h in
    let s = pair_of c d (e ∷ []) x k in
    let last : is_plain e ≡ true = (and_parts (is_plain e) true s.others).0 in
    let three : take 3 (c ∷ d ∷ e ∷ text) ≡ c ∷ d ∷ e ∷ [] = take_three c d e text in
    word_always (c ∷ d ∷ e ∷ text) 3 (Punct x) (omega arith) (omega arith) (IsCharBoundary-after_ascii (c ∷ d ∷ e ∷ text) 2 u some (plain_small e last))
    (subst IsAscii (sym three) (IsAscii-cons c (d ∷ e ∷ []) f.small
    (IsAscii-cons d (e ∷ []) (plain_small d s.second) (IsAscii-cons e [] (plain_small e last) no_more_ascii))))
    (long_front c d 1 (e ∷ text) u (omega arith) s.first s.second (ap (list_all is_plain) (take_one e text) ∙ ap (λ t. t && true) last)) f.no_blank refl
    (λ rules line at. ap (λ t. word_at rules (t ++ letters (spots_from line at (drop 3 (c ∷ d ∷ e ∷ text))))) three
    ∙ triple_at rules c d e (letters (spots_from line at (drop 3 (c ∷ d ∷ e ∷ text)))) q x h k)

-- What the code's tables hold

swapped : (a b : ℕ) → (a == b) ≡ (b == a)
swapped a b = grind arith

-- no number is two that differ
apart : (c d k : ℕ) → (d == c) ≡ false → ((k == c) && (k == d)) ≡ false
apart c d k h = grind arith

pub single_is : (c : ℕ) → punct_of (c ∷ []) ≡ single c
unfolding punct_of
single_is c = simp (
  and-false,
  and-true,
  map_choice,
  swapped 123 c,
  swapped 125 c,
  swapped 40 c,
  swapped 41 c,
  swapped 91 c,
  swapped 93 c,
  swapped 60 c,
  swapped 62 c,
  swapped 59 c,
  swapped 44 c,
  swapped 58 c,
  swapped 46 c,
  swapped 61 c,
  swapped 33 c,
  swapped 45 c,
  swapped 126 c,
  swapped 43 c,
  swapped 42 c,
  swapped 47 c,
  swapped 37 c,
  swapped 124 c,
  swapped 94 c,
  swapped 38 c,
  swapped 63 c,
)

pub before_equals_is : (c : ℕ) → punct_of (c ∷ 61 ∷ []) ≡ before_equals c
unfolding punct_of
before_equals_is c = grind (arith, and-false, map_choice, swapped)

pub doubled_is : (c : ℕ) → (c == 61) ≡ false → punct_of (c ∷ c ∷ []) ≡ doubled c
unfolding punct_of
doubled_is c h = grind (arith, swapped, and-false, and-true, map_choice, and_self)

pub pair_none : (c d : ℕ) → (d == 61) ≡ false → (d == c) ≡ false → punct_of (c ∷ d ∷ []) ≡ None
unfolding punct_of
pair_none c d h n = grind (arith, apart, and-false, and-true)

-- two of the three are of one character twice
triple_none : (c d e : ℕ) → ((60 == c) && ((60 == d) && (61 == e))) ≡ false → ((62 == c) && ((62 == d) && (61 == e))) ≡ false → punct_of (c ∷ d ∷ e ∷ []) ≡ None
unfolding punct_of
triple_none c d e h k = simp (and-false, and-true, h, k)

pub no_triple_third : (c d e : ℕ) → (e == 61) ≡ false → punct_of (c ∷ d ∷ e ∷ []) ≡ None
no_triple_third c d e h = grind (arith, triple_none)

pub no_triple_second : (c d e : ℕ) → (d == c) ≡ false → punct_of (c ∷ d ∷ e ∷ []) ≡ None
no_triple_second c d e h = grind (arith, triple_none)

pub no_triple_first : (c d e : ℕ) → (c == 60) ≡ false → (c == 62) ≡ false → punct_of (c ∷ d ∷ e ∷ []) ≡ None
no_triple_first c d e h k =
    triple_none c d e (ap (λ t. t && ((60 == d) && (61 == e))) (swapped 60 c ∙ h)) (ap (λ t. t && ((62 == d) && (61 == e))) (swapped 62 c ∙ k))

pub shift_assigns : (c d e : ℕ) → c ≡ d → e ≡ 61 → (c ≡ 60 → punct_of (c ∷ d ∷ e ∷ []) ≡ Some LeftShiftAssign)
    × (c ≡ 62 → punct_of (c ∷ d ∷ e ∷ []) ≡ Some RightShiftAssign)
unfolding punct_of
shift_assigns c d e h k = grind arith

-- what follows a single one does not continue it
pub stops_single : (text : List ℕ) → Stops (λ _. false) text 1 → (1 < length text → punct_of (get_or text 0 0 ∷ get_or text 1 0 ∷ []) ≡ None)
    → (1 < length text → ((is_point (get_or text 0 0) && is_decimal (get_or text 1 0)) || begins_comment (get_or text 0 0)
    (get_or text 1 0)) ≡ false) → Stops (continues_punct (get_or text 0 0)) text 1
stops_single text s none other = grind arith

pub stops_pair : (text : List ℕ) → Stops (λ _. false) text 2 → (2 < length text → punct_of (get_or text 0 0 ∷ get_or text 1 0 ∷ get_or text 2 0 ∷ []) ≡ None)
    → Stops (continues_pair (get_or text 0 0) (get_or text 1 0)) text 2
stops_pair text s none = λ l. ((s l).0, (s l).1, ap is_some (none l))
