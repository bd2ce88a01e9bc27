-- The front of a plain text: what is known of its bytes, and the reader after it.
use Rattle.std.proofs.Common.{◌≡◌, ℕ, zero, suc, ◌+◌, ◌-◌, ◌<◌, ◌≤◌, List, [], ◌∷◌, ◌++◌, length, take, drop, get_or, Bool, true, false, ◌&&◌, ◌==◌, refl, sym, ◌∙◌, ap, subst, arith, Some, length-drop}
use Rattle.std.specs.List.{list_all, slice_range}
use Rattle.std.specs.Str.{IsUtf8, IsCharBoundary, IsAscii}
use Rattle.std.proofs.lemmas.Bool.{and_parts}
use Rattle.std.proofs.lemmas.List.{take-append-drop, length-take-le, get_or-take}
use Rattle.std.proofs.lemmas.Str.{IsCharBoundary-after_ascii}
use Rattle.std.proofs.lemmas.Str.Ascii.{IsAscii-cons}
use Rattle.pp_lexer.specs.declared.lexer.char_iterator.Spot.{Spot}
use Rattle.pp_lexer.specs.inner.Fronts.{spots_from, left, is_plain, run}
use Rattle.pp_lexer.specs.inner.PlainWords.{IsFront}
use Rattle.pp_lexer.specs.Cursor.{Cursor}
use Rattle.pp_lexer.specs.inner.Readers.{joined, uncommented}
use Rattle.pp_lexer.specs.Longest.{front_len}
use Rattle.pp_lexer.specs.Reading.{IsAhead, letters, spots, spots_after_first, first_of, advanced_of}
use Rattle.pp_lexer.specs.Surroundings.{begins_with}
use Rattle.pp_lexer.proofs.characters.FrontsLemmas.{left_of, plain_first, plain_front, plain_parts, nothing_left, first_is_not}
use Rattle.pp_lexer.proofs.characters.AdvancedLemmas.{advanced_zero}

-- a passing front

pub passes_at : (p : ℕ → Bool) (n : ℕ) (xs : List ℕ) → n < length xs → list_all p (take (suc n) xs) ≡ true → p (get_or xs n 0) ≡ true
passes_at p n [] l h = absurd (omega arith)
passes_at p zero (x ∷ xs) l h = (and_parts (p x) (list_all p (take 0 xs)) h).0
passes_at p (suc n) (x ∷ xs) l h = passes_at p n xs (omega arith) (and_parts (p x) (list_all p (take (suc n) xs)) h).1

pub all_plain : (p : ℕ → Bool) → ((b : ℕ) → p b ≡ true → is_plain b ≡ true) → (w : List ℕ) → list_all p w ≡ true → list_all is_plain w ≡ true
all_plain p f [] h = refl
all_plain p f (c ∷ w) h =
    let b = and_parts (p c) (list_all p w) h in
    ap (λ t. t && list_all is_plain w) (f c b.0) ∙ all_plain p f w b.1

pub plain_ascii : (w : List ℕ) → list_all is_plain w ≡ true → IsAscii w
plain_ascii [] h = λ i. omega arith
plain_ascii (c ∷ w) h = let b = and_parts (is_plain c) (list_all is_plain w) h in IsAscii-cons c w (plain_parts c b.0).small (plain_ascii w b.1)

-- a text may be cut after a plain front
pub cut_after_plain : (n : ℕ) (text : List ℕ) → IsUtf8 text → 0 < n → n ≤ length text → list_all is_plain (take n text) ≡ true → IsCharBoundary text n
cut_after_plain n text h k e l = grind (arith, IsCharBoundary-after_ascii, plain_parts, passes_at)

-- the reader after a run
pub advanced_run : (line at c : ℕ) (w : List ℕ) (more : List Spot) (last : Spot)
    → advanced_of (length (c ∷ w)) (run line at (c ∷ w) ++ more) last
    ≡ record { rest = more; last = record { c = get_or (c ∷ w) (length w) 0; line = line; begin = at + length w; end = at + length w + 1 } }
advanced_run line at c [] more last = grind (arith, advanced_zero)
advanced_run line at c (d ∷ w) more last =
    let n : at + 1 + length w ≡ at + suc (length w) = omega arith in
    advanced_run line (at + 1) d w more (record { c = c; line = line; begin = at; end = at + 1 })
    ∙ ap (λ k. record { rest = more; last = record { c = get_or (d ∷ w) (length w) 0; line = line; begin = k; end = k + 1 } }) n

pub letters-run : (line at : ℕ) (w : List ℕ) (more : List Spot) → letters (run line at w ++ more) ≡ w ++ letters more
letters-run line at [] more = refl
letters-run line at (c ∷ w) more = ap (λ cs. c ∷ cs) (letters-run line (at + 1) w more)

-- a text by what stands at its front

pub split_at : (n : ℕ) (text : List ℕ) → text ≡ take n text ++ drop n text
split_at n text = sym (take-append-drop n text)

-- what stands after a word is no part of it
module _ (P : ℕ → Bool) (feed : P 10 ≡ false) (mark : P 13 ≡ false) where
  pub after_is_not : (line at : ℕ) (rest : List ℕ) → IsUtf8 rest → (0 < length rest → (get_or rest 0 0 < 128) × ((get_or rest 0 0 == 92) ≡ false))
      → (0 < length rest → P (get_or rest 0 0) ≡ false)
      → begins_with P (letters (spots_from line at rest)) ≡ false
  after_is_not line at [] u h k = ap (λ ss. begins_with P (letters ss)) (nothing_left line at)
  after_is_not line at (b ∷ rest) u h k = grind (arith, first_is_not)

pub front_len-append : (p : ℕ → Bool) (w cs : List ℕ) → list_all p w ≡ true → begins_with p cs ≡ false → front_len p (w ++ cs) ≡ length w
front_len-append p [] [] h k = refl
front_len-append p [] (c ∷ cs) h k = rw k refl
front_len-append p (c ∷ w) cs h k =
    let b = and_parts (p c) (list_all p w) h in
    rw b.0 (ap suc (front_len-append p w cs b.1 k))

pub take_seam : (w cs : List ℕ) → take (length w) (w ++ cs) ≡ w
take_seam [] [] = refl
take_seam [] (c ∷ cs) = refl
take_seam (d ∷ w) cs = ap (λ xs. d ∷ xs) (take_seam w cs)

pub drop_some : (n : ℕ) (xs : List ℕ) → 0 < length (drop n xs) → n < length xs
drop_some n xs h = omega (arith, length-drop n xs)

pub drop_none : (xs : List ℕ) → drop 0 xs ≡ xs
drop_none xs = grind arith

pub get_or-drop : (n : ℕ) (xs : List ℕ) → get_or (drop n xs) 0 0 ≡ get_or xs n 0
get_or-drop zero [] = refl
get_or-drop zero (x ∷ xs) = refl
get_or-drop (suc n) [] = refl
get_or-drop (suc n) (x ∷ xs) = get_or-drop n xs

-- the first of them
pub front_of : (n : ℕ) (text : List ℕ) → 0 < n → 0 < length text → take n text ≡ get_or text 0 0 ∷ drop 1 (take n text)
front_of n text h k = grind arith

-- the front of a plain text
pub front_plain : (n : ℕ) (text : List ℕ) → IsUtf8 text → n ≤ length text → list_all is_plain (take n text) ≡ true → IsFront text n
front_plain n text u le h line at =
    let whole : text ≡ take n text ++ drop n text = split_at n text in
    ap (spots_from line at) whole ∙ plain_front line at (take n text) (drop n text) h (subst IsUtf8 whole u)
    ∙ ap (λ k. run line at (take n text) ++ spots_from line (at + k) (drop n text)) (length-take-le n text le)

-- the first character of a front
pub front_first : (n line at : ℕ) (text : List ℕ) (rest : List Spot) → 0 < n → n ≤ length text → IsFront text n → rest ≡ spots_from line at text
    → Some (record { c = get_or text 0 0; line = line; begin = at; end = at + 1 }) ≡ first_of rest
front_first zero line at text rest some le f e = absurd (omega arith)
front_first (suc n) line at [] rest some le f e = absurd (omega arith)
front_first (suc n) line at (c ∷ text) rest some le f e = sym (ap first_of (e ∙ f line at))

-- the reader after a front
after_run : (n line at : ℕ) (text : List ℕ) (last : Spot) → n < length text → IsFront text (suc n)
    → advanced_of (suc n) (spots_from line at text) last
    ≡ record { rest = spots_from line (at + suc n) (drop (suc n) text); last = record { c = get_or text n 0; line = line; begin = at + n; end = at + n + 1 } }
after_run n line at [] last l f = absurd (omega arith)
after_run n line at (c ∷ text) last l f =
    let more = spots_from line (at + suc n) (drop n text) in
    let size : length (take n text) ≡ n = length-take-le n text (omega arith) in
    let final : get_or (c ∷ take n text) n 0 ≡ get_or (c ∷ text) n 0 = get_or-take (suc n) (c ∷ text) n 0 (omega arith) in
    ap (λ ss. advanced_of (suc n) ss last) (f line at)
    ∙ ap (λ k. advanced_of (suc k) (run line at (c ∷ take n text) ++ more) last) (sym size)
    ∙ advanced_run line at c (take n text) more last
    ∙ ap (λ k. record { rest = more; last = record { c = get_or (c ∷ take n text) k 0; line = line; begin = at + k; end = at + k + 1 } }) size
    ∙ ap (λ b. record { rest = more; last = record { c = b; line = line; begin = at + n; end = at + n + 1 } }) final

pub after_front : (n line at : ℕ) (text : List ℕ) (last : Spot) → 0 < n → n ≤ length text → IsFront text n
    → advanced_of n (spots_from line at text) last
    ≡ record { rest = spots_from line (at + n) (drop n text); last = record { c = get_or text (n - 1) 0; line = line; begin = at + n - 1; end = at + n } }
after_front n line at text last h k e = grind (arith, after_run)

-- a range from the start is a front
pub range_front : (n : ℕ) (text : List ℕ) → slice_range text 0 n ≡ take n text
range_front n text = grind arith

-- one plain character

pub cut_one : (text : List ℕ) → IsUtf8 text → 0 < length text → is_plain (get_or text 0 0) ≡ true → IsCharBoundary text 1
cut_one [] u some h = absurd (omega arith)
cut_one (c ∷ text) u some h = cut_after_plain 1 (c ∷ text) u (omega arith) (omega arith) (ap (λ t. t && true) h)

pub one_ahead : (line at : ℕ) (text rest : List ℕ) (old new : Cursor) → IsUtf8 text → 0 < length text → is_plain (get_or text 0 0) ≡ true → rest ≡ drop 1 text
    → old ≡ uncommented (joined (left line at text)) → new ≡ uncommented (joined (left line (at + 1) rest))
    → IsAhead (record { c = get_or text 0 0; line = line; begin = at; end = at + 1 }) (spots new.offset new.rest) (spots old.offset old.rest)
one_ahead line at [] rest old new u some h g e k = absurd (omega arith)
one_ahead line at (c ∷ text) rest old new u some h g e k =
    let none : drop 1 (c ∷ text) ≡ text = drop_none text in
    let first : spots old.offset old.rest ≡ record { c = c; line = line; begin = at; end = at + 1 } ∷ spots_from line (at + 1) text =
    left_of old line at (c ∷ text) e ∙ plain_first line at c text h u in
    record {
      first = sym (ap first_of first);
      after = left_of new line (at + 1) rest k ∙ ap (spots_from line (at + 1)) (g ∙ none) ∙ sym (ap spots_after_first first);
    }
