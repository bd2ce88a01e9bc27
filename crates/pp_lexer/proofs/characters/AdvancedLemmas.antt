-- A reader that is further on, and the characters that are left to it.
use Rattle.std.proofs.Common.{◌≡◌, ℕ, zero, suc, ◌+◌, List, [], ◌∷◌, drop, Bool, true, false, refl, sym, ◌∙◌, ap, zero-add, arith, Some, None, option_map}
use Rattle.pp_lexer.specs.declared.lexer.char_iterator.Spot.{Spot}
use Rattle.pp_lexer.specs.Reading.{Reading, letters, first_char, after_first, advanced_of, advanced}
use Rattle.pp_lexer.specs.Longest.{front_len}

pub letters-advanced : (n : ℕ) (ss : List Spot) (last : Spot) → letters (advanced_of n ss last).rest ≡ drop n (letters ss)
letters-advanced zero [] last = refl
letters-advanced (suc n) [] last = refl
letters-advanced zero (s ∷ ss) last = refl
letters-advanced (suc n) (s ∷ ss) last = letters-advanced n ss s

pub advanced_zero : (ss : List Spot) (last : Spot) → advanced_of 0 ss last ≡ record { rest = ss; last = last }
advanced_zero [] last = refl
advanced_zero (s ∷ ss) last = refl

pub advanced-advanced : (m n : ℕ) (ss : List Spot) (last : Spot) → advanced n (advanced_of m ss last) ≡ advanced_of (m + n) ss last
advanced-advanced zero n ss last = ap (advanced n) (advanced_zero ss last) ∙ ap (λ k. advanced_of k ss last) (sym (zero-add n))
advanced-advanced (suc m) zero [] last = refl
advanced-advanced (suc m) (suc n) [] last = refl
advanced-advanced (suc m) n (s ∷ ss) last =
    let k : suc (m + n) ≡ suc m + n = omega arith in
    advanced-advanced m n ss s ∙ ap (λ k. advanced_of k (s ∷ ss) last) k

pub advanced-zero : (r : Reading) → advanced 0 r ≡ r
advanced-zero r = advanced_zero r.rest r.last

pub after_first-advanced : (n : ℕ) (r : Reading) → after_first (advanced n r) ≡ advanced (suc n) r
after_first-advanced n r = one (advanced n r).rest (advanced n r).last ∙ advanced-advanced n 1 r.rest r.last ∙ ap (λ k. advanced k r) (omega arith)
  where
    one : (ss : List Spot) (last : Spot) → after_first (record { rest = ss; last = last }) ≡ advanced_of 1 ss last
    one [] last = refl
    one (s ∷ ss) last = sym (advanced_zero ss s)

pub after_first-one : (r : Reading) → after_first r ≡ advanced 1 r
after_first-one r = ap after_first (sym (advanced-zero r)) ∙ after_first-advanced 0 r

-- how many characters pass, by the first of them
pub front_advanced : (p : ℕ → Bool) (c : ℕ) (r : Reading) → Some c ≡ option_map (λ x. x.c) (first_char r) → p c ≡ true
    → front_len p (letters r.rest) ≡ 1 + front_len p (drop 1 (letters r.rest))
front_advanced p c r f h = grind arith

pub front_stopped : (p : ℕ → Bool) (c : ℕ) (r : Reading) → Some c ≡ option_map (λ x. x.c) (first_char r) → p c ≡ false → front_len p (letters r.rest) ≡ 0
front_stopped p c r f h = grind arith

pub front_ended : (p : ℕ → Bool) (r : Reading) → None ≡ option_map (λ x. x.c) (first_char r) → front_len p (letters r.rest) ≡ 0
front_ended p r f = grind arith
