-- What one part of the scanner takes, and then the next.
use Rattle.std.proofs.Common.{◌≡◌, ℕ, ◌+◌, ◌<◌, length, List, drop, Bool, true, false, sym, ◌∙◌, ap, arith, if◌then◌else◌, Some, None, option_map}
use Rattle.pp_lexer.specs.Longest.{longest, front_len}
use Rattle.pp_lexer.specs.Numbers.{is_sign, digits}
use Rattle.pp_lexer.specs.inner.Numbers.{signed_digits}
use Rattle.pp_lexer.specs.Reading.{first_char}
use Rattle.pp_lexer.specs.inner.Scan.{Scan, upcoming, further, Takes}
use Rattle.pp_lexer.specs.Spellings.{nothing, many}
use Rattle.pp_lexer.specs.Surroundings.{begins_with}
use Rattle.pp_lexer.proofs.characters.AdvancedLemmas.{letters-advanced, advanced-advanced, advanced-zero, front_ended}
use Rattle.pp_lexer.proofs.words.LongestLemmas.{longest_all}
use Rattle.pp_lexer.proofs.numbers.NumbersLemmas.{signed_len}

pub upcoming-further : (n : ℕ) (s : Scan) → upcoming (further n s) ≡ drop n (upcoming s)
upcoming-further n s = letters-advanced n s.reading.rest s.reading.last

pub further-further : (m n : ℕ) (s : Scan) → further n (further m s) ≡ further (m + n) s
further-further m n s = grind (arith, advanced-advanced)

pub further-zero : (s : Scan) → further 0 s ≡ s
further-zero s = grind (arith, advanced-zero)

-- m characters, and then the longest of a set
pub then_takes : (P R : List ℕ → Bool) (m : ℕ) (s s1 s2 : Scan) → longest P (upcoming s) ≡ m + longest R (drop m (upcoming s)) → s1 ≡ further m s
    → Takes R s1 s2 → Takes P s s2
then_takes P R m s s1 s2 e a b = grind (arith, upcoming-further, further-further)

-- a character of the class stood here and was taken
pub either_then : (P R : List ℕ → Bool) (p : ℕ → Bool) (b : Bool) (s s1 s2 : Scan) → b ≡ begins_with p (upcoming s)
    → s1 ≡ further (if b then 1 else 0) s → b ≡ true
    → (begins_with p (upcoming s) ≡ true → longest P (upcoming s) ≡ 1 + longest R (drop 1 (upcoming s))) → Takes R s1 s2 → Takes P s s2
either_then P R p b s s1 s2 e m h len r =
    then_takes P R 1 s s1 s2 (len (sym e ∙ h)) (m ∙ ap (λ x. further (if x then 1 else 0) s) h) r

-- no such character stood here
pub either_same : (b : Bool) (s s1 : Scan) → s1 ≡ further (if b then 1 else 0) s → b ≡ false → s1 ≡ s
either_same b s s1 m h = m ∙ ap (λ x. further (if x then 1 else 0) s) h ∙ further-zero s

pub either_else : (P R : List ℕ → Bool) (p : ℕ → Bool) (b : Bool) (s s1 s2 : Scan) → b ≡ begins_with p (upcoming s)
    → s1 ≡ further (if b then 1 else 0) s → b ≡ false
    → (begins_with p (upcoming s) ≡ false → longest P (upcoming s) ≡ longest R (upcoming s)) → Takes R s1 s2 → Takes P s s2
either_else P R p b s s1 s2 e m h len r =
    r ∙ ap (λ x. further (longest R (upcoming x)) x) (either_same b s s1 m h) ∙ ap (λ n. further n s) (sym (len (sym e ∙ h)))

pub either_stop : (P : List ℕ → Bool) (p : ℕ → Bool) (b : Bool) (s s1 : Scan) → b ≡ begins_with p (upcoming s) → s1 ≡ further (if b then 1 else 0) s → b ≡ false
    → (begins_with p (upcoming s) ≡ false → longest P (upcoming s) ≡ 0) → Takes P s s1
either_stop P p b s s1 e m h len = m ∙ ap (λ x. further (if x then 1 else 0) s) h ∙ ap (λ n. further n s) (sym (len (sym e ∙ h)))

pub all_taken : (p : ℕ → Bool) (s s1 : Scan) → s1 ≡ further (front_len p (upcoming s)) s → Takes (many p nothing) s s1
all_taken p s s1 m = m ∙ ap (λ n. further n s) (sym (longest_all p (upcoming s)))

pub signed_after : (b : Bool) (t : List ℕ) → b ≡ begins_with is_sign t
    → longest signed_digits t ≡ (if b then 1 else 0) + longest digits (drop (if b then 1 else 0) t)
signed_after b t e = signed_len t ∙ ap (λ x. (if x then 1 else 0) + longest digits (drop (if x then 1 else 0) t)) (sym e)

-- a digit is taken: where the digits end stays the same
pub digit_taken : (p : ℕ → Bool) (c : ℕ) (s s1 : Scan) → Some c ≡ option_map (λ x. x.c) (first_char s.reading) → p c ≡ true → s1 ≡ further 1 s
    → further (front_len p (upcoming s1)) s1 ≡ further (front_len p (upcoming s)) s
digit_taken p c s s1 f h m = grind (arith, upcoming-further, further-further)

pub no_more : (p : ℕ → Bool) (s : Scan) → None ≡ option_map (λ x. x.c) (first_char s.reading) → further (front_len p (upcoming s)) s ≡ s
no_more p s f = ap (λ k. further k s) (front_ended p s.reading f) ∙ further-zero s

pub fewer_left : (c : ℕ) (s s1 : Scan) → Some c ≡ option_map (λ x. x.c) (first_char s.reading) → s1 ≡ further 1 s → length (upcoming s1) < length (upcoming s)
fewer_left c s s1 f m = grind (arith, upcoming-further)
