-- What is known of a reader's bytes after several reads
use Rattle.std.proofs.Common.{◌≡◌, ℕ, ◌+◌, ◌≤◌, List, [], ◌++◌, drop, length, Option, None, Some, IfSome, arith, ap, sym, ◌∙◌, append_assoc, append-nil, take-append-drop, length-append}
use Rattle.std.specs.Io.{StartsWith, appended_bytes}
use Rattle.std.specs.Io.KnownBytes.{Consumes, IsAtEnd}
use Rattle.pp_print.specs.Runs.{TakesAtMost}

-- what was read before and what a further read appended were read together
pub consumes_more : (a b c : Option (List ℕ)) (old new : List ℕ) → Consumes a b old → StartsWith new old → Consumes b c (appended_bytes old new)
    → Consumes a c new
consumes_more None b c old new first starts second = tt
consumes_more (Some xs) None c old new first starts second = absurd first
consumes_more (Some xs) (Some ys) None old new first starts second = absurd second
consumes_more (Some xs) (Some ys) (Some zs) old new first starts second =
    let whole : old ++ drop (length old) new ≡ new = ap (λ w. w ++ drop (length old) new) (sym starts) ∙ take-append-drop (length old) new in
    let joined : xs ≡ old ++ (drop (length old) new ++ zs) = first ∙ ap (λ w. old ++ w) second in
    joined ∙ sym (append_assoc old (drop (length old) new) zs) ∙ ap (λ w. w ++ zs) whole

-- at the end all bytes were read
pub consumes_all : (a b : Option (List ℕ)) (read : List ℕ) → Consumes a b read → IsAtEnd b → IfSome a (λ xs. read ≡ xs)
consumes_all None b read h end = tt
consumes_all (Some xs) None read h end = absurd h
consumes_all (Some xs) (Some ys) read h end = sym (h ∙ ap (λ w. read ++ w) end ∙ append-nil read)

-- there are no fewer bytes than were read
pub consumes_within : (a b : Option (List ℕ)) (read : List ℕ) (n : ℕ) → Consumes a b read → n ≤ length read → IfSome a (λ xs. n ≤ length xs)
consumes_within None b read n h within = tt
consumes_within (Some xs) None read n h within = absurd h
consumes_within (Some xs) (Some ys) read n h within = omega (arith, ap length h, length-append read ys)

-- what was read before and what a further call took were taken together
pub takes_more : (a b c : Option (List ℕ)) (read : List ℕ) (n most : ℕ) → Consumes a b read → TakesAtMost n b c → length read + n ≤ most
    → TakesAtMost most a c
takes_more None b c read n most first second within = record { taken = []; few = omega arith; left = tt }
takes_more (Some xs) None c read n most first second within = absurd first
takes_more (Some xs) (Some ys) None read n most first second within = absurd second.left
takes_more (Some xs) (Some ys) (Some zs) read n most first second within = record {
  taken = read ++ second.taken;
  few = omega (arith, second.few, within, length-append read second.taken);
  left = first ∙ ap (λ w. read ++ w) second.left ∙ sym (append_assoc read second.taken zs);
}
