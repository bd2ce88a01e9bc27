-- The digits of a whole number, one by one.
use Rattle.std.proofs.Common.{◌≡◌, ℕ, ◌+◌, ◌*◌, ◌^◌, ◌≤◌, List, [], ◌∷◌, false, arith, Some, None}
use Rattle.std.proofs.Math.Nat.{mul-le-mul_left}
use Rattle.std.specs.Char.{digit_value}
use Rattle.std.specs.Str.Parse.{digits_value_after}
use Rattle.pp_lexer.specs.Spellings.{nothing, next_of}
use Rattle.pp_lexer.specs.NumberValue.{whole}
use Rattle.pp_lexer.specs.inner.NumberValue.{whole_after}

grows : (base n : ℕ) (ds : List ℕ) → 2 ≤ base → n ≤ digits_value_after base n ds
grows base n [] h = omega arith
grows base n (c ∷ cs) h =
    let i : n * base + digit_value c ≤ digits_value_after base (n * base + digit_value c) cs = grows base (n * base + digit_value c) cs h in
    let m : n * 2 ≤ n * base = mul-le-mul_left n h in
    omega (arith, i, m)

pub whole_over : (base n c : ℕ) (cs : List ℕ) → 2 ≤ base → 2 ^ 64 ≤ n * base + digit_value c → whole_after base n (c ∷ cs) ≡ None
whole_over base n c cs h over = grind (arith, grows)

-- no value, since the number grows too large at this digit
pub whole_too_large : (base v c : ℕ) (text word : List ℕ) → 2 ≤ base → Some c ≡ next_of text → whole_after base v text ≡ whole_after base 0 word
    → nothing word ≡ false
    → 2 ^ 64 ≤ v * base + digit_value c → None ≡ whole base word
whole_too_large base v c text word h k e l u = grind (arith, whole_over)
