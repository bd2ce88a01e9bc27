-- The digits of a number, told one by one from the last.
use Rattle.std.proofs.Common.{◌≡◌, ℕ, ◌+◌, ◌<◌, ◌≤◌, ◌^◌, ◌/◌, ◌%◌, ◌==◌, true, List, [], ◌∷◌, ◌++◌, length, sym, ◌∙◌, ap, arith}
use Rattle.std.specs.Fmt.{decimal}
use Rattle.std.proofs.lemmas.Bool.{eqb-true}
use Rattle.std.proofs.lemmas.Fmt.{decimal_digit, decimal_step}

-- one digit alone
pub one_digit : (bs rest : List ℕ) (d n : ℕ) → bs ≡ rest ++ (d ∷ []) → (length rest == 0) ≡ true → n < 10 → d ≡ 48 + n → bs ≡ decimal n
one_digit bs [] d n e none small is = e ∙ ap (λ x. x ∷ []) is ∙ sym (decimal_digit n small)
one_digit bs (r ∷ rest) d n e none small is = absurd (omega (arith, eqb-true (length (r ∷ rest)) 0 none))

-- the last digit, and those before it
pub more_digits : (bs rest : List ℕ) (d n : ℕ) → bs ≡ rest ++ (d ∷ []) → 10 ≤ n → n < 2 ^ 64 → d ≡ 48 + n % 10 → rest ≡ decimal (n / 10)
    → bs ≡ decimal n
more_digits bs rest d n e large fits is others =
    e ∙ ap (λ front. front ++ (d ∷ [])) others ∙ ap (λ x. decimal (n / 10) ++ (x ∷ [])) is ∙ sym (decimal_step n large fits)
