use Rattle.std.proofs.Common.{◌≡◌, ◌+◌, ◌/◌, ◌%◌, String, Global, ◌∷◌, [], ◌++◌, ap, ◌∙◌, sym, arith, append_assoc, string_bytes}
use Rattle.std.specs.Fmt.{decimal}
use Rattle.std.proofs.lemmas.Fmt.{decimal_digit}
use Rattle.pp_rs.proofs.runs.SpellingLemmas.{decimal-last}
use Rattle.pp_rs.proofs.pp.spelling.+push_decimal.Goals as goal
use Rattle.pp_rs.proofs.pp.spelling.+push_decimal.Goals.{then-value-ge10+in_ok-push_decimal, else-value-ge10}

-- the last digit, after those before it
pub returns-clause-appended : goal.returns-clause-appended
returns-clause-appended t c =
    let put = c.in_ok-push.ensures {u = tt} in
    let last : string_bytes c.push.new.self ≡ string_bytes c.if-value-ge10.text ++ (48 + c.args.value % 10) ∷ []
    = put.bytes ∙ ap (λ b. string_bytes c.if-value-ge10.text ++ b) (put.ascii (omega arith)) in
    elim c.if-value-ge10.branch [
      | then-value-ge10+in_ok-push_decimal w ↦
          last ∙ ap (λ (s : String Global). string_bytes s ++ (48 + c.args.value % 10) ∷ []) w.text-is
          ∙ ap (λ b. b ++ (48 + c.args.value % 10) ∷ []) (w.in_ok-push_decimal.ensures {u = tt}).appended
          ∙ append_assoc (string_bytes c.args.text.now) (decimal (c.args.value / 10)) ((48 + c.args.value % 10) ∷ [])
          ∙ ap (λ b. string_bytes c.args.text.now ++ b) (sym (decimal-last c.args.value w.if-value-ge10.true (omega arith)))
      | else-value-ge10 w ↦
          let same : c.args.value % 10 ≡ c.args.value = omega arith in
          last ∙ ap (λ (s : String Global). string_bytes s ++ (48 + c.args.value % 10) ∷ []) w.text-is
          ∙ ap (λ b. string_bytes c.args.text.now ++ b)
          (ap (λ d. (48 + d) ∷ []) same ∙ sym (decimal_digit c.args.value w.if-value-ge10.false))
    ]
