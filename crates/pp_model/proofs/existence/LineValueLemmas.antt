-- The line of an `#if`, `#elif` or `#line` has a value, or a fault.
use Rattle.std.proofs.Common.{◌≡◌, ℕ, zero, suc, [], map, refl, Option, Some, None}
use Rattle.std.specs.Prelude.{ℤ, Result, Ok, Err, not, MatchOption, MatchResult}
use Rattle.pp_model.specs.declared.place.Place.{Place}
use Rattle.pp_lexer.specs.declared.token.PreprocessorError.TheVariants.{LineOverflow}
use Rattle.pp_expression.specs.declared.symbol.Value.{Value}
use Rattle.pp_expression.specs.declared.symbol.Found.{Found}
use Rattle.pp_expression.specs.Arithmetic.{is_zero}
use Rattle.pp_expression.proofs.AnOutcome.{an_outcome}
use Rattle.pp_model.specs.Places.{PlacedFault}
use Rattle.pp_model.specs.Painting.{read_in}
use Rattle.pp_model.specs.Reading.{reading_of}
use Rattle.pp_model.specs.Calls.{Answers}
use Rattle.pp_model.specs.LineWords.{Words}
use Rattle.pp_model.specs.LineValues.{line_of, placed_fault, ByExpression, IsAlone, words_after, NumberBefore, Numbers}
use Rattle.pp_model.specs.ExistenceLaws.{AnAnswer, ACondition, ALineNumber}
use Rattle.pp_model.specs.declared.word.LineKind.TheVariants.{Condition, LineNumber}
use Rattle.pp_model.proofs.existence.LineLemmas.{a_line}
use Rattle.pp_model.specs.Numbering.{as_line_number}

-- words give something, if each value does
a_result : {A : Type 0} (directive : Place) (words : Words) (By : Value → Result A PlacedFault → Type 0)
    → ((v : Value) → (x : Result A PlacedFault) × By v x) → (x : Result A PlacedFault) × ByExpression directive words By x
a_result {A = A} directive words By value =
    let found = an_outcome (line_of words) in
    let given = of_one found.0 in
    (given.0, record { evaluation = found.0; evaluated = found.1; is = given.1 })
  where
    of_one : (e : Result Value Found) → (x : Result A PlacedFault)
        × MatchResult e (λ v. By v x) (λ found. x ≡ Err (placed_fault directive words found.kind found.left))
    of_one (Ok v) = value v
    of_one (Err found) = (Err (placed_fault directive words found.kind found.left), refl)

an_alone : {A : Type 0} (directive : Place) (words : Words) (report : ℤ → A) → (x : Result A PlacedFault) × IsAlone directive words report x
an_alone directive words report = a_result directive words _ (λ v. (_, refl))

-- ---- the numbers of a `#line`

a_number_before : (directive : Place) (words : Words) (n left : ℕ) → (x : Result ℕ PlacedFault) × NumberBefore directive words n left x
a_number_before directive words n zero = (Ok n, refl)
a_number_before directive words n (suc left) = an_alone directive (words_after (suc left) words) (λ value. n)

a_number_given : (directive : Place) (words : Words) (left : ℕ) (number : Option ℕ)
    → (x : Result ℕ PlacedFault) × MatchOption number (x ≡ Err (LineOverflow, directive)) (λ n. NumberBefore directive words n left x)
a_number_given directive words left None = (Err (LineOverflow, directive), refl)
a_number_given directive words left (Some n) = a_number_before directive words n left

a_number : (directive : Place) (words : Words) → (x : Result ℕ PlacedFault) × Numbers directive words x
a_number directive words = a_result directive words _ (λ v. a_number_given directive words v.left (as_line_number v.value))

module _ (A : Answers) (answered : AnAnswer A) where
  -- A condition holds or not, or has a fault.
  pub a_condition : ACondition A
  a_condition directive tokens numbering definitions finite =
      let line = a_line A answered Condition directive (reading_of (map (read_in directive.text) tokens) numbering definitions []) finite in
      let value = an_alone directive line.0 (λ value. not (is_zero value)) in
      (value.0, record { words = line.0; read = line.1; value = value.1 })

  -- A `#line` gives a number, or a fault.
  pub a_line_number : ALineNumber A
  a_line_number directive tokens numbering definitions finite =
      let line = a_line A answered LineNumber directive (reading_of (map (read_in directive.text) tokens) numbering definitions []) finite in
      let n = a_number directive line.0 in
      (n.0, record { words = line.0; read = line.1; numbers = n.1 })
