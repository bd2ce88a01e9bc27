-- An evaluation has one result, and so have a condition and a line number.
use Rattle.std.proofs.Common.{◌≡◌, ◌∙◌, ℕ, zero, suc, ℤ, [], sym, subst, Option, Some, None, Result, Ok, Err}
use Rattle.pp_expression.specs.declared.symbol.Value.{Value}
use Rattle.pp_expression.specs.declared.symbol.Found.{Found}
use Rattle.pp_expression.specs.Arithmetic.{is_zero}
use Rattle.pp_expression.proofs.OneOutcome.{one_outcome}
use Rattle.pp_model.specs.Places.{PlacedFault}
use Rattle.pp_model.specs.Painting.{read_in}
use Rattle.std.specs.Prelude.{map, not, MatchOption, MatchResult}
use Rattle.pp_model.specs.Reading.{reading_of}
use Rattle.pp_model.specs.declared.place.Place.{Place}
use Rattle.pp_model.specs.LineWords.{Words}
use Rattle.pp_model.specs.Calls.{Answers}
use Rattle.pp_lexer.specs.declared.token.PreprocessorError.TheVariants.{LineOverflow}
use Rattle.pp_model.specs.LineValues.{line_of, placed_fault, ByExpression, IsAlone, words_after, NumberBefore, Numbers}
use Rattle.pp_model.specs.ExpansionLaws.{OneAnswer}
use Rattle.pp_model.specs.RunLaws.{OneEvaluation, OneCondition, OneNumber, OneLineNumber}
use Rattle.pp_model.specs.declared.word.LineKind.TheVariants.{Condition, LineNumber}
use Rattle.pp_model.proofs.values.LineWordsLemmas.{one_line}
use Rattle.pp_model.specs.Numbering.{as_line_number}

pub one_evaluation : OneEvaluation
one_evaluation line x y a b = one_outcome line x y a b

-- what words give is one, if what their value gives is one
one_by : {A : Type 0} (directive : Place) (words : Words) (By : Value → Result A PlacedFault → Type 0)
    → ((v : Value) (x y : Result A PlacedFault) → By v x → By v y → x ≡ y) → (x y : Result A PlacedFault) → ByExpression directive words By x
    → ByExpression directive words By y → x ≡ y
one_by {A = A} directive words By one x y a b =
    let Of : Result A PlacedFault → Result Value Found → Type 0 =
    λ result e. MatchResult e (λ v. By v result) (λ found. result ≡ Err (placed_fault directive words found.kind found.left)) in
    let same = one_evaluation (line_of words) a.evaluation b.evaluation a.evaluated b.evaluated in
    of_one a.evaluation a.is (subst (Of y) (sym same) b.is)
  where
    of_one : (e : Result Value Found)
        → MatchResult e (λ v. By v x) (λ found. x ≡ Err (placed_fault directive words found.kind found.left))
        → MatchResult e (λ v. By v y) (λ found. y ≡ Err (placed_fault directive words found.kind found.left)) → x ≡ y
    of_one (Ok v) p q = one v x y p q
    of_one (Err found) p q = p ∙ sym q

one_alone : {A : Type 0} (directive : Place) (words : Words) (report : ℤ → A) (x y : Result A PlacedFault) → IsAlone directive words report x
    → IsAlone directive words report y → x ≡ y
one_alone directive words report = one_by directive words _ (λ v x y p q. p ∙ sym q)

pub one_condition : (A : Answers) → OneAnswer A → OneCondition A
one_condition A single directive tokens numbering definitions x y a b =
    let words = one_line A single Condition directive a.words b.words (reading_of (map (read_in directive.text) tokens) numbering definitions []) a.read b.read in
    let there : IsAlone directive a.words (λ value. not (is_zero value)) y = rw words b.value in
    one_alone directive a.words (λ value. not (is_zero value)) x y a.value there

one_before : (directive : Place) (words : Words) (n left : ℕ) (x y : Result ℕ PlacedFault) → NumberBefore directive words n left x
    → NumberBefore directive words n left y → x ≡ y
one_before directive words n zero x y a b = a ∙ sym b
one_before directive words n (suc left) x y a b = one_alone directive (words_after (suc left) words) (λ z. n) x y a b

one_given : (directive : Place) (words : Words) (left : ℕ) (number : Option ℕ) (x y : Result ℕ PlacedFault)
    → MatchOption number (x ≡ Err (LineOverflow, directive)) (λ n. NumberBefore directive words n left x)
    → MatchOption number (y ≡ Err (LineOverflow, directive)) (λ n. NumberBefore directive words n left y) → x ≡ y
one_given directive words left None x y a b = a ∙ sym b
one_given directive words left (Some n) x y a b = one_before directive words n left x y a b

pub one_number : OneNumber
one_number directive words = one_by directive words _ (λ v. one_given directive words v.left (as_line_number v.value))

pub one_line_number : (A : Answers) → OneAnswer A → OneLineNumber A
one_line_number A single directive tokens numbering definitions x y a b =
    let words = one_line A single LineNumber directive a.words b.words (reading_of (map (read_in directive.text) tokens) numbering definitions []) a.read b.read in
    let there : Numbers directive a.words y = rw words b.numbers in
    one_number directive a.words x y a.numbers there
