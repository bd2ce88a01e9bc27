-- The number of the first expression of a `#line`, by what is taken of its words.
use Rattle.std.proofs.Common.{◌≡◌, ◌∙◌, ap, sym, subst, ℕ, ℤ, List, [], map, Option, None, Result, Ok, Err, MatchResult}
use Rattle.pp_lexer.specs.declared.token.Token.{Token}
use Rattle.pp_expression.specs.declared.symbol.Value.{Value}
use Rattle.pp_expression.specs.declared.symbol.Found.{Found}
use Rattle.pp_expression.specs.FirstFault.{Evaluates}
use Rattle.pp_model.specs.Places.{PlacedFault}
use Rattle.pp_model.specs.Definitions.{Definitions}
use Rattle.pp_model.specs.Painting.{read_in}
use Rattle.pp_model.specs.Reading.{reading_of}
use Rattle.pp_model.specs.Calls.{Answers}
use Rattle.pp_model.specs.LineWords.{Words, LineWords}
use Rattle.pp_model.specs.LineValues.{TakesExpression, line_of, placed_fault, words_after}
use Rattle.pp_model.specs.Numbering.{as_line_number}
use Rattle.pp_model.specs.Onward.{IsFirstNumber}
use Rattle.pp_model.specs.declared.numbering.Numbering.{Numbering}
use Rattle.pp_model.specs.declared.place.Place.{Place}
use Rattle.pp_model.specs.declared.word.LineKind.TheVariants.{LineNumber}

abbrev number_of : Result ℤ PlacedFault → Option ℕ
number_of (Ok value) = as_line_number value
number_of (Err fault) = None

module _ (A : Answers) (place : Place) (tokens : List Token) (numbering : Numbering) (definitions : Definitions) (words after : Words)
    (read : LineWords LineNumber place A (reading_of (map (read_in place.text) tokens) numbering definitions []) words)
    (taken : Result ℤ PlacedFault) (takes : TakesExpression place words taken after) where
  first_number : IsFirstNumber A place tokens numbering definitions (number_of taken)
  first_number = at takes.evaluation takes.evaluated takes.is where
    at : (e : Result Value Found) → Evaluates (line_of words) e
        → MatchResult e (λ v. (taken ≡ Ok v.value) × (after ≡ words_after v.left words)) (λ found. taken ≡ Err (placed_fault place words found.kind found.left))
        → IsFirstNumber A place tokens numbering definitions (number_of taken)
    at (Ok v) evaluated by = record { words = words; read = read; evaluation = Ok v; evaluated = evaluated; is = ap number_of by.0 }
    at (Err found) evaluated by = record { words = words; read = read; evaluation = Err found; evaluated = evaluated; is = ap number_of by }

  pub first_by_value : (value : ℤ) (first : Option ℕ) → taken ≡ Ok value → first ≡ as_line_number value
      → IsFirstNumber A place tokens numbering definitions first
  first_by_value value first is same = subst (IsFirstNumber A place tokens numbering definitions) (ap number_of is ∙ sym same) first_number

  pub first_by_fault : (fault : PlacedFault) → taken ≡ Err fault → IsFirstNumber A place tokens numbering definitions None
  first_by_fault fault is = subst (IsFirstNumber A place tokens numbering definitions) (ap number_of is) first_number
