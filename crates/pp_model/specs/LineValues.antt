-- The value of an `#if`, `#elif` or `#line` line, or its first fault (GLSL ES 3.20, section 3.4, and docs/RULES.md,
-- Expressions 3 to 7 and Directives 13). Trees, their values and the first fault of an expression are those of
-- pp_expression.
use Rattle.std.specs.Prelude.{◌≡◌, ℕ, zero, ℤ, ◌-◌, Bool, not, if◌then◌else◌, List, []}
use Rattle.std.specs.Prelude.{length, drop, slice_get, map, Option, Some, None, option_map, option_and_then, unwrap_or}
use Rattle.std.specs.Prelude.{MatchOption, Result, Ok, Err, MatchResult}
use Rattle.pp_expression.specs.declared.symbol.Symbol.{Symbol}
use Rattle.pp_expression.specs.declared.symbol.Symbol.TheVariants as symbol
use Rattle.pp_expression.specs.declared.symbol.ExpressionFault.{ExpressionFault}
use Rattle.pp_expression.specs.declared.symbol.ExpressionFault.TheVariants as kind
use Rattle.pp_expression.specs.declared.symbol.Value.{Value}
use Rattle.pp_expression.specs.declared.symbol.Found.{Found}
use Rattle.pp_expression.specs.Arithmetic.{is_zero}
use Rattle.pp_expression.specs.Lines.{Line}
use Rattle.pp_expression.specs.FirstFault.{Evaluates}
use Rattle.std.specs.Option.{option_map_or}
use Rattle.pp_model.specs.declared.place.Place.{Place}
use Rattle.pp_lexer.specs.declared.token.PreprocessorError.TheVariants.{IntegerOverflow, DivisionByZero}
use Rattle.pp_lexer.specs.declared.token.PreprocessorError.TheVariants.{RemainderByZero, UnexpectedEndOfInput}
use Rattle.pp_lexer.specs.declared.token.PreprocessorError.TheVariants.{UnexpectedToken, LineOverflow}
use Rattle.pp_lexer.specs.declared.token.Token.{Token}
use Rattle.pp_lexer.specs.declared.token.TokenValue.{TokenValue}
use Rattle.pp_lexer.specs.declared.token.TokenValue.TheVariants.{Ident, Integer, Punct}
use Rattle.pp_model.specs.Places.{PlacedFault}
use Rattle.pp_model.specs.Names.{defined_name}
use Rattle.pp_model.specs.Definitions.{Definitions}
use Rattle.pp_model.specs.Painting.{read_in}
use Rattle.pp_model.specs.Numbering.{as_line_number}
use Rattle.pp_model.specs.Reading.{reading_of}
use Rattle.pp_model.specs.Calls.{Answers}
use Rattle.pp_model.specs.LineWords.{Words, LineWords}
use Rattle.pp_model.specs.declared.numbering.Numbering.{Numbering}
use Rattle.pp_model.specs.declared.word.LineKind.TheVariants.{Condition, LineNumber}
use Rattle.pp_model.specs.declared.word.Word.{Word}
use Rattle.pp_model.specs.declared.word.Word.TheVariants.{Plain, Defined}

-- what a word is in the grammar of expressions
abbrev pub symbol_of_value : TokenValue → Symbol
symbol_of_value (Integer number) = symbol.Number number.value
symbol_of_value (Punct punct) = symbol.Punct punct
symbol_of_value _ = symbol.Other

abbrev pub symbol_of : Word → Symbol
symbol_of (Plain value place) = symbol_of_value value
symbol_of (Defined place (Ok answer)) = symbol.Number (if answer then 1 else 0)
symbol_of (Defined place (Err fault)) = symbol.Fault

abbrev pub line_of : Words → Line
line_of words = record { symbols = map symbol_of words.words; ending = option_map (λ fault. kind.Unread) words.ending }

-- the first of the last `left` words of the line
abbrev pub word_from_end : ℕ → Words → Option Word
word_from_end left words = slice_get words.words (length words.words - left)

-- the fault of a word that isn't allowed at its position; a `defined` is reported as the identifier that it begins with
abbrev pub unwanted_word : Word → PlacedFault
unwanted_word (Plain value place) = (UnexpectedToken value, place)
unwanted_word (Defined place answer) = (UnexpectedToken (Ident defined_name), place)

-- the fault of a `defined`'s operand, if it has one
abbrev pub operand_fault : Word → Option PlacedFault
operand_fault (Defined place (Err fault)) = Some fault
operand_fault _ = None

-- the line ends too early, which is reported at the directive's word
abbrev pub ended_early : Place → PlacedFault
ended_early directive = (UnexpectedEndOfInput, directive)

-- The first fault of an expression, with its place: faults of arithmetic and of the end are at the directive's word.
abbrev pub placed_fault : Place → Words → ExpressionFault → ℕ → PlacedFault
placed_fault directive words kind.IntegerOverflow left = (IntegerOverflow, directive)
placed_fault directive words kind.DivisionByZero left = (DivisionByZero, directive)
placed_fault directive words kind.RemainderByZero left = (RemainderByZero, directive)
placed_fault directive words kind.UnexpectedEndOfInput left = ended_early directive
placed_fault directive words kind.Unexpected left =
    unwrap_or (option_map unwanted_word (word_from_end left words)) (ended_early directive)
placed_fault directive words kind.Unread left = unwrap_or words.ending (ended_early directive)
placed_fault directive words kind.Operand left =
    unwrap_or (option_and_then operand_fault (word_from_end left words)) (ended_early directive)

-- What words give by the expression at their front: its first fault, or what `By` says of its value.
pub record ByExpression {A : Type 0} (directive : Place) (words : Words) (By : Value → Result A PlacedFault → Type 0)
    (result : Result A PlacedFault) : Type 0 where
  pub evaluation : Result Value Found
  pub evaluated : Evaluates (line_of words) evaluation
  pub is : MatchResult evaluation (λ v. By v result)
      (λ found. result ≡ Err (placed_fault directive words found.kind found.left))

-- the words after an expression
abbrev pub words_after : ℕ → Words → Words
words_after left words = record words { words = drop (length words.words - left) words.words }

-- An expression is taken from the front of words: its value, and the words after it are left. Or it has a first fault.
abbrev pub TakesExpression : Place → Words → Result ℤ PlacedFault → Words → Type 0
TakesExpression directive old result new =
    ByExpression directive old (λ v r. (r ≡ Ok v.value) × (new ≡ words_after v.left old)) result

-- what is reported of the value of an expression that is alone on its line; a word after it is a fault
abbrev pub IsAlone : {A : Type 0} → Place → Words → (ℤ → A) → Result A PlacedFault → Type 0
IsAlone directive words report = ByExpression directive words (λ v result.
    result ≡ option_map_or (λ word. Err (unwanted_word word)) (word_from_end v.left words) (Ok (report v.value)))

-- The condition of an `#if` or `#elif`: it holds if its value isn't 0.
pub record IsCondition (A : Answers) (place : Place) (tokens : List Token) (numbering : Numbering)
    (definitions : Definitions) (result : Result Bool PlacedFault) : Type 0 where
  pub words : Words
  pub read : LineWords Condition place A (reading_of (map (read_in place.text) tokens) numbering definitions []) words
  pub value : IsAlone place words (λ value. not (is_zero value)) result

-- What the line number `n` gives with `left` words after it: they are a second expression, which has no effect unless
-- it has a fault.
abbrev pub NumberBefore : Place → Words → ℕ → ℕ → Result ℕ PlacedFault → Type 0
NumberBefore directive words n zero result = result ≡ Ok n
NumberBefore directive words n left result = IsAlone directive (words_after left words) (λ value. n) result

-- the number that the words of a `#line` give, or their first fault
abbrev pub Numbers : Place → Words → Result ℕ PlacedFault → Type 0
Numbers directive words = ByExpression directive words (λ v result.
    MatchOption (as_line_number v.value) (result ≡ Err (LineOverflow, directive))
    (λ n. NumberBefore directive words n v.left result))

-- the line number that a `#line` gives, or its first fault
pub record IsLineNumber (A : Answers) (place : Place) (tokens : List Token) (numbering : Numbering)
    (definitions : Definitions) (result : Result ℕ PlacedFault) : Type 0 where
  pub words : Words
  pub read : LineWords LineNumber place A (reading_of (map (read_in place.text) tokens) numbering definitions []) words
  pub numbers : Numbers place words result
