-- The expressions of an `#if`, `#elif` or `#line` line (docs/RULES.md, Expressions 3 to 7).
use Rattle.std.specs.Prelude.{◌≡◌, ℤ, List, Result}
use Rattle.pp_model.specs.declared.place.Place.{Place}
use Rattle.pp_lexer.specs.declared.token.Token.{Token}
use Rattle.pp_model.specs.Places.{PlacedFault}
use Rattle.pp_model.specs.Emitting.{expansion_limit}
use Rattle.pp_model.specs.LineWords.{Words}
use Rattle.pp_model.specs.LineValues as line
use Rattle.pp_model.specs.declared.word.LineKind.{LineKind}
use Rattle.pp_macros.specs.inner.Defined.{Defined}
use Rattle.pp_directives.specs.inner.ReadingWords.{AreWordsOfLine}
use Rattle.pp_model.specs.declared.numbering.Numbering.{Numbering}

-- the place of the directive's word, and the words that are left of its line
pub record IfParser : Type 0 where
  pub directive : Place
  pub words : Words

-- no word of the line is taken yet
pub record IsAtFront (kind : LineKind) (directive : Place) (tokens : List Token) (numbering : Numbering)
    (definitions : List Defined)
    (parser : IfParser) : Type 0 where
  pub place : parser.directive ≡ directive
  pub words : AreWordsOfLine kind directive expansion_limit tokens numbering definitions parser.words

-- an expression is taken: its value, or its first fault
pub record TakesExpression (old : IfParser) (taken : Result ℤ PlacedFault) (new : IfParser) : Type 0 where
  pub place : new.directive ≡ old.directive
  pub takes : line.TakesExpression old.directive old.words taken new.words
