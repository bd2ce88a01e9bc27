-- The condition of a line on which each macro is replaced by a number or a punctuator, read without an expander
-- (docs/RULES.md, Expressions 1 to 3).
use Rattle.std.specs.Prelude.{◌≡◌, false, Bool, List, [], ◌∷◌, map, Option, Some, None, Ok}
use Rattle.pp_expression.specs.declared.symbol.Symbol.{Symbol}
use Rattle.pp_expression.specs.declared.symbol.Symbol.TheVariants as symbol
use Rattle.pp_lexer.specs.declared.token.Token.{Token}
use Rattle.pp_lexer.specs.declared.token.TokenValue.{TokenValue}
use Rattle.pp_lexer.specs.declared.token.TokenValue.TheVariants.{Ident, Integer, Punct}
use Rattle.pp_model.specs.declared.place.Place.{Place}
use Rattle.pp_model.specs.declared.numbering.Numbering.{Numbering}
use Rattle.pp_model.specs.declared.splice.Entry.{Entry}
use Rattle.pp_model.specs.declared.word.LineKind.TheVariants.{Condition}
use Rattle.pp_model.specs.declared.word.Word.{Word}
use Rattle.pp_model.specs.Definitions.{Definition}
use Rattle.pp_model.specs.Emitting.{answers_at, expansion_limit}
use Rattle.pp_model.specs.LineValues.{symbol_of}
use Rattle.pp_model.specs.LineWords.{LineWords, Words, Operand, word_before}
use Rattle.pp_model.specs.Names.{Name, is_same_name, line_name}
use Rattle.pp_model.specs.Painting.{read_in}
use Rattle.pp_model.specs.Reading.{Expander, Listed, reading_of}
use Rattle.pp_model.specs.SpliceList.{after_marks}
use Rattle.pp_macros.specs.inner.Defined.{Defined, meaning_of}
use Rattle.pp_directives.specs.inner.LineReads.{LineTokens}

-- what a number or a punctuator is in the grammar of expressions
abbrev pub plain_symbol : TokenValue → Option Symbol
plain_symbol (Integer number) = Some (symbol.Number number.value)
plain_symbol (Punct punct) = Some (symbol.Punct punct)
plain_symbol _ = None

-- the value is this name, which isn't `__LINE__`
abbrev pub IsFreeName : Name → TokenValue → Type 0
IsFreeName name value = (value ≡ Ident name) × (is_same_name name line_name ≡ false)

-- the definition of a macro without parameters whose body is a token alone, and what that is
pub record IsBody (definition : Definition) (found : Symbol) : Type 0 where
  pub bare : definition.function_like ≡ false
  pub token : Token
  pub body : definition.body ≡ token ∷ []
  pub is : plain_symbol token.value ≡ Some found

module _ (directive : Place) (numbering : Numbering) (definitions : List Defined) where
  -- the rest of a line, after entries of macros that were replaced
  abbrev pub rest_of_line : List Entry → List Token → Expander Listed
  rest_of_line entries tokens =
      record (reading_of (map (read_in directive.text) tokens) numbering (meaning_of definitions) []) { list = entries }

  abbrev pub AreWords : List Entry → List Token → Words → Type 0
  AreWords entries tokens =
      LineWords Condition directive (answers_at expansion_limit) (rest_of_line entries tokens)

  -- One word is read, whatever end marks are left of the macro before it. After it end marks alone are left.
  pub record ReadsWord (old : List Token) (found : Symbol) (new : List Token) : Type 0 where
    pub word : Word
    pub is : found ≡ symbol_of word
    pub entries : List Entry
    pub passed : after_marks entries ≡ []
    pub goes_on : (before : List Entry) (rest : Words) → after_marks before ≡ [] → AreWords entries new rest
        → AreWords before old (word_before word rest)

-- one word is read on any line
abbrev pub GivesWord : List Defined → List Token → Symbol → List Token → Type 0
GivesWord definitions old found new =
    (directive : Place) (numbering : Numbering) → ReadsWord directive numbering definitions old found new

-- so is the operand of a `defined`
abbrev pub GivesOperand : List Defined → List Token → Bool → List Token → Type 0
GivesOperand definitions old answer new =
    (directive : Place) (numbering : Numbering) → Operand Condition directive (answers_at expansion_limit)
    (rest_of_line directive numbering definitions [] old) (Ok answer)
    (rest_of_line directive numbering definitions [] new)

-- the words of the whole line are these, without a fault
pub record AreSymbolsOf (line : LineTokens) (numbering : Numbering) (definitions : List Defined) (symbols : List Symbol)
    : Type 0 where
  pub words : List Word
  pub are : symbols ≡ map symbol_of words
  pub read : AreWords line.directive numbering definitions [] line.tokens (record { words = words; ending = None })
