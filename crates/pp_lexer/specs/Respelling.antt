-- Values that can be spelled, and what a lexer reads in a text that spells them: the tokens of GLSL ES 3.20, section
-- 3.6.
use Rattle.std.specs.Prelude.{◌≡◌, ℕ, ℤ, ◌<◌, ◌^◌, pos, true, ⊤, List, [], ◌∷◌, ◌++◌, map, Result, Ok, Err, All}
use Rattle.std.specs.Prelude.{◌⊎◌, MatchBool, encode_utf8_all}
use Rattle.std.specs.Str.{IsUtf8, all_scalars}
use Rattle.pp_lexer.specs.declared.rules.Rules.{Rules}
use Rattle.pp_lexer.specs.declared.token.Float.{Float as FloatLiteral}
use Rattle.pp_lexer.specs.declared.token.Integer.{Integer as IntegerLiteral}
use Rattle.pp_lexer.specs.declared.token.PreprocessorError.{PreprocessorError}
use Rattle.pp_lexer.specs.declared.token.TokenValue.{TokenValue}
use Rattle.pp_lexer.specs.declared.token.TokenValue.TheVariants.{Ident, Integer, Float, Punct, Version, Extension}
use Rattle.pp_lexer.specs.declared.token.TokenValue.TheVariants.{Pragma}
use Rattle.pp_lexer.specs.declared.lexer.item.TokenValue.{TokenValue as LexerTokenValue}
use Rattle.pp_lexer.specs.declared.lexer.item.TokenValue.TheVariants.{Hash, NewLine, Ident as LexerIdent}
use Rattle.pp_lexer.specs.declared.lexer.item.TokenValue.TheVariants.{Integer as LexerInteger, Float as LexerFloat}
use Rattle.pp_lexer.specs.declared.lexer.item.TokenValue.TheVariants.{Punct as LexerPunct}
use Rattle.pp_lexer.specs.Identifiers.{is_identifier}
use Rattle.pp_lexer.specs.Items.{Lexeme}
use Rattle.pp_lexer.specs.Lexed.{start_by}
use Rattle.pp_lexer.specs.NumberValue.{is_float, is_float_text}
use Rattle.pp_lexer.specs.Rules.{pp_rs}
use Rattle.pp_lexer.specs.Spelling.{spelled_text}
use Rattle.pp_lexer.specs.Spots.{spots_of}

-- an identifier of the grammar, made of characters of Unicode
abbrev pub IsName : List ℕ → Type 0
IsName text = (is_identifier text ≡ true) × (all_scalars text ≡ true)

-- a width that the lexer gives: 32 bits, or where widths are taken 64 or 16
abbrev pub IsWidth : Rules → ℤ → Type 0
IsWidth rules width =
    MatchBool rules.takes_widths ((width ≡ pos 32) ⊎ ((width ≡ pos 64) ⊎ (width ≡ pos 16))) (width ≡ pos 32)

-- a number below 2^64, of a width that the lexer gives
abbrev pub IsWhole : Rules → IntegerLiteral → Type 0
IsWhole rules i = (i.value < 2 ^ 64) × IsWidth rules i.width

-- the text of a float, with a point or an exponent, of a width that the lexer gives
abbrev pub IsReal : Rules → FloatLiteral → Type 0
IsReal rules f = (is_float_text f.text ≡ true) × (is_float f.text ≡ true) × IsWidth rules f.width

-- the value can be spelled; a directive can't
abbrev pub IsSpellableBy : Rules → TokenValue → Type 0
IsSpellableBy rules (Ident name) = IsName name
IsSpellableBy rules (Integer i) = IsWhole rules i
IsSpellableBy rules (Float f) = IsReal rules f
IsSpellableBy rules (Punct p) = ⊤
IsSpellableBy rules (Version v) = ⊥
IsSpellableBy rules (Extension e) = ⊥
IsSpellableBy rules (Pragma p) = ⊥

-- the same at pp-rs's rules
abbrev pub IsSpellable : TokenValue → Type 0
IsSpellable value = IsSpellableBy pp_rs value

-- the value as the lexer gives it; the lexer has no value for a directive, but gives the `#` at its front
abbrev pub lexer_value : TokenValue → LexerTokenValue
lexer_value (Ident name) = LexerIdent name
lexer_value (Integer i) = LexerInteger i
lexer_value (Float f) = LexerFloat f
lexer_value (Punct p) = LexerPunct p
lexer_value (Version v) = Hash
lexer_value (Extension e) = Hash
lexer_value (Pragma p) = Hash

-- the value of an item, or its error
abbrev pub item_value : Lexeme → Result LexerTokenValue PreprocessorError
item_value (Ok token) = Ok token.value
item_value (Err fault) = Err fault.0

-- the values of the items of a text, given as its bytes
abbrev pub read_values_by : Rules → List ℕ → List (Result LexerTokenValue PreprocessorError)
read_values_by rules text = map (λ s. item_value s.item) (start_by rules (spots_of text)).rest

abbrev pub read_values : List ℕ → List (Result LexerTokenValue PreprocessorError)
read_values text = read_values_by pp_rs text

-- the newline that ends a text that has a token
abbrev pub ending : List TokenValue → List LexerTokenValue
ending [] = []
ending (v ∷ vs) = NewLine ∷ []

-- The spellings of values, with one space between each two, are read back as the same values in the same order, and a
-- newline after them if there are any. No item is an error.
abbrev pub SpellingsAreReadBack : Type 0
SpellingsAreReadBack =
    (rules : Rules) (values : List TokenValue) → All (IsSpellableBy rules) values
    → read_values_by rules (encode_utf8_all (spelled_text values)) ≡ map Ok (map lexer_value values ++ ending values)

-- the value is a newline or a `#`, or it can be spelled
abbrev pub CanBeSpelled : Rules → LexerTokenValue → Type 0
CanBeSpelled rules Hash = ⊤
CanBeSpelled rules NewLine = ⊤
CanBeSpelled rules (LexerIdent name) = IsSpellableBy rules (Ident name)
CanBeSpelled rules (LexerInteger i) = IsSpellableBy rules (Integer i)
CanBeSpelled rules (LexerFloat f) = IsSpellableBy rules (Float f)
CanBeSpelled rules (LexerPunct p) = IsSpellableBy rules (Punct p)

-- the same of a value that was read; nothing is asked of an error
abbrev pub IsSpelled : Rules → Result LexerTokenValue PreprocessorError → Type 0
IsSpelled rules (Ok value) = CanBeSpelled rules value
IsSpelled rules (Err fault) = ⊤

-- Each token that a lexer gives of a source is a newline, a `#` or a value that can be spelled.
abbrev pub ValuesAreSpelled : Type 0
ValuesAreSpelled =
    (rules : Rules) (source : List ℕ) → IsUtf8 source → All (IsSpelled rules) (read_values_by rules source)
