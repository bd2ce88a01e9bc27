-- The values that a lexer still gives, and the value that it reads from a token's text.
use Rattle.std.specs.Prelude.{◌≡◌, ℕ, ◌⊎◌, List, [], ◌∷◌, map, Result, Ok}
use Rattle.pp_lexer.specs.declared.lexer.item.TokenValue.{TokenValue as LexerTokenValue}
use Rattle.pp_lexer.specs.declared.lexer.item.TokenValue.TheVariants.{NewLine}
use Rattle.pp_lexer.specs.declared.rules.Rules.{Rules}
use Rattle.pp_lexer.specs.declared.token.PreprocessorError.{PreprocessorError}
use Rattle.pp_lexer.specs.declared.token.TokenValue.{TokenValue}
use Rattle.std.specs.Str.{encode_utf8_all}
use Rattle.pp_lexer.specs.ItemText.{item_text}
use Rattle.pp_lexer.specs.Lexed.{Lexed}
use Rattle.pp_lexer.specs.Respelling.{IsSpellableBy, item_value, lexer_value, read_values_by}

-- the values of the items to come, or their errors
abbrev pub values_ahead : Lexed → List (Result LexerTokenValue PreprocessorError)
values_ahead lexer = map (λ s. item_value s.item) lexer.rest

-- the text, read again by these rules, is one token of this value, with the newline that ends its line
abbrev pub IsReadAs : Rules → TokenValue → List ℕ → Type 0
IsReadAs rules value text = read_values_by rules text ≡ Ok (lexer_value value) ∷ Ok NewLine ∷ []

-- The text for a value. If the lexer can give the value by these rules, the text, read again by them, is that value.
abbrev pub IsTextOf : Rules → TokenValue → List ℕ → Type 0
IsTextOf rules value text = IsSpellableBy rules value → IsReadAs rules value text

-- the text of a directive: its word and its tokens with single spaces, or another one that these rules read as the same
-- tokens
abbrev pub IsDirectiveText : Rules → TokenValue → List ℕ → Type 0
IsDirectiveText rules value text = (text ≡ encode_utf8_all (item_text value))
    ⊎ (read_values_by rules text ≡ read_values_by rules (encode_utf8_all (item_text value)))
