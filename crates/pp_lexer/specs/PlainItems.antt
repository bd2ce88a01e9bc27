-- A word of plain text that a lexer gives before memory is taken for it (docs/RULES.md, Tokens).
use Rattle.std.specs.Prelude.{◌≡◌, ℕ, ◌-◌, Bool, true, false, List, [], ◌∷◌, length, take, Some, Ok}
use Rattle.std.specs.Prelude.{MatchBool, pos}
use Rattle.std.specs.Str.{IsAscii}
use Rattle.pp_lexer.specs.declared.lexer.item.Token.{Token}
use Rattle.pp_lexer.specs.declared.lexer.item.TokenValue.{TokenValue}
use Rattle.pp_lexer.specs.declared.lexer.item.TokenValue.TheVariants.{Hash, Ident, Integer, Float, Punct}
use Rattle.pp_lexer.specs.declared.lexer.plain.Form.{Form}
use Rattle.pp_lexer.specs.declared.lexer.plain.Form.TheVariants.{Identifier, Integer as IntegerForm}
use Rattle.pp_lexer.specs.declared.lexer.plain.Form.TheVariants.{Unsigned as UnsignedForm, Float as FloatForm}
use Rattle.pp_lexer.specs.declared.lexer.plain.Form.TheVariants.{SuffixedFloat as SuffixedForm, Punct as PunctForm}
use Rattle.pp_lexer.specs.declared.lexer.plain.Form.TheVariants.{Hash as HashForm}
use Rattle.pp_lexer.specs.declared.lexer.plain_item.PlainItem.{PlainItem}
use Rattle.pp_lexer.specs.Lexed.{Seen, Lexed, first_item, after_first, is_newline_lexeme}

-- a spelling without its last character
abbrev pub without_suffix : List ℕ → List ℕ
without_suffix w = take (length w - 1) w

-- the value of a word of this form with this spelling
abbrev pub value_of : Form → List ℕ → TokenValue
value_of Identifier w = Ident w
value_of (IntegerForm n) w = Integer (record { value = n; signed = true; width = pos 32 })
value_of (UnsignedForm n) w = Integer (record { value = n; signed = false; width = pos 32 })
value_of FloatForm w = Float (record { text = w; width = pos 32 })
value_of SuffixedForm w = Float (record { text = without_suffix w; width = pos 32 })
value_of (PunctForm p) w = Punct p
value_of HashForm w = Hash

-- the token of a word
abbrev pub token_of : PlainItem → Token
token_of item = record {
  value = value_of item.form item.spelling.now;
  location = item.location;
  leading_whitespace = item.leading_whitespace;
  start_of_line = item.start_of_line;
}

-- the first item to come is this word, which is spelled in ASCII
pub record IsNextWord (l : Lexed) (word : PlainItem) : Type 0 where
  pub unspent : l.spent ≡ false
  pub is : first_item l.rest ≡ Some (Ok (token_of word))
  pub ascii : IsAscii word.spelling.now

-- the same items are to come; comments before the first of them may have been passed
abbrev pub PassesBlanks : Lexed → Lexed → Type 0
PassesBlanks old new = new ≡ record old { had_comments = new.had_comments }

-- the first item to come is a newline
abbrev pub begins_newline : List Seen → Bool
begins_newline [] = false
begins_newline (s ∷ rest) = is_newline_lexeme s.item

-- the first item to come is a newline, and it was taken
pub record IsNewlineTaken (old new : Lexed) : Type 0 where
  pub unspent : old.spent ≡ false
  pub is : begins_newline old.rest ≡ true
  pub state : new ≡ after_first old

-- one call of `pass_newline`: a newline was taken, or all is as it was
abbrev pub PassesNewline : Lexed → Bool → Lexed → Type 0
PassesNewline old answer new = MatchBool answer (IsNewlineTaken old new) (new ≡ old)
