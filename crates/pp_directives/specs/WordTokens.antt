-- The token of a word of plain text.
use Rattle.std.specs.Prelude.{ℕ, List, true, false, pos}
use Rattle.pp_lexer.specs.PlainItems.{without_suffix}
use Rattle.pp_lexer.specs.declared.lexer.plain.Form.{Form}
use Rattle.pp_lexer.specs.declared.lexer.plain.Form.TheVariants.{Identifier, Integer as IntegerForm}
use Rattle.pp_lexer.specs.declared.lexer.plain.Form.TheVariants.{Unsigned as UnsignedForm, Float as FloatForm}
use Rattle.pp_lexer.specs.declared.lexer.plain.Form.TheVariants.{SuffixedFloat as SuffixedForm, Punct as PunctForm}
use Rattle.pp_lexer.specs.declared.lexer.plain.Form.TheVariants.{Hash as HashForm}
use Rattle.pp_lexer.specs.declared.lexer.plain_item.PlainItem.{PlainItem}
use Rattle.pp_lexer.specs.declared.token.Token.{Token}
use Rattle.pp_lexer.specs.declared.token.TokenValue.{TokenValue}
use Rattle.pp_lexer.specs.declared.token.TokenValue.TheVariants.{Ident, Integer, Float, Punct}

-- the value of a word with this form and this spelling; the value for a `#`, which is never a token, doesn't matter
abbrev pub word_value : Form → List ℕ → TokenValue
word_value Identifier w = Ident w
word_value (IntegerForm n) w = Integer (record { value = n; signed = true; width = pos 32 })
word_value (UnsignedForm n) w = Integer (record { value = n; signed = false; width = pos 32 })
word_value FloatForm w = Float (record { text = w; width = pos 32 })
word_value SuffixedForm w = Float (record { text = without_suffix w; width = pos 32 })
word_value (PunctForm p) w = Punct p
word_value HashForm w = Ident w

-- the word's token, with its place
abbrev pub word_token : PlainItem → Token
word_token item = record { value = word_value item.form item.spelling.now; location = item.location }
