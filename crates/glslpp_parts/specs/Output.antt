-- What each item of a source adds to the output.
use Rattle.std.specs.Prelude.{◌≡◌, ◌⊎◌, ℕ, Bool, true, false, IsTrue, List, ◌++◌, codes, Option, Some, None}
use Rattle.std.specs.Prelude.{◌&&◌, nat_eq, option_map, unwrap_or, MatchBool}
use Rattle.pp_lexer.specs.declared.rules.Rules.{Rules}
use Rattle.pp_lexer.specs.declared.token.Location.{Location}
use Rattle.pp_lexer.specs.declared.token.Token.{Token}
use Rattle.pp_lexer.specs.declared.token.TokenValue.{TokenValue}
use Rattle.pp_lexer.specs.declared.token.TokenValue.TheVariants.{Punct}
use Rattle.pp_lexer.specs.declared.token.Punct.TheVariants.{Semicolon, Comma, RightParen, RightBracket}
use Rattle.pp_rs.specs.TokenRefs.{token_of}
use Rattle.pp_rs.specs.declared.pp.token_ref.TokenRef.{TokenRef}
use Rattle.glslpp_parts.specs.declared.arguments.Form.{Form}
use Rattle.glslpp_parts.specs.declared.arguments.Form.TheVariants.{Lines, Compact, Tokens, Directives, Definitions}
use Rattle.glslpp_parts.specs.declared.layout.Gap.{Gap}
use Rattle.glslpp_parts.specs.declared.layout.Gap.TheVariants.{Nothing}
use Rattle.glslpp_parts.specs.Layout.{Laid, on_line, with_directive, with_mark}
use Rattle.glslpp_parts.specs.Reading.{IsTextOf, IsDirectiveText}
use Rattle.glslpp_parts.specs.Texts.{Texts, is_file, is_marked}

-- the form of the output, the rules by which the source is read, the texts, the words on their lines, the text that the
-- last line is of, whether that has `#line` lines with names, the text and the end in it of the last word, if it is
-- written so in a file, the lines of JSON, and the text and its line whose tokens are left out
pub record Printed : Type 0 where
  pub form : Form
  pub rules : Rules
  pub texts : Texts
  pub laid : Laid
  pub text : ℕ
  pub is_marked : Bool
  pub end : Option (ℕ × ℕ)
  pub items : List ℕ
  pub left_out : Option (ℕ × ℕ)

-- after a `#line` line, by which the next line is this one of this text
abbrev pub marked : Printed → ℕ → ℕ → List ℕ → Printed
marked old text line mark = record old {
  laid = with_mark old.laid mark line;
  text = text;
  is_marked = is_marked old.texts text;
  end = None;
}

-- What is put next is on this line of this text: a `#line` line is put if another file's text was before. In a text
-- that has such lines with names one may be put too.
pub record GoesTo (old : Printed) (text line : ℕ) (new : Printed) : Type 0 where
  pub mark : List ℕ
  pub goes : MatchBool (is_file old.texts text)
      (MatchBool (nat_eq text old.text)
      ((new ≡ old) ⊎ (IsTrue old.is_marked × (new ≡ marked old text line mark)))
      (new ≡ marked old text line mark))
      (new ≡ old)

-- a punctuator that ends what comes before it, and is no part of a longer one
abbrev pub is_closing : TokenValue → Bool
is_closing (Punct Semicolon) = true
is_closing (Punct Comma) = true
is_closing (Punct RightParen) = true
is_closing (Punct RightBracket) = true
is_closing value = false

-- A word with this place in the text with this number is put on the line. The space before it is left out only if it
-- begins in a file at the end of the word before, or is a closing punctuator there.
pub record PutsText (old : Printed) (text : ℕ) (place : Location) (closes : Bool) (line : ℕ) (word : List ℕ)
    (new : Printed) : Type 0 where
  pub gap : Gap
  pub side_by_side : gap ≡ Nothing
      → IsTrue (is_file old.texts text) × ((old.end ≡ Some (text, place.start)) ⊎ IsTrue closes)
  pub laid : new.laid ≡ on_line old.laid line gap word
  pub in_text : new.text ≡ old.text
  pub is_marked : new.is_marked ≡ old.is_marked
  pub end : (new.end ≡ None) ⊎ (IsTrue (is_file old.texts text) × (new.end ≡ Some (text, place.end)))
  pub items : new.items ≡ old.items

-- the word of a token in this text is put on the line: a text that is read again as the token's value
pub record PutsWord (old : Printed) (text : ℕ) (token : Token) (line : ℕ) (new : Printed) : Type 0 where
  pub word : List ℕ
  pub is_text : IsTextOf old.rules token.value word
  pub puts : PutsText old text token.location (is_closing token.value) line word new

-- the same after the text is gone to whose line that is
pub record PutsLineWord (old : Printed) (text : ℕ) (token : Token) (line_text line : ℕ) (new : Printed) : Type 0 where
  pub between : Printed
  pub goes : GoesTo old line_text line between
  pub puts : PutsWord between text token line new

-- a directive is put on a line by itself
pub record PutsDirective (old : Printed) (token : Token) (line : ℕ) (new : Printed) : Type 0 where
  pub word : List ℕ
  pub is_text : IsDirectiveText old.rules token.value word
  pub laid : new.laid ≡ with_directive old.laid line word
  pub in_text : new.text ≡ old.text
  pub is_marked : new.is_marked ≡ old.is_marked
  pub end : new.end ≡ None
  pub items : new.items ≡ old.items

-- the same after its text is gone to
pub record PutsLineDirective (old : Printed) (text : ℕ) (token : Token) (new : Printed) : Type 0 where
  pub between : Printed
  pub goes : GoesTo old text token.location.line between
  pub puts : PutsDirective between token token.location.line new

-- one more object is put, on a line of its own
pub record IsItem (old new : List ℕ) : Type 0 where
  pub members : List ℕ
  pub text : new ≡ old ++ codes "{" ++ members ++ codes "}\n"

-- the same, and the object begins as that of an error with this name
pub record IsErrorItem (name old new : List ℕ) : Type 0 where
  pub members : List ℕ
  pub text : new ≡ old ++ codes "{\"kind\":\"error\",\"error\":\"" ++ name ++ codes "\"," ++ members ++ codes "}\n"

-- an item of JSON is put, and no word
pub record PutsItem (old new : Printed) : Type 0 where
  pub laid : new.laid ≡ old.laid
  pub items : IsItem old.items new.items

-- What an ordinary token (`true`) or a directive (`false`) of this text adds, by the form of the output. A token of a
-- macro goes on the line of the call, in its text.
abbrev pub Puts : Form → Bool → Printed → ℕ → Token → Option (ℕ × ℕ) → Printed → Type 0
Puts Lines true old text token call new =
    let place = unwrap_or call (text, token.location.line) in PutsLineWord old text token place.0 place.1 new
Puts Compact true old text token call new = PutsWord old text token old.laid.line new
Puts Tokens true old text token call new = PutsItem old new
Puts Directives true old text token call new = new ≡ old
Puts Definitions true old text token call new = new ≡ old
Puts Lines false old text token call new = PutsLineDirective old text token new
Puts Compact false old text token call new = PutsDirective old token old.laid.line new
Puts Tokens false old text token call new = PutsItem old new
Puts Directives false old text token call new = PutsDirective old token old.laid.line new
Puts Definitions false old text token call new = new ≡ old

-- the text and the line of the call that gave the token, if one did
abbrev pub call_line_of : TokenRef → Option (ℕ × ℕ)
call_line_of token = option_map (λ call. (call.text, call.line)) token.origin.call

-- that text and line, or else the token's own
abbrev pub place_of_line : TokenRef → ℕ × ℕ
place_of_line token = unwrap_or (call_line_of token) (token.origin.text, token.location.line)

-- the number of that text
abbrev pub text_of_line : TokenRef → ℕ
text_of_line token = (place_of_line token).0

-- that line
abbrev pub line_of : TokenRef → ℕ
line_of token = (place_of_line token).1

abbrev pub is_left_out : Option (ℕ × ℕ) → ℕ → ℕ → Bool
is_left_out None text line = false
is_left_out (Some other) text line = nat_eq other.0 text && nat_eq other.1 line

-- A token is put, unless it is on the line whose tokens are left out.
pub record Takes (old : Printed) (token : TokenRef) (new : Printed) : Type 0 where
  pub form : new.form ≡ old.form
  pub rules : new.rules ≡ old.rules
  pub texts : new.texts ≡ old.texts
  pub left_out : new.left_out ≡ old.left_out
  pub puts :
      MatchBool (is_left_out old.left_out (text_of_line token) (line_of token))
      (new ≡ old)
      (Puts old.form true old token.origin.text (token_of token) (call_line_of token) new)

-- what an error with this name adds to the lines of JSON, by the form of the output
abbrev pub PutsError : Form → List ℕ → List ℕ → List ℕ → Type 0
PutsError Tokens name old new = IsErrorItem name old new
PutsError Lines name old new = new ≡ old
PutsError Compact name old new = new ≡ old
PutsError Directives name old new = new ≡ old
PutsError Definitions name old new = new ≡ old
