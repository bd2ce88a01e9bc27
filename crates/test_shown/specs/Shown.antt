-- How items are shown as text, as UTF-8. No contract says which name a punctuator has, so of a value with a
-- punctuator, and of a directive, whose tokens are shown, nothing is said but where it ends. There a definition is
-- about the text before and the text after.
use Rattle.std.specs.Prelude.{◌≡◌, ℕ, Bool, true, false, List, [], ◌∷◌, ◌++◌, Option, Some, None, Result, Ok, Err}
use Rattle.std.specs.Prelude.{codes, ⊤}
use Rattle.std.specs.Fmt.{decimal}
use Rattle.std.specs.List.{flat_map}
use Rattle.std.specs.Str.{encode_utf8_all}
use Rattle.pp_lexer.specs.PreprocessorError.{name_of}
use Rattle.pp_lexer.specs.Spelling.{integer_letters, width_letters}
use Rattle.pp_lexer.specs.declared.token.Float.{Float}
use Rattle.pp_lexer.specs.declared.token.Integer.{Integer}
use Rattle.pp_lexer.specs.declared.token.Location.{Location}
use Rattle.pp_lexer.specs.declared.token.PreprocessorError.{PreprocessorError}
use Rattle.pp_lexer.specs.declared.token.PreprocessorError.TheVariants.{UnexpectedToken}
use Rattle.pp_lexer.specs.declared.token.Token.{Token}
use Rattle.pp_lexer.specs.declared.token.TokenValue.{TokenValue}
use Rattle.pp_lexer.specs.declared.token.TokenValue.TheVariants as value
use Rattle.pp_lexer.specs.declared.lexer.item.Token.{Token as LexerToken}
use Rattle.pp_lexer.specs.declared.lexer.item.TokenValue.{TokenValue as LexerValue}
use Rattle.pp_lexer.specs.declared.lexer.item.TokenValue.TheVariants as lexer
use Rattle.pp_model.specs.declared.call.Reply.{Reply}
use Rattle.pp_model.specs.declared.call.Reply.TheVariants.{Added, Included, Refused, TooDeep, Given}
use Rattle.pp_model.specs.declared.outcome.Outcome.TheVariants as outcome

-- the texts with a comma and a space between each two
abbrev pub joined : List (List ℕ) → List ℕ
joined [] = []
joined (text ∷ texts) = text ++ flat_map (λ other. codes ", " ++ other) texts

-- with this text at the end, if it is known
abbrev pub IsWith : Option (List ℕ) → List ℕ → List ℕ → Type 0
IsWith (Some text) old new = new ≡ old ++ text
IsWith None old new = ⊤

-- a place, as ` 3..4 L1`
abbrev pub place_text : Location → List ℕ
place_text place =
    codes " " ++ decimal place.start ++ codes ".." ++ decimal place.end ++ codes " L" ++ decimal place.line

-- the digits of an integer, and its letters
abbrev pub integer_text : Integer → List ℕ
integer_text integer = decimal integer.value ++ integer_letters integer.signed integer.width

-- a float's text, which is a list of characters, and the letters of its width
abbrev pub float_text : Float → List ℕ
float_text float =
    codes "Float " ++ encode_utf8_all float.text ++ width_letters (codes "lf") (codes "hf") float.width

abbrev pub flag_text : Bool → List ℕ
flag_text true = codes "true"
flag_text false = codes "false"

-- the text of a value of the lexer
abbrev pub lexer_value_text : LexerValue → Option (List ℕ)
lexer_value_text lexer.Hash = Some (codes "Hash")
lexer_value_text lexer.NewLine = Some (codes "NL")
lexer_value_text (lexer.Ident name) = Some (encode_utf8_all name)
lexer_value_text (lexer.Integer integer) = Some (integer_text integer)
lexer_value_text (lexer.Float float) = Some (float_text float)
lexer_value_text (lexer.Punct punct) = None

-- a token of the lexer: its value, its place and its flags
pub record ShowsLexerToken (token : LexerToken) (old new : List ℕ) : Type 0 where
  pub between : List ℕ
  pub value : IsWith (lexer_value_text token.value) old between
  pub rest : new ≡ between ++ place_text token.location ++ codes " leading=" ++ flag_text token.leading_whitespace
      ++ codes " start=" ++ flag_text token.start_of_line

-- the text of a value, or the name of a directive
abbrev pub value_text : TokenValue → Option (List ℕ)
value_text (value.Ident name) = Some (encode_utf8_all name)
value_text (value.Integer integer) = Some (integer_text integer)
value_text (value.Float float) = Some (float_text float)
value_text (value.Punct punct) = None
value_text (value.Version version) = Some (codes "Version")
value_text (value.Extension extension) = Some (codes "Extension")
value_text (value.Pragma pragma) = Some (codes "Pragma")

-- an error's name, after the last text, with the value of an unexpected token in parentheses
pub record ShowsUnexpected (unexpected : TokenValue) (old new : List ℕ) : Type 0 where
  pub between : List ℕ
  pub value : IsWith (value_text unexpected) (old ++ codes "UnexpectedToken(") between
  pub rest : new ≡ between ++ codes ")"

abbrev pub ShowsError : PreprocessorError → List ℕ → List ℕ → Type 0
ShowsError (UnexpectedToken unexpected) old new = ShowsUnexpected unexpected old new
ShowsError error old new = new ≡ old ++ name_of error

-- a word, an error and its place
pub record ShowsFault (word : List ℕ) (fault : PreprocessorError × Location) (old new : List ℕ) : Type 0 where
  pub between : List ℕ
  pub error : ShowsError fault.0 (old ++ word) between
  pub rest : new ≡ between ++ place_text fault.1

-- the text of a value that is a whole item: of a directive it isn't known
abbrev pub item_value_text : TokenValue → Option (List ℕ)
item_value_text (value.Version version) = None
item_value_text (value.Extension extension) = None
item_value_text (value.Pragma pragma) = None
item_value_text ordinary = value_text ordinary

-- a token: its value and its place
pub record ShowsToken (token : Token) (old new : List ℕ) : Type 0 where
  pub between : List ℕ
  pub value : IsWith (item_value_text token.value) old between
  pub rest : new ≡ between ++ place_text token.location

-- an item of the lexer
abbrev pub ShowsLexerItem : Result LexerToken (PreprocessorError × Location) → List ℕ → List ℕ → Type 0
ShowsLexerItem (Ok token) old new = ShowsLexerToken token old new
ShowsLexerItem (Err fault) old new = ShowsFault (codes "Error ") fault old new

-- an item of the preprocessor
abbrev pub ShowsItem : Result Token (PreprocessorError × Location) → List ℕ → List ℕ → Type 0
ShowsItem (Ok token) old new = ShowsToken token old new
ShowsItem (Err fault) old new = ShowsFault (codes "Error ") fault old new

-- what a call answered
abbrev pub ShowsReply : Reply → List ℕ → List ℕ → Type 0
ShowsReply Added old new = new ≡ old ++ codes "Added"
ShowsReply (Refused fault) old new = ShowsFault (codes "Refused ") fault old new
ShowsReply (Given (outcome.Token token)) old new = ShowsToken token old new
ShowsReply (Given (outcome.Fault fault)) old new = ShowsFault (codes "Error ") fault old new
ShowsReply (Given outcome.End) old new = new ≡ old ++ codes "None"
ShowsReply (Given (outcome.Include line)) old new =
    new ≡ old ++ codes "Include" ++ place_text line.word ++ place_text line.rest
ShowsReply Included old new = new ≡ old ++ codes "Included"
ShowsReply TooDeep old new = new ≡ old ++ codes "TooDeep"
