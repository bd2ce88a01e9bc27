-- How a token is written: the tokens of GLSL ES 3.20, section 3.6.
use Rattle.std.specs.Prelude.{ℕ, ℤ, Bool, pos, if◌then◌else◌, List, [], ◌++◌, codes, map}
use Rattle.std.specs.Fmt.{decimal}
use Rattle.std.specs.List.{join_with_byte}
use Rattle.std.specs.Ordering.{int_eq}
use Rattle.pp_lexer.specs.declared.token.Integer.{Integer as IntegerLiteral}
use Rattle.pp_lexer.specs.declared.token.Token.{Token}
use Rattle.pp_lexer.specs.declared.token.TokenValue.{TokenValue}
use Rattle.pp_lexer.specs.Punctuators.{punctuator}
use Rattle.pp_lexer.specs.declared.token.TokenValue.TheVariants.{Ident, Integer, Float, Punct, Version, Extension}
use Rattle.pp_lexer.specs.declared.token.TokenValue.TheVariants.{Pragma}

-- the letters of a width: the first ones for 64 bits, the others for 16, and none for the usual 32
abbrev pub width_letters : List ℕ → List ℕ → ℤ → List ℕ
width_letters long short width =
    if int_eq width (pos 64) then long else if int_eq width (pos 16) then short else []

-- the letters after the digits of an integer: a `u` if it is unsigned, and that of its width
abbrev pub integer_letters : Bool → ℤ → List ℕ
integer_letters signed width = (if signed then [] else codes "u") ++ width_letters (codes "l") (codes "s") width

-- the decimal digits of an integer, and its letters
abbrev pub integer_literal : IntegerLiteral → List ℕ
integer_literal i = decimal i.value ++ integer_letters i.signed i.width

-- the text of a float, and the letters of its width
abbrev pub float_literal : List ℕ → ℤ → List ℕ
float_literal text width = text ++ width_letters (codes "lf") (codes "hf") width

-- the characters of an ordinary token; an item that holds a directive has no spelling of its own
abbrev pub spelling : TokenValue → List ℕ
spelling (Ident name) = name
spelling (Integer i) = integer_literal i
spelling (Float f) = float_literal f.text f.width
spelling (Punct p) = punctuator p
spelling (Version v) = []
spelling (Extension e) = []
spelling (Pragma p) = []

-- the spellings with one space between each two
abbrev pub spelled_text : List TokenValue → List ℕ
spelled_text values = join_with_byte 32 (map spelling values)

-- the values of tokens, without their places
abbrev pub values_of : List Token → List TokenValue
values_of tokens = map (λ t. t.value) tokens
