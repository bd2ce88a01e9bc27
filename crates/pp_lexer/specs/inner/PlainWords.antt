-- Words, spaces and newlines at the front of a plain text, by their bytes.
use Rattle.std.specs.Prelude.{◌≡◌, ℕ, ◌+◌, ◌<◌, ◌≤◌, Bool, true, false, ◌||◌, ◌&&◌, ◌==◌, List, [], ◌∷◌, ◌++◌, length}
use Rattle.std.specs.Prelude.{take, drop, slice_index, is_some, if◌then◌else◌, Option, Some, None, Ok}
use Rattle.std.specs.Char.{is_ascii_alphabetic, is_ascii_alphanumeric}
use Rattle.std.specs.Str.{IsAscii, IsCharBoundary}
use Rattle.pp_lexer.specs.declared.token.Punct.{Punct as Punctuator}
use Rattle.pp_lexer.specs.declared.token.Punct.TheVariants.{AddAssign, SubAssign, MulAssign, DivAssign, ModAssign}
use Rattle.pp_lexer.specs.declared.token.Punct.TheVariants.{AndAssign, XorAssign, OrAssign, Increment, Decrement}
use Rattle.pp_lexer.specs.declared.token.Punct.TheVariants.{LogicalAnd, LogicalOr, LogicalXor, LessEqual, GreaterEqual}
use Rattle.pp_lexer.specs.declared.token.Punct.TheVariants.{EqualEqual, NotEqual, LeftShift, RightShift, LeftBrace}
use Rattle.pp_lexer.specs.declared.token.Punct.TheVariants.{RightBrace, LeftParen, RightParen, LeftBracket}
use Rattle.pp_lexer.specs.declared.token.Punct.TheVariants.{RightBracket, LeftAngle, RightAngle, Semicolon, Comma}
use Rattle.pp_lexer.specs.declared.token.Punct.TheVariants.{Colon, Dot, Equal, Bang, Minus, Tilde, Plus, Star, Slash}
use Rattle.pp_lexer.specs.declared.token.Punct.TheVariants.{Percent, Pipe, Caret, Ampersand, Question}
use Rattle.pp_lexer.specs.declared.lexer.item.TokenValue.{TokenValue}
use Rattle.pp_lexer.specs.declared.lexer.plain.Word.{Word}
use Rattle.pp_lexer.specs.declared.rules.Rules.{Rules}
use Rattle.pp_lexer.specs.declared.lexer.plain.comment.Comment.{Comment}
use Rattle.pp_lexer.specs.inner.Fronts.{spots_from, run}
use Rattle.pp_lexer.specs.Items.{is_newline}
use Rattle.pp_lexer.specs.PlainItems.{value_of}
use Rattle.pp_lexer.specs.Segments.{item}
use Rattle.pp_lexer.specs.Numbers.{is_decimal, is_point, is_sign}
use Rattle.pp_lexer.specs.Punctuators.{punct_of}
use Rattle.pp_lexer.specs.Reading.{letters}
use Rattle.pp_lexer.specs.Words.{is_blank, word_at}

-- a blank that is no comment
abbrev pub is_space : ℕ → Bool
is_space c = (c == 32) || ((c == 9) || ((c == 11) || (c == 12)))

-- an ASCII character with which an identifier begins, or goes on
abbrev pub begins : ℕ → Bool
begins c = is_ascii_alphabetic c || (c == 95)

abbrev pub continues : ℕ → Bool
continues c = is_ascii_alphanumeric c || (c == 95)

-- an ASCII character with which a number may go on, or its suffix begin, after a digit or a point
abbrev pub continues_number : ℕ → Bool
continues_number c = continues c || is_point c

-- a comment begins with these two
abbrev pub begins_comment : ℕ → ℕ → Bool
begins_comment c d = (c == 47) && ((d == 47) || (d == 42))

-- the character makes a longer punctuator of this one, or a number of a point, or a comment of a slash
abbrev pub continues_punct : ℕ → ℕ → Bool
continues_punct c d = is_some (punct_of (c ∷ d ∷ [])) || ((is_point c && is_decimal d) || begins_comment c d)

-- the character makes a punctuator of three of these two
abbrev pub continues_pair : ℕ → ℕ → ℕ → Bool
continues_pair c d e = is_some (punct_of (c ∷ d ∷ e ∷ []))

-- the punctuator of one character
abbrev pub single : ℕ → Option Punctuator
single c =
    if c == 123 then Some LeftBrace else if c == 125 then Some RightBrace
    else if c == 40 then Some LeftParen else if c == 41 then Some RightParen
    else if c == 91 then Some LeftBracket else if c == 93 then Some RightBracket
    else if c == 60 then Some LeftAngle else if c == 62 then Some RightAngle
    else if c == 59 then Some Semicolon else if c == 44 then Some Comma
    else if c == 58 then Some Colon else if c == 46 then Some Dot
    else if c == 61 then Some Equal else if c == 33 then Some Bang
    else if c == 45 then Some Minus else if c == 126 then Some Tilde
    else if c == 43 then Some Plus else if c == 42 then Some Star
    else if c == 47 then Some Slash else if c == 37 then Some Percent
    else if c == 124 then Some Pipe else if c == 94 then Some Caret
    else if c == 38 then Some Ampersand else if c == 63 then Some Question
    else None

-- the character is a punctuator, and begins no longer one, no number and no comment
abbrev pub is_lone : ℕ → Bool
is_lone c =
    if c == 40 then true else if c == 41 then true
    else if c == 44 then true else if c == 58 then true
    else if c == 59 then true else if c == 63 then true
    else if c == 91 then true else if c == 93 then true
    else if c == 123 then true else if c == 125 then true
    else if c == 126 then true else false

-- the punctuator of a character and an equals sign
abbrev pub before_equals : ℕ → Option Punctuator
before_equals c =
    if c == 43 then Some AddAssign else if c == 45 then Some SubAssign
    else if c == 42 then Some MulAssign else if c == 47 then Some DivAssign
    else if c == 37 then Some ModAssign else if c == 38 then Some AndAssign
    else if c == 94 then Some XorAssign else if c == 124 then Some OrAssign
    else if c == 60 then Some LessEqual else if c == 62 then Some GreaterEqual
    else if c == 61 then Some EqualEqual else if c == 33 then Some NotEqual
    else None

-- the punctuator of a character twice, if it is no equals sign
abbrev pub doubled : ℕ → Option Punctuator
doubled c =
    if c == 43 then Some Increment else if c == 45 then Some Decrement
    else if c == 38 then Some LogicalAnd else if c == 124 then Some LogicalOr
    else if c == 94 then Some LogicalXor
    else if c == 60 then Some LeftShift else if c == 62 then Some RightShift
    else None

-- the text ends at this place, or goes on with an ASCII byte that is no backslash and doesn't pass
abbrev pub Stops : (ℕ → Bool) → List ℕ → ℕ → Type 0
Stops P text at =
    at < length text
    → (slice_index text at < 128) × ((slice_index text at == 92) ≡ false) × (P (slice_index text at) ≡ false)

-- one of the two letters is at this place, and the number ends after it
pub record IsSuffixed (small capital : ℕ) (text : List ℕ) (at : ℕ) : Type 0 where
  pub within : at < length text
  pub letter : ((slice_index text at == small) || (slice_index text at == capital)) ≡ true
  pub stops : Stops continues_number text (at + 1)

-- the text begins with `0x` or `0X`, and goes on
pub record BeginsHex (text : List ℕ) : Type 0 where
  pub more : 2 < length text
  pub zero : slice_index text 0 ≡ 48
  pub letter : ((slice_index text 1 == 120) || (slice_index text 1 == 88)) ≡ true

-- the text begins with a sign
pub record BeginsSign (text : List ℕ) : Type 0 where
  pub some : 0 < length text
  pub sign : is_sign (slice_index text 0) ≡ true

-- the first `n` bytes are characters of one line, wherever in a source the text is
abbrev pub IsFront : List ℕ → ℕ → Type 0
IsFront text n =
    (line at : ℕ)
    → spots_from line at text ≡ run line at (take n text) ++ spots_from line (at + n) (drop n text)

abbrev pub is_newline_value : TokenValue → Bool
is_newline_value value = is_newline (item (Ok value))

-- the text begins with a word of this value by any rules, which takes this many bytes, wherever in a source the text is
pub record IsPlainWord (text : List ℕ) (value : TokenValue) (taken : ℕ) : Type 0 where
  pub some : 0 < taken
  pub within : taken ≤ length text
  pub cut : IsCharBoundary text taken
  pub ascii : IsAscii (take taken text)
  pub front : IsFront text taken
  pub no_blank : is_blank (slice_index text 0) ≡ false
  pub no_newline : is_newline_value value ≡ false
  pub word : (rules : Rules) (line at : ℕ)
      → word_at rules (letters (spots_from line at text)) ≡ record { value = Ok value; taken = taken }

abbrev pub IsFirstWord : List ℕ → Word → Type 0
IsFirstWord text w = IsPlainWord text (value_of w.form (take w.taken text)) w.taken

-- the text begins with a newline, which takes this many bytes, wherever in a source the text is
pub record IsPlainNewline (text : List ℕ) (taken : ℕ) : Type 0 where
  pub some : 0 < taken
  pub within : taken ≤ length text
  pub cut : IsCharBoundary text taken
  pub front : (line at : ℕ)
      → spots_from line at text
      ≡ record { c = 10; line = line; begin = at; end = at + 1 }
      ∷ spots_from (line + 1) (at + taken) (drop taken text)

-- The text begins with a comment, which takes so many bytes and has so many newlines, wherever in a source the text is.
pub record IsPlainComment (text : List ℕ) (comment : Comment) : Type 0 where
  pub within : comment.taken ≤ length text
  pub cut : IsCharBoundary text comment.taken
  pub lines : comment.newlines ≤ comment.taken
  pub front : (line at : ℕ)
      → spots_from line at text
      ≡ record { c = 13; line = line; begin = at; end = at + 1 }
      ∷ spots_from (line + comment.newlines) (at + comment.taken) (drop comment.taken text)
