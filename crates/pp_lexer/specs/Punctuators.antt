-- The punctuators: GLSL ES 3.20, sections 3.6 and 5.1. With them the `#` of a directive, section 3.4.
use Rattle.std.specs.Prelude.{ℕ, Bool, ◌||◌, nat_eq, List, [], ◌∷◌, Option, Some, None, Ok, Err, take, is_some}
use Rattle.std.specs.Prelude.{option_map, unwrap_or, if◌then◌else◌, codes}
use Rattle.std.specs.List.{find}
use lib.Pointwise.{pointwise}
use Rattle.pp_lexer.specs.contracts.token.PunctPartialEq.TheImpl.{eq-value as punct_eq}
use Rattle.pp_lexer.specs.declared.token.Punct.{Punct as Punctuator}
use Rattle.pp_lexer.specs.declared.token.Punct.TheVariants.{AddAssign, SubAssign, MulAssign, DivAssign, ModAssign}
use Rattle.pp_lexer.specs.declared.token.Punct.TheVariants.{LeftShiftAssign, RightShiftAssign, AndAssign, XorAssign}
use Rattle.pp_lexer.specs.declared.token.Punct.TheVariants.{OrAssign, Increment, Decrement, LogicalAnd, LogicalOr}
use Rattle.pp_lexer.specs.declared.token.Punct.TheVariants.{LogicalXor, LessEqual, GreaterEqual, EqualEqual, NotEqual}
use Rattle.pp_lexer.specs.declared.token.Punct.TheVariants.{LeftShift, RightShift, LeftBrace, RightBrace, LeftParen}
use Rattle.pp_lexer.specs.declared.token.Punct.TheVariants.{RightParen, LeftBracket, RightBracket, LeftAngle}
use Rattle.pp_lexer.specs.declared.token.Punct.TheVariants.{RightAngle, Semicolon, Comma, Colon, Dot, Equal, Bang}
use Rattle.pp_lexer.specs.declared.token.Punct.TheVariants.{Minus, Tilde, Plus, Star, Slash, Percent, Pipe, Caret}
use Rattle.pp_lexer.specs.declared.token.Punct.TheVariants.{Ampersand, Question}
use Rattle.pp_lexer.specs.declared.token.PreprocessorError.TheVariants.{UnexpectedCharacter}
use Rattle.pp_lexer.specs.declared.lexer.item.TokenValue.{TokenValue}
use Rattle.pp_lexer.specs.declared.lexer.item.TokenValue.TheVariants.{Hash, Punct}
use Rattle.pp_lexer.specs.declared.rules.Rules.{Rules}
use Rattle.pp_lexer.specs.Longest.{longest}
use Rattle.pp_lexer.specs.Outcome.{Outcome}

-- the punctuators, each after its characters
abbrev pub punctuators : List (List ℕ × Punctuator)
punctuators =
    (codes "+=", AddAssign) ∷ (codes "-=", SubAssign) ∷ (codes "*=", MulAssign) ∷ (codes "/=", DivAssign) ∷
    (codes "%=", ModAssign) ∷ (codes "<<=", LeftShiftAssign) ∷ (codes ">>=", RightShiftAssign) ∷
    (codes "&=", AndAssign) ∷ (codes "^=", XorAssign) ∷ (codes "|=", OrAssign) ∷ (codes "++", Increment) ∷
    (codes "--", Decrement) ∷ (codes "&&", LogicalAnd) ∷ (codes "||", LogicalOr) ∷ (codes "^^", LogicalXor) ∷
    (codes "<=", LessEqual) ∷ (codes ">=", GreaterEqual) ∷ (codes "==", EqualEqual) ∷ (codes "!=", NotEqual) ∷
    (codes "<<", LeftShift) ∷ (codes ">>", RightShift) ∷ (codes "{", LeftBrace) ∷ (codes "}", RightBrace) ∷
    (codes "(", LeftParen) ∷ (codes ")", RightParen) ∷ (codes "[", LeftBracket) ∷ (codes "]", RightBracket) ∷
    (codes "<", LeftAngle) ∷ (codes ">", RightAngle) ∷ (codes ";", Semicolon) ∷
    (codes ",", Comma) ∷ (codes ":", Colon) ∷ (codes ".", Dot) ∷ (codes "=", Equal) ∷ (codes "!", Bang) ∷
    (codes "-", Minus) ∷ (codes "~", Tilde) ∷ (codes "+", Plus) ∷ (codes "*", Star) ∷ (codes "/", Slash) ∷
    (codes "%", Percent) ∷ (codes "|", Pipe) ∷ (codes "^", Caret) ∷ (codes "&", Ampersand) ∷ (codes "?", Question) ∷ []

-- the characters of a punctuator
abbrev pub punctuator : Punctuator → List ℕ
punctuator p = unwrap_or (option_map (λ e. e.0) (find (λ e. punct_eq.it e.1 p) punctuators)) []

-- the punctuator with this spelling
unfoldable pub punct_of : List ℕ → Option Punctuator
punct_of w = option_map (λ e. e.1) (find (λ e. pointwise nat_eq e.0 w) punctuators)

unfoldable pub is_punctuator : List ℕ → Bool
is_punctuator w = is_some (punct_of w)

abbrev pub is_hash : List ℕ → Bool
is_hash w = pointwise nat_eq (codes "#") w

unfoldable pub is_punctuation : List ℕ → Bool
is_punctuation w = is_hash w || is_punctuator w

-- the value of a punctuator or of a `#`
abbrev pub punctuation_value : List ℕ → Option TokenValue
punctuation_value w = if is_hash w then Some Hash else option_map Punct (punct_of w)

-- how many characters a bad one takes: itself alone, or up to two more
abbrev pub bad_length : Rules → ℕ
bad_length rules = if rules.takes_one_bad_character then 1 else 3

-- a punctuator or a `#` is a token of `n` characters; if there is none, the character is a bad one
abbrev pub punctuation_outcome : Rules → ℕ → Option TokenValue → Outcome
punctuation_outcome rules n None = record { value = Err UnexpectedCharacter; taken = bad_length rules }
punctuation_outcome rules n (Some v) = record { value = Ok v; taken = n }

-- what begins here, if neither an identifier nor a number does: the longest punctuator or `#`, or a bad character
unfoldable pub punctuation_at : Rules → List ℕ → Outcome
punctuation_at rules cs =
    punctuation_outcome rules (longest is_punctuation cs) (punctuation_value (take (longest is_punctuation cs) cs))
