-- Which version a shader asks for (GLSL ES 3.20, section 3.4), and what a compiler for GLSL ES 3.00 says of it.
use Rattle.std.specs.Prelude.{◌≡◌, ℕ, nat_le, if◌then◌else◌, List, [], ◌∷◌, codes, Option, Some, None}
use Rattle.std.specs.Option.{option_or}
use Rattle.pp_lexer.specs.Entry.{Entry, Leaf, integer}
use Rattle.pp_lexer.specs.declared.token.Token.{Token}
use Rattle.pp_lexer.specs.declared.token.TokenValue.{TokenValue}
use Rattle.pp_lexer.specs.declared.token.TokenValue.TheVariants.{Version}
use Rattle.uses.specs.Sources.{BeginsWith, GivesAll}

abbrev pub integer_value : Leaf → Option ℕ
integer_value (integer i) = Some i.value
integer_value _ = None

-- the value of the first token, if it is an integer
abbrev pub first_integer : List Entry → Option ℕ
first_integer [] = None
first_integer (e ∷ es) = integer_value e.leaf

-- the number of a `#version`
abbrev pub version_number : TokenValue → Option ℕ
version_number (Version v) = first_integer v.tokens
version_number _ = None

-- the number of the first `#version` that has one
abbrev pub first_version_number : List Token → Option ℕ
first_version_number [] = None
first_version_number (t ∷ ts) = option_or (version_number t.value) (first_version_number ts)

-- A source asks for the number of the first `#version` that its run gives, whatever comes after it. It asks for none if
-- its run gives none up to the end.
pub data AsksFor (source : List ℕ) : Option ℕ → Type 0 where
  number : (tokens : List Token) (n : ℕ)
      → BeginsWith source tokens
      → first_version_number tokens ≡ Some n
      → AsksFor source (Some n)
  none : (tokens : List Token)
      → GivesAll source tokens
      → first_version_number tokens ≡ None
      → AsksFor source None

-- what the compiler says
abbrev pub verdict : Option ℕ → List ℕ
verdict None = codes "none is asked for"
verdict (Some n) = if nat_le n 300 then codes "supported" else codes "too new"
