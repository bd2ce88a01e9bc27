-- What kinds of token there are.
use Rattle.std.specs.Prelude.{Bool, true, false}
use Rattle.pp_lexer.specs.declared.token.TokenValue.{TokenValue}
use Rattle.pp_lexer.specs.declared.token.TokenValue.TheVariants.{Ident, Integer, Float, Punct, Version, Extension}
use Rattle.pp_lexer.specs.declared.token.TokenValue.TheVariants.{Pragma}

-- an ordinary token is an identifier, a literal or a punctuator; the others are directives
abbrev pub is_ordinary : TokenValue → Bool
is_ordinary (Ident text) = true
is_ordinary (Integer integer) = true
is_ordinary (Float float) = true
is_ordinary (Punct punct) = true
is_ordinary (Version version) = false
is_ordinary (Extension extension) = false
is_ordinary (Pragma pragma) = false

-- whether the value holds a text or a list, so that a copy of it takes memory
abbrev pub holds_memory : TokenValue → Bool
holds_memory (Integer integer) = false
holds_memory (Punct punct) = false
holds_memory _ = true
