-- What kinds of token the Lexer gives.
use Rattle.std.specs.Prelude.{Bool, true, false}
use Rattle.pp_lexer.specs.declared.lexer.item.TokenValue.{TokenValue}
use Rattle.pp_lexer.specs.declared.lexer.item.TokenValue.TheVariants.{Ident, Float}

-- whether the value holds a text, so that a copy of it takes memory
abbrev pub holds_memory : TokenValue → Bool
holds_memory (Ident text) = true
holds_memory (Float float) = true
holds_memory _ = false
