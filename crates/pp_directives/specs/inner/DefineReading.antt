-- How the definition of a macro begins after its name.
use Rattle.std.specs.Prelude.{Bool, false, Option, Some, None, Ok}
use Rattle.pp_lexer.specs.declared.lexer.item.Token.{Token as LexerToken}
use Rattle.pp_model.specs.DefineLines.{is_attached_paren}

-- whether the token after the name is a `(` directly after it, which begins the list of parameters
abbrev pub opens_list : Option LexerToken → Bool
opens_list None = false
opens_list (Some token) = is_attached_paren (Ok token)
