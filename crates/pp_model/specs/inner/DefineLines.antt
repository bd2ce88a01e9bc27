-- Parts of a `#define` line, under names of their own.
use Rattle.std.specs.Prelude.{List, Option, Some, None, Result, Err}
use Rattle.pp_lexer.specs.declared.lexer.item.Token.{Token as LexerToken}
use Rattle.pp_model.specs.Places.{Fault}
use Rattle.pp_model.specs.Names.{Name}
use Rattle.pp_model.specs.Conversions.{refused_token}
use Rattle.pp_model.specs.DefineLines.{new_parameter}

abbrev pub parameter_here : List Name → LexerToken → Option Name → Result (List Name) Fault
parameter_here names token (Some name) = new_parameter names token.location name
parameter_here names token None = Err (refused_token token)
