-- What a caller gets from `next`.
use Rattle.std.specs.Prelude.{Result}
use Rattle.pp_lexer.specs.declared.token.Location.{Location}
use Rattle.pp_lexer.specs.declared.token.PreprocessorError.{PreprocessorError}
use Rattle.pp_lexer.specs.declared.token.Token.{Token}

-- an error with its place
abbrev pub Fault : Type 0
Fault = PreprocessorError × Location

abbrev pub Item : Type 0
Item = Result Token Fault
