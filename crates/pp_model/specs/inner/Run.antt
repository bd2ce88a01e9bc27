-- Parts of runs, under names of their own.
use Rattle.std.specs.Prelude.{if◌then◌else◌, List, Result, Ok, Err, Some, ◌+◌}
use Rattle.pp_lexer.specs.Items.{Lexeme}
use Rattle.pp_lexer.specs.declared.token.Token.{Token}
use Rattle.pp_expression.specs.Answers.{◌>>=◌}
use Rattle.pp_model.specs.Places.{Fault}
use Rattle.pp_model.specs.Conversions.{is_newline, conversion}
use Rattle.pp_model.specs.Emitting.{first_before}
use Rattle.pp_model.specs.Names.{Name}
use Rattle.pp_model.specs.Definitions.{object_like, with_change}
use Rattle.pp_model.specs.SourceReader.{SourceReader}

abbrev pub content_from : Lexeme → Result (List Token) Fault → Result (List Token) Fault
content_from (Err fault) later = Err fault
content_from (Ok token) later =
    if is_newline token.value then later else (conversion token >>= λ first. first_before first later)

abbrev pub after_addition : Name → List Token → SourceReader → SourceReader
after_addition name tokens reader =
    let text = reader.contents + 1 in
    record reader {
      definitions = with_change reader.definitions name (Some (object_like text tokens));
      contents = text;
    }
