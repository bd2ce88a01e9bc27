-- The parameters of a macro, as the code reads them.
use Rattle.std.specs.Prelude.{◌≡◌, false, true, Bool, if◌then◌else◌, List, [], ◌∷◌, drop, Option, Some, None, Result}
use Rattle.std.specs.Prelude.{Ok, Err, ⊤}
use Rattle.pp_lexer.specs.Lexed.{Seen}
use Rattle.pp_lexer.specs.declared.lexer.item.Token.{Token as LexerToken}
use Rattle.pp_lexer.specs.declared.token.Location.{Location}
use Rattle.pp_model.specs.Places.{Fault, source_text}
use Rattle.pp_model.specs.Conversions.{closes_parameters, parts_parameters, identifier_of, refused_token}
use Rattle.pp_model.specs.DefineLines.{parameters}
use Rattle.pp_model.specs.inner.DefineLines.{parameter_here}
use Rattle.pp_model.specs.Lines.{first_token, line_tokens}
use Rattle.pp_expression.specs.Answers.{◌>>=◌}
use Rattle.pp_model.specs.Definitions.{Definition}
use Rattle.pp_model.specs.Names.{Name}
use Rattle.pp_macros.specs.inner.LineReading.{HasGoneOn, shown_on}
use Rattle.pp_macros.specs.inner.SourceLexed.{SourceLexed}
use Rattle.pp_macros.specs.declared.halt.Halt.{Halt}
use Rattle.pp_macros.specs.declared.halt.Halt.TheVariants as halt

-- whether the parameters end at the token, which is the closing parenthesis or a comma
abbrev pub parameter_end : LexerToken → Result Bool Fault
parameter_end token =
    if closes_parameters token.value then Ok true
    else if parts_parameters token.value then Ok false
    else Err (refused_token token)

abbrev pub ends_parameters : Location → List Seen → Result Bool Fault
ends_parameters word rest = first_token word rest >>= parameter_end

-- the parameters with the next one
abbrev pub one_parameter : Location → List Name → List Seen → Result (List Name) Fault
one_parameter word names rest =
    first_token word rest >>= λ token. parameter_here names token (identifier_of token.value)

abbrev pub some_names : List Name → Result (Option (List Name)) Fault
some_names names = Ok (Some names)

abbrev pub opening_parameter : LexerToken → Result (Option (List Name)) Fault
opening_parameter token =
    if closes_parameters token.value then Ok None
    else (parameter_here [] token (identifier_of token.value) >>= some_names)

-- the first parameter, or nothing if there is none
abbrev pub first_parameter : Location → List Seen → Result (Option (List Name)) Fault
first_parameter word rest = first_token word rest >>= opening_parameter

abbrev pub alone : Option Name → Option (List Name)
alone None = None
alone (Some name) = Some (name ∷ [])

-- after a value or a fault the lexer has no more items left than before; if memory runs out, this says nothing
abbrev pub GoesOnInLine : {A : Type 0} → Result A Halt → SourceLexed → SourceLexed → Type 0
GoesOnInLine (Ok value) old new = HasGoneOn old new
GoesOnInLine (Err (halt.Fault fault)) old new = HasGoneOn old new
GoesOnInLine (Err halt.OutOfMemory) old new = ⊤

-- the definition of a function-like macro, read after its `(`
abbrev pub function_at : Location → List Seen → Result Definition Fault
function_at word rest = parameters word rest >>= λ list. line_tokens list.after >>= λ body.
    Ok (record { function_like = true; parameters = list.names; body = body; text = source_text })

-- A fault among the parameters takes the items of the line that show it. After a value those that show one of the
-- definition end where those do that show one of what is left of the line.
abbrev pub ShowsOnLine : {A : Type 0} → Location → Result A Halt → SourceLexed → SourceLexed → Type 0
ShowsOnLine word (Ok value) old new =
    drop (shown_on (function_at word) old.rest) old.rest ≡ drop (shown_on line_tokens new.rest) new.rest
ShowsOnLine word (Err (halt.Fault fault)) old new = new.rest ≡ drop (shown_on (function_at word) old.rest) old.rest
ShowsOnLine word (Err halt.OutOfMemory) old new = ⊤
