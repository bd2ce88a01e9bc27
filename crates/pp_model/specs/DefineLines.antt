-- What a `#define` line says (GLSL ES 3.20, section 3.4, and docs/RULES.md, Directives 5). Faults come in the order of
-- reading.
use Rattle.std.specs.Prelude.{Bool, true, false, not, ◌&&◌, ◌||◌, if◌then◌else◌, List, [], ◌∷◌, ◌++◌, take, drop}
use Rattle.std.specs.Prelude.{Result, Ok, Err, codes}
use Rattle.pp_lexer.specs.declared.rules.Rules.{Rules}
use Rattle.pp_lexer.specs.Lexed.{Seen}
use Rattle.pp_lexer.specs.Items.{Lexeme}
use Rattle.pp_lexer.specs.declared.token.Location.{Location}
use Rattle.pp_lexer.specs.declared.token.PreprocessorError.TheVariants.{UnexpectedEndOfInput, DuplicateParameter}
use Rattle.pp_lexer.specs.declared.token.PreprocessorError.TheVariants.{UnexpectedToken}
use Rattle.pp_lexer.specs.declared.token.TokenValue.TheVariants.{Ident}
use Rattle.pp_model.specs.Places.{Fault, source_text}
use Rattle.pp_model.specs.Names.{Name, is_in, is_same_name}
use Rattle.pp_model.specs.Definitions.{Definition, object_like}
use Rattle.pp_model.specs.Conversions.{opens_parameters, closes_parameters, parts_parameters, refused_token}
use Rattle.pp_model.specs.Lines.{line_tokens, first_name, name_of, ended_line}
use Rattle.pp_expression.specs.Answers.{◌>>=◌}
use Rattle.pp_model.specs.declared.definition.Named.{Named}
use Rattle.pp_model.specs.declared.definition.Placed.{Placed}

-- the parameters of a macro, and the items after their `)`
pub record Parameters : Type 0 where
  pub names : List Name
  pub after : List Seen

abbrev pub new_parameter : List Name → Location → Name → Result (List Name) Fault
new_parameter names location name =
    if is_in name names then Err (DuplicateParameter, location) else Ok (names ++ name ∷ [])

abbrev mutual
  -- after a parameter comes `)`, or a comma and one more
  pub after_parameter : Location → List Name → List Seen → Result Parameters Fault
  after_parameter word names [] = Err (UnexpectedEndOfInput, word)
  after_parameter word names (s ∷ rest) = s.item >>= λ token.
      if closes_parameters token.value then Ok (record { names = names; after = rest })
      else if parts_parameters token.value then after_comma word names rest
      else Err (refused_token token)

  -- after a comma comes a parameter
  pub after_comma : Location → List Name → List Seen → Result Parameters Fault
  after_comma word names [] = Err (UnexpectedEndOfInput, word)
  after_comma word names (s ∷ rest) = s.item >>= λ token.
      name_of token >>= new_parameter names token.location >>= λ more. after_parameter word more rest

-- after the `(` comes `)`, or a first parameter
abbrev pub parameters : Location → List Seen → Result Parameters Fault
parameters word [] = Err (UnexpectedEndOfInput, word)
parameters word (s ∷ rest) = s.item >>= λ token.
    if closes_parameters token.value then Ok (record { names = []; after = rest })
    else (name_of token >>= new_parameter [] token.location >>= λ names. after_parameter word names rest)

abbrev pub is_attached_paren : Lexeme → Bool
is_attached_paren (Ok token) = opens_parameters token.value && not token.leading_whitespace
is_attached_paren (Err fault) = false

-- a `(` comes directly after the name
abbrev pub has_parameters : List Seen → Bool
has_parameters [] = false
has_parameters (s ∷ rest) = is_attached_paren s.item

-- the definition on the line after the name, as that of a line of the source, or its first fault
abbrev pub definition_at : Location → List Seen → Result Definition Fault
definition_at word rest =
    if has_parameters rest
    then (parameters word (drop 1 rest) >>= λ list.
    line_tokens list.after >>= λ body.
    Ok (record { function_like = true; parameters = list.names; body = body; text = source_text }))
    else (line_tokens rest >>= λ body. Ok (object_like source_text body))

-- the names that the language defines itself, and those that begin as its own do
abbrev pub own_names : List Name
own_names = codes "defined" ∷ codes "__LINE__" ∷ codes "__FILE__" ∷ codes "__VERSION__" ∷ []

abbrev pub is_own_name : Name → Bool
is_own_name name = is_in name own_names || is_same_name (take 3 name) (codes "GL_")

-- by GLSL's rules no `#define` and no `#undef` takes such a name
abbrev pub free_name : Rules → Placed → Result Placed Fault
free_name rules first =
    if rules.keeps_own_names && is_own_name first.name then Err (UnexpectedToken (Ident first.name), first.location)
    else Ok first

-- what the line defines, or its first fault
abbrev pub defined_on : Rules → Location → List Seen → Result Named Fault
defined_on rules word rest =
    (first_name word rest >>= free_name rules) >>= λ first.
    definition_at word (drop 1 rest) >>= λ definition.
    Ok (record { name = first.name; location = first.location; definition = definition })

-- the name whose definition an `#undef` line takes away, or its first fault
abbrev pub undefined_on : Rules → Location → List Seen → Result Name Fault
undefined_on rules word rest =
    (first_name word rest >>= free_name rules) >>= λ first. ended_line word (drop 1 rest) >>= λ end. Ok first.name
