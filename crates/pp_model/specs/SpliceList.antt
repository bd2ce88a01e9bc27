-- The list of tokens to read, into which macros are spliced (docs/RULES.md, Expansion 1, 4 and 9).
use Rattle.std.specs.Prelude.{ℕ, List, [], ◌∷◌, ◌++◌, map, Option, Some, None, option_map, unwrap_or, slice_get}
use Rattle.std.specs.Prelude.{position}
use Rattle.std.specs.Option.{option_map_or}
use Rattle.pp_lexer.specs.declared.token.Token.{Token}
use Rattle.pp_lexer.specs.declared.token.TokenValue.{TokenValue}
use Rattle.pp_lexer.specs.declared.token.TokenValue.TheVariants.{Ident}
use Rattle.pp_model.specs.Names.{Name, is_same_name}
use Rattle.pp_model.specs.Definitions.{Definition}
use Rattle.pp_model.specs.Painting.{read_in}
use Rattle.pp_model.specs.declared.read.Read.{Read}
use Rattle.pp_model.specs.declared.splice.CallPlace.{CallPlace}
use Rattle.pp_model.specs.declared.splice.Entry.{Entry}
use Rattle.pp_model.specs.declared.splice.Entry.TheVariants.{Plain, End}

-- the list without the end marks at its front
abbrev pub after_marks : List Entry → List Entry
after_marks [] = []
after_marks (End mark ∷ entries) = after_marks entries
after_marks (Plain read ∷ entries) = Plain read ∷ entries

-- the names whose end marks are in the list: these macros are open
abbrev pub open_names : List Entry → List Name
open_names [] = []
open_names (End mark ∷ entries) = mark.name ∷ open_names entries
open_names (Plain read ∷ entries) = open_names entries

-- where the macro of the last mark was called, which is the outermost open macro
abbrev pub outermost_call : List Entry → Option CallPlace
outermost_call [] = None
outermost_call (End mark ∷ entries) = Some (unwrap_or (outermost_call entries) mark.call)
outermost_call (Plain read ∷ entries) = outermost_call entries

-- the line that `__LINE__` gives within it
abbrev pub outermost_line : List Entry → Option ℕ
outermost_line entries = option_map (λ call. call.line) (outermost_call entries)

-- the position of the parameter that the value names
abbrev pub parameter_of : List Name → TokenValue → Option ℕ
parameter_of parameters (Ident name) = position (is_same_name name) parameters
parameter_of parameters _ = None

-- a token of a body of this text, unpainted, or the argument of the parameter that it names, with its paint
abbrev pub replacement : List (List Read) → ℕ → Token → Option ℕ → List Entry → List Entry
replacement arguments text token parameter entries =
    option_map_or (λ k. map Plain (unwrap_or (slice_get arguments k) []) ++ entries) parameter
    (Plain (read_in text token) ∷ entries)

-- the body, which is of this text, with each parameter replaced by its argument, and then the entries
abbrev pub body_before : List Name → List (List Read) → ℕ → List Token → List Entry → List Entry
body_before parameters arguments text [] entries = entries
body_before parameters arguments text (token ∷ body) entries =
    replacement arguments text token (parameter_of parameters token.value)
    (body_before parameters arguments text body entries)

-- the macro's replacement with its end mark before the entries
abbrev pub macro_before : Name → Definition → CallPlace → List (List Read) → List Entry → List Entry
macro_before name definition call arguments entries =
    body_before definition.parameters arguments definition.text definition.body
    (End (record { name = name; call = call }) ∷ entries)
