-- Tokens that give themselves when they are expanded.
use Rattle.std.specs.Prelude.{Bool, true, false, not, ◌&&◌, List, is_none}
use Rattle.pp_lexer.specs.declared.token.TokenValue.{TokenValue}
use Rattle.pp_lexer.specs.declared.token.TokenValue.TheVariants.{Ident}
use Rattle.pp_model.specs.Names.{Name, is_same_name, is_identifier, line_name}
use Rattle.pp_model.specs.Painting.{is_one_of}
use Rattle.pp_model.specs.declared.read.Read.{Read}
use Rattle.pp_macros.specs.inner.Defined.{Defined, meaning_of}

-- a value that gives itself if no macro is open and it isn't painted: it isn't `__LINE__` or a name that is defined
abbrev pub gives_itself : List Defined → TokenValue → Bool
gives_itself definitions (Ident name) = not (is_same_name name line_name) && is_none (meaning_of definitions name)
gives_itself definitions _ = true

-- a value, painted or not, that gives itself even if macros with the hidden names are open around it
abbrev pub is_plain_value : List Defined → List Name → Bool → TokenValue → Bool
is_plain_value definitions hidden true value = not (is_identifier line_name value)
is_plain_value definitions hidden false value = gives_itself definitions value && not (is_one_of hidden value)

abbrev pub is_plain : List Defined → List Name → Read → Bool
is_plain definitions hidden read = is_plain_value definitions hidden read.painted read.token.value
