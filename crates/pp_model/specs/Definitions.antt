-- Macros and the map of their names (GLSL ES 3.20, section 3.4, and docs/RULES.md, Directives 5 and 6).
use Rattle.std.specs.Prelude.{◌≡◌, Bool, false, List, [], Option, if◌then◌else◌, ℕ}
use Rattle.pp_lexer.specs.declared.token.Token.{Token}
use Rattle.pp_lexer.specs.Spelling.{values_of}
use Rattle.pp_model.specs.Names.{Name, is_same_name}

-- a macro: whether it is function-like, its parameters, each at its position, the tokens of its body, and the number of
-- the text that they are in
pub record Definition : Type 0 where
  pub function_like : Bool
  pub parameters : List Name
  pub body : List Token
  pub text : ℕ

-- which names are defined, and as what
abbrev pub Definitions : Type 0
Definitions = Name → Option Definition

-- the name has this definition, or none, and all other names keep theirs
abbrev pub with_change : Definitions → Name → Option Definition → Definitions
with_change definitions name change = λ other. if is_same_name other name then change else definitions other

-- the object-like macro with this body, of this text
abbrev pub object_like : ℕ → List Token → Definition
object_like text body = record { function_like = false; parameters = []; body = body; text = text }

-- The two say the same: they have the same kind, the same parameters in the same order, and bodies with the same
-- values. The places of the body's tokens, and their texts, don't count.
pub record IsSameDefinition (old new : Definition) : Type 0 where
  pub kind : old.function_like ≡ new.function_like
  pub parameters : old.parameters ≡ new.parameters
  pub body : values_of old.body ≡ values_of new.body
