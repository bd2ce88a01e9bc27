-- Names of macros and parameters, as the lists of their characters.
use Rattle.std.specs.Prelude.{ℕ, Bool, false, List, codes, nat_eq}
use Rattle.std.specs.Cmp.Lexicographic.{pointwise}
use Rattle.std.specs.List.{list_any}
use Rattle.pp_lexer.specs.declared.token.TokenValue.{TokenValue}
use Rattle.pp_lexer.specs.declared.token.TokenValue.TheVariants.{Ident}

abbrev pub Name : Type 0
Name = List ℕ

-- two names have the same characters
abbrev pub is_same_name : Name → Name → Bool
is_same_name = pointwise nat_eq

abbrev pub is_in : Name → List Name → Bool
is_in name names = list_any (is_same_name name) names

-- whether the value is the identifier of this name
abbrev pub is_identifier : Name → TokenValue → Bool
is_identifier name (Ident text) = is_same_name text name
is_identifier name _ = false

-- the one predefined name that this preprocessor knows (GLSL ES 3.20, section 3.4)
abbrev pub line_name : Name
line_name = codes "__LINE__"

-- the operator of `#if`, `#elif` and `#line` lines that asks whether a name is defined
abbrev pub defined_name : Name
defined_name = codes "defined"
