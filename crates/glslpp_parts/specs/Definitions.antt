-- How the definitions before a source are checked and added.
use Rattle.std.specs.Prelude.{◌≡◌, ℕ, Bool, ◌-◌, ◌^◌, ◌<◌, ◌||◌, ◌&&◌, not, false, List, [], ◌∷◌, length, Ok, ⊤, codes}
use Rattle.std.specs.Prelude.{◌==◌, nat_eq}
use Rattle.std.specs.Cmp.Lexicographic.{pointwise}
use Rattle.std.specs.List.{list_any}
use Rattle.std.specs.Str.{chars}
use Rattle.pp_lexer.specs.Lines.{is_line_break}
use Rattle.pp_lexer.specs.declared.rules.Rules.{Rules}
use Rattle.pp_lexer.specs.declared.token.TokenValue.TheVariants.{Ident}
use Rattle.pp_rs.specs.Adding.{IsAdded}
use Rattle.pp_rs.specs.Kept.{Preprocessing}
use Rattle.glslpp_parts.specs.declared.changes.Change.{Change}
use Rattle.glslpp_parts.specs.declared.changes.Change.TheVariants.{Define, DefineCall, Undefine}
use Rattle.glslpp_parts.specs.declared.failure.Failure.{Failure}
use Rattle.glslpp_parts.specs.declared.failure.Failure.TheVariants.{Told, OutOfMemory}
use Rattle.glslpp_parts.specs.Changes.{Definition}
use Rattle.glslpp_parts.specs.Reading.{IsReadAs}
use Rattle.glslpp_parts.specs.Texts.{Texts, with_content}

-- a text that the lexer reads as one name, which is the text itself; names are the same by all rules
pub record IsName (text : List ℕ) : Type 0 where
  pub short : length text < 2 ^ 32 - 1
  pub read : (rules : Rules) → IsReadAs rules (Ident (chars text)) text

-- a name whose meaning no definition may change: GLSL ES 3.20, section 3.4
abbrev pub is_builtin : List ℕ → Bool
is_builtin text = pointwise nat_eq text (codes "__LINE__") || pointwise nat_eq text (codes "defined")

-- a name that a definition may have
abbrev pub IsFreeName : List ℕ → Type 0
IsFreeName text = (is_builtin text ≡ false) × IsName text

-- the content has no line break
abbrev pub IsOneLine : List ℕ → Type 0
IsOneLine content = list_any is_line_break content ≡ false

-- a `-D` of a free name with a content without line breaks, or a `-U` of a free name
abbrev pub IsDefinable : Change → Type 0
IsDefinable (Define name content) = IsFreeName name.now × IsOneLine content.now
IsDefinable (DefineCall name parameters content) =
    IsFreeName name.now × (IsOneLine parameters.now × IsOneLine content.now)
IsDefinable (Undefine name) = IsFreeName name.now

-- a name that can stand in the quotation marks of an `#include`
abbrev pub can_be_quoted : List ℕ → Bool
can_be_quoted name =
    not (length name == 0) && not (list_any is_line_break name) && not (list_any (λ byte. nat_eq byte 34) name)

-- the failure isn't that memory ran out
abbrev pub IsTold : Failure → Type 0
IsTold (Told text) = ⊤
IsTold OutOfMemory = ⊥

-- a definition is added as `add_define` does it, and its content to the texts
pub record IsWithDefinition (d : Definition) (texts : Texts) (old : Preprocessing)
    (texts' : Texts) (new : Preprocessing) : Type 0 where
  pub added : IsAdded old d.0.now d.1.now (Ok tt) new
  pub taken_in : texts' ≡ with_content texts d.1.now

-- the definitions are added one after another
abbrev pub AreAdded : List Definition → Texts → Preprocessing → Texts → Preprocessing → Type 0
AreAdded [] texts old texts' new = (texts' ≡ texts) × (new ≡ old)
AreAdded (d ∷ ds) texts old texts' new =
    (texts₁ : Texts) × ((items₁ : Preprocessing)
    × (IsWithDefinition d texts old texts₁ items₁ × AreAdded ds texts₁ items₁ texts' new))
