-- The names that were ever defined, as the preprocessor keeps them: by number, each with its definition if it has one.
use Rattle.std.specs.Prelude.{◌≡◌, ℕ, ◌+◌, ◌≤◌, ◌++◌, List, [], ◌∷◌, length, map, Option, Some, None, IfSome}
use Rattle.std.specs.Prelude.{option_map, position, ⊤}
use Rattle.std.specs.declared.rc.Rc.{Rc}
use Rattle.pp_lexer.specs.declared.token.TokenValue.{TokenValue}
use Rattle.pp_lexer.specs.declared.token.TokenValue.TheVariants.{Ident}
use Rattle.pp_model.specs.Names.{Name, is_same_name}
use Rattle.pp_model.specs.Definitions.{Definition, Definitions, with_change}
use Rattle.pp_model.specs.inner.Definitions.{nothing_defined}

-- a name with a number
pub record Numbered : Type 0 where
  pub name : Name
  pub number : ℕ

-- each of these names has its number among the names
abbrev pub AreNumbered : List Name → List Numbered → Type 0
AreNumbered names [] = ⊤
AreNumbered names (n ∷ noted) = (position (is_same_name n.name) names ≡ Some n.number) × AreNumbered names noted

-- the number of the name that a value is, if it is one among these
abbrev pub number_in : List Name → TokenValue → Option ℕ
number_in names (Ident name) = position (is_same_name name) names
number_in names _ = None

-- a macro: a name with its number, the definition, and the names in its body for which a number is noted
pub record Macro : Type 0 where
  pub name : Name
  pub number : ℕ
  pub definition : Definition
  pub noted : List Numbered

-- its name and the names in its body, with their numbers
abbrev pub numbered_by : Macro → List Numbered
numbered_by m = record { name = m.name; number = m.number } ∷ m.noted

-- a name that has a number, and its definition if it is defined
pub record Defined : Type 0 where
  pub name : Name
  pub definition : Option Definition

-- the names by number
abbrev pub names_in : List Defined → List Name
names_in definitions = map (λ (d : Defined). d.name) definitions

-- the names with the definitions of their macros; both lists are by number
abbrev pub defined_as : {Z : Type 0} → List Name → List (Option (Rc Macro Z)) → List Defined
defined_as [] macros = []
defined_as (name ∷ names) [] = []
defined_as (name ∷ names) (m ∷ macros) =
    record { name = name; definition = option_map (λ shared. shared.value.definition) m } ∷ defined_as names macros

-- each macro has the name of its number
abbrev pub AreOfNames : {Z : Type 0} → List Name → List (Option (Rc Macro Z)) → Type 0
AreOfNames [] [] = ⊤
AreOfNames (name ∷ names) (m ∷ macros) = IfSome m (λ shared. shared.value.name ≡ name) × AreOfNames names macros
AreOfNames _ _ = ⊥

-- the numbers of all macros are right
abbrev pub AreAllNumbered : {Z : Type 0} → List Name → List (Option (Rc Macro Z)) → Type 0
AreAllNumbered names [] = ⊤
AreAllNumbered names (m ∷ macros) =
    IfSome m (λ shared. AreNumbered names (numbered_by shared.value)) × AreAllNumbered names macros

-- the definition of each name, if it has one; the first in the list counts
abbrev pub meaning_of : List Defined → Definitions
meaning_of [] = nothing_defined
meaning_of (d ∷ ds) = with_change (meaning_of ds) d.name d.definition

-- the macro that has this name
abbrev pub opened_by : Name → Option Definition → Option (Name × Definition)
opened_by name None = None
opened_by name (Some definition) = Some (name, definition)

-- how many tokens a body has, if there is a definition
abbrev pub more_tokens : Option Definition → ℕ
more_tokens None = 0
more_tokens (Some definition) = length definition.body

-- how many tokens all bodies have together
abbrev pub body_tokens : List Defined → ℕ
body_tokens [] = 0
body_tokens (d ∷ ds) = more_tokens d.definition + body_tokens ds

-- by how many names a change may make the list longer
abbrev pub more_names : Option Definition → ℕ
more_names None = 0
more_names (Some definition) = 1

-- the new names are the old ones, and perhaps others after them
abbrev pub GrowAtEnd : List Name → List Name → Type 0
GrowAtEnd old new = (more : List Name) × (new ≡ old ++ more)

-- The name has this definition from now on, or none, and all other names keep theirs. Each name keeps its number. The
-- list grows by no more than that.
pub record IsChanged (name : Name) (change : Option Definition) (old new : List Defined) : Type 0 where
  pub meaning : meaning_of new ≡ with_change (meaning_of old) name change
  pub kept : GrowAtEnd (names_in old) (names_in new)
  pub names : length new ≤ length old + more_names change
  pub tokens : body_tokens new ≤ body_tokens old + more_tokens change
