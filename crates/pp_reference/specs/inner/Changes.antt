-- The meaning of a list of changes, the latest first.
use Rattle.std.specs.Prelude.{List, [], ◌∷◌}
use Rattle.pp_reference.specs.declared.definitions.Change.{Change}
use Rattle.pp_model.specs.Definitions.{Definitions, with_change}
use Rattle.pp_model.specs.inner.Definitions.{nothing_defined}

abbrev pub meaning_of : List Change → Definitions
meaning_of [] = nothing_defined
meaning_of (change ∷ changes) = with_change (meaning_of changes) change.name change.definition
