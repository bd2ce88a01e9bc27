-- The table by which names are found, if there is one.
use Rattle.std.specs.Prelude.{List, Option, Some, None}
use Rattle.pp_model.specs.Names.{Name}
use Rattle.pp_macros.specs.declared.names.table.Table.{Table}
use Rattle.pp_macros.specs.inner.NamePlaces.{FindsNames}

-- each of the names is found by the table, if there is one
abbrev pub IsTableOf : List Name → Option Table → Type 0
IsTableOf names None = Unit {0}
IsTableOf names (Some table) = FindsNames table.places.items table.others.entries names
