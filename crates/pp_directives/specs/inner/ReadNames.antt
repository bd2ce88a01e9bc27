-- What was read of a line, as values of the definitions.
use Rattle.std.specs.Prelude.{List}
use Rattle.pp_model.specs.DefineLines.{Parameters}
use Rattle.pp_model.specs.Names.{Name}
use Rattle.pp_macros.specs.inner.SourceLexed.{SourceLexed}
use Rattle.pp_model.specs.declared.definition.Named.{Named}
use Rattle.pp_model.specs.declared.definition.Placed.{Placed}
use Rattle.pp_directives.specs.declared.lines.DefineLine.{DefineLine}
use Rattle.pp_directives.specs.declared.lines.PlacedName.{PlacedName}

abbrev pub as_placed : PlacedName → Placed
as_placed first = record { name = first.name; location = first.location }

abbrev pub as_named : DefineLine → Named
as_named line = record { name = line.name; location = line.location; definition = line.define }

-- these parameters, with the items that are left after them
abbrev pub parameters_to : List Name → SourceLexed → Parameters
parameters_to names lexer = record { names = names; after = lexer.rest }
