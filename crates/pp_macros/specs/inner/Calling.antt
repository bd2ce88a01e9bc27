-- A call whose `)` has been taken, and whose arguments are still to be expanded (docs/RULES.md, Expansion 6).
use Rattle.std.specs.Prelude.{List}
use Rattle.pp_model.specs.declared.place.Place.{Place}
use Rattle.pp_model.specs.declared.read.Read.{Read}
use Rattle.pp_model.specs.declared.splice.CallPlace.{CallPlace}
use Rattle.pp_macros.specs.inner.Defined.{Macro}

-- the macro as it was when the call began, where it is called, the place of its `(`, and the tokens between its
-- parentheses
pub record MacroCall : Type 0 where
  pub opened : Macro
  pub call : CallPlace
  pub paren : Place
  pub tokens : List Read
