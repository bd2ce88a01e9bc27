-- The end of a `defined`.
use Rattle.std.specs.Prelude.{◌≡◌, Bool, Result}
use Rattle.pp_model.specs.declared.place.Place.{Place}
use Rattle.pp_model.specs.Places.{PlacedFault}
use Rattle.pp_model.specs.Names.{Name}
use Rattle.pp_model.specs.Reading.{Expander, Listed, line_reading}
use Rattle.pp_model.specs.Calls.{Answers}
use Rattle.pp_model.specs.Emitting.{Emits}
use Rattle.pp_model.specs.ItemCall.{item_call}
use Rattle.pp_model.specs.LineWords.{closed_by, is_defined}
use Rattle.pp_model.specs.declared.read.Taken.{Taken}
use Rattle.pp_model.specs.declared.word.LineKind.{LineKind}

-- what a `defined` gives after its `(` and the name
pub record Closes (kind : LineKind) (directive : Place) (A : Answers) (n : Name)
    (e : Expander Listed) (r : Result Bool PlacedFault) (f : Expander Listed) : Type 0 where
  pub found : Taken
  pub emits : Emits line_reading A e found f
  pub answer : r ≡ closed_by kind directive (is_defined f n) (item_call emits) found
