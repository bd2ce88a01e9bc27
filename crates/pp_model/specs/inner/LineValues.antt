-- Parts of the value of a line, under names of their own.
use Rattle.std.specs.Prelude.{unwrap_or}
use Rattle.pp_model.specs.declared.place.Place.{Place}
use Rattle.pp_expression.specs.declared.symbol.Found.{Found}
use Rattle.pp_model.specs.Places.{PlacedFault}
use Rattle.pp_model.specs.LineWords.{Words}
use Rattle.pp_model.specs.LineValues.{placed_fault, operand_fault}
use Rattle.pp_model.specs.declared.word.Word.{Word}

abbrev pub reported_fault : Place → Words → Found → PlacedFault
reported_fault directive words found = placed_fault directive words found.kind found.left

abbrev pub fault_of_operand : PlacedFault → Word → PlacedFault
fault_of_operand fallback word = unwrap_or (operand_fault word) fallback
