-- Parts of emitting, under names of their own.
use Rattle.std.specs.Prelude.{List, Some, Result}
use Rattle.pp_lexer.specs.declared.token.Token.{Token}
use Rattle.pp_model.specs.Places.{Fault, PlacedFault}
use Rattle.pp_model.specs.declared.read.Read.{Read}
use Rattle.pp_model.specs.Reading.{Expander}
use Rattle.pp_model.specs.declared.read.Taken.{Taken}
use Rattle.pp_model.specs.Emitting.{first_before}

abbrev pub token_before : Token → Result (List Token) Fault → Result (List Token) Fault
token_before token rest = first_before token rest

abbrev pub read_before : Read → Result (List Read) PlacedFault → Result (List Read) PlacedFault
read_before read rest = first_before read rest

abbrev pub list_before : List Read → Result (List (List Read)) PlacedFault → Result (List (List Read)) PlacedFault
list_before tokens rest = first_before tokens rest

abbrev pub holding : {R : Type 0} → Taken → Expander R → Expander R
holding o expander = record expander { held = Some o }
