-- The value of an item, without its place; an error keeps its own.
use Rattle.std.specs.Prelude.{Result, Ok, Err}
use Rattle.pp_lexer.specs.declared.token.TokenValue.{TokenValue}
use Rattle.pp_macros.specs.Item.{Fault, Item}

abbrev pub value_of_item : Item → Result TokenValue Fault
value_of_item (Ok token) = Ok token.value
value_of_item (Err fault) = Err fault
