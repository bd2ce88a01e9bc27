-- The position of a token among the parentheses of a call, as a program says it (docs/RULES.md, Expansion 6).
use Rattle.pp_model.specs.Calls as calls
use Rattle.pp_model.specs.declared.parentheses.Nesting.{Nesting}
use Rattle.pp_model.specs.declared.parentheses.Nesting.TheVariants.{Closes, Within, TooMany}

abbrev pub nesting_named : Nesting → calls.Nesting
nesting_named Closes = calls.closes
nesting_named (Within n) = calls.within n
nesting_named TooMany = calls.too_many
