-- Parts of the map of names, under names of their own.
use Rattle.std.specs.Prelude.{None}
use Rattle.pp_model.specs.Definitions.{Definitions}

abbrev pub nothing_defined : Definitions
nothing_defined = λ name. None
