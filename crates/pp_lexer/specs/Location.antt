-- Places.
use Rattle.pp_lexer.specs.declared.token.Location.{Location}

-- the place of what is nowhere in the source
abbrev pub nowhere : Location
nowhere = record { start = 0; end = 0; line = 1 }
