-- Parts of the words of a line, under names of their own.
use Rattle.std.specs.Prelude.{Bool}
use Rattle.pp_model.specs.Calls.{is_left_paren, is_right_paren}
use Rattle.pp_model.specs.LineWords.{has_value}
use Rattle.pp_model.specs.declared.read.Taken.{Taken}

abbrev pub is_open_paren : Taken → Bool
is_open_paren o = has_value is_left_paren o

abbrev pub is_close_paren : Taken → Bool
is_close_paren o = has_value is_right_paren o
