use Rattle.std.proofs.Common.{◌≡◌, length}
use Rattle.std.specs.List.{list_any}
use Rattle.pp_lexer.specs.inner.NumberValue.{is_float_mark}
use Rattle.pp_lexer.proofs.lexer.number.value.has_float_mark.Given as goal

-- what is passed holds no mark
abbrev pub invariant-marks : goal.invariant-marks
invariant-marks l = list_any (is_float_mark l.hex) l.word ≡ list_any (is_float_mark l.hex) l.fn.word

abbrev pub decreases-marks : goal.decreases-marks
decreases-marks l = length l.word
