use Rattle.std.proofs.Common.{◌≡◌, true, take}
use Rattle.std.specs.List.{list_all}
use Rattle.pp_lexer.specs.inner.PlainWords.{continues}
use Rattle.pp_lexer.proofs.lexer.plain.continued_length.Given as goal

abbrev pub invariant-loop-i : goal.invariant-loop-i
invariant-loop-i l = list_all continues (take l.i l.bytes) ≡ true
