use Rattle.std.proofs.Common.{◌≡◌, true, take}
use Rattle.std.specs.List.{list_all}
use Rattle.pp_lexer.specs.inner.Fronts.{is_starless}
use Rattle.pp_lexer.proofs.lexer.plain.comment.starless_length.Given as goal

abbrev pub invariant-loop-i : goal.invariant-loop-i
invariant-loop-i l = list_all is_starless (take l.i l.bytes) ≡ true
