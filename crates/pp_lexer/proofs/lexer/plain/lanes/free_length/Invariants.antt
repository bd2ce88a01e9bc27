use Rattle.std.proofs.Common.{◌≡◌, ◌-◌, ◌≤◌, true, length, take}
use Rattle.std.specs.List.{list_all}
use Rattle.pp_lexer.specs.inner.Tame.{is_free}
use Rattle.pp_lexer.proofs.lexer.plain.lanes.free_length.Given as goal

abbrev pub invariant-loads : goal.invariant-loads
invariant-loads l = record { within : l.at ≤ length l.bytes; passes : list_all is_free (take l.at l.bytes) ≡ true }

abbrev pub decreases-loads : goal.decreases-loads
decreases-loads l = length l.bytes - l.at
