use Rattle.std.proofs.Common.{◌≡◌, take}
use Rattle.pp_reference.proofs.copies.copy_reads.Given as goal

abbrev pub invariant-loop-read : goal.invariant-loop-read
invariant-loop-read l = l.copies.items ≡ take l.read-index l.reads
