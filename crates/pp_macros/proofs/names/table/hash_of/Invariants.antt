use Rattle.std.proofs.Common.{◌≡◌, take, fold}
use Rattle.pp_macros.specs.inner.NamePlaces.{hash_step}
use Rattle.pp_macros.proofs.names.table.hash_of.Given as goal

-- the hash of the bytes so far
abbrev pub invariant-loop-byte : goal.invariant-loop-byte
invariant-loop-byte l = l.hash ≡ fold hash_step 0x811c9dc5 (take l.byte-index l.bytes)
