use Rattle.std.proofs.Common.{take}
use Rattle.pp_macros.specs.inner.NamePlaces.{FindsNames, names_of}
use Rattle.pp_macros.proofs.names.table.Table.of.Given as goal

-- the texts so far are found
abbrev pub invariant-loop-number : goal.invariant-loop-number
invariant-loop-number l = FindsNames l.table.places.items l.table.others.entries (names_of (take l.number l.texts))
