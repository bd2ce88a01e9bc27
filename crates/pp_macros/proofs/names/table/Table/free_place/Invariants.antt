use Rattle.pp_macros.specs.inner.NamePlaces.{AreTaken}
use Rattle.pp_macros.proofs.names.table.Table.free_place.Given as goal

-- no place so far is free
abbrev pub invariant-loop-after : goal.invariant-loop-after
invariant-loop-after l = AreTaken l.self.places.items l.hash l.after l.count
