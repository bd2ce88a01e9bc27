use Rattle.std.specs.Prelude.{position}
use Rattle.std.specs.Str.{chars}
use Rattle.pp_model.specs.Names.{is_same_name}
use Rattle.pp_macros.specs.inner.NamePlaces.{names_of}
use Rattle.pp_macros.proofs.defined_names.NamePlacesLemmas.{AreOthers}
use Rattle.pp_macros.proofs.names.table.Table.find.Given as goal

-- the name has none of the places so far
abbrev pub invariant-loop-after : goal.invariant-loop-after
invariant-loop-after l = AreOthers l.self.places.items l.hash (position (is_same_name (chars l.name)) (names_of l.texts)) l.after
