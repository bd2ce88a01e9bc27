use Rattle.std.proofs.Common.{◌<◌, [], length}
use Rattle.std.proofs.lemmas.List.{get_or_read, take_all}
use Rattle.pp_macros.specs.inner.NamePlaces.{names_of}
use Rattle.pp_macros.proofs.defined_names.DistinctNamesLemmas.{earlier_apart}
use Rattle.pp_macros.proofs.defined_names.SharedNamesLemmas.{length-names_of, name_read, names_of-take}
use Rattle.pp_macros.proofs.names.table.Table.of.Goals as goal

pub put-requires-clause-new : goal.put-requires-clause-new
put-requires-clause-new c =
    let texts = c.args.texts.now in
    let within : c.loop-number.number < length (names_of texts) = rw (length-names_of texts) c.loop-number-test.true in
    let read = get_or_read (names_of texts) c.loop-number.number c.index-texts-number.result.value within
    (name_read texts c.loop-number.number c.index-texts-number.result c.loop-number-test.true c.index-texts-number.is) [] in
    rw (c.as_str.ensures, c.deref.ensures, read, names_of-take texts c.loop-number.number)
    (earlier_apart (names_of texts) c.requires.distinct c.loop-number.number within)

pub returns : goal.returns
returns c = rw (take_all c.loop-number.number c.args.texts.now c.loop-number-test.false) at c.loop-number.invariant
