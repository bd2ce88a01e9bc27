use Rattle.std.proofs.Common.{◌≡◌, length, Some, ap}
use Rattle.std.specs.Str.{chars}
use Rattle.std.specs.String.{string_cmp}
use Rattle.std.specs.BTreeMap.{is_at}
use Rattle.pp_macros.specs.inner.NamePlaces.{names_of}
use Rattle.pp_macros.proofs.defined_names.NameKeysLemmas.{text_name, texts_same, lookup_changed}
use Rattle.pp_macros.proofs.defined_names.NamePlacesLemmas.{finds_placed, finds_crowded}
use Rattle.pp_macros.proofs.defined_names.SharedNamesLemmas.{length-names_of}
use Rattle.pp_macros.proofs.names.table.Table.put.Goals as goal

pub returns-in-Some-clause-ok : goal.returns-in-Some-clause-ok
returns-in-Some-clause-ok c =
    rw (c.hash_of-hash.ensures, ← length-names_of c.args.texts.now)
    (finds_placed c.args.self.now.places.items c.args.self.now.others.entries (names_of c.args.texts.now) (chars c.args.name.now) c.requires.new
    c.in-Some.place c.requires.finds (rw (c.hash_of-hash.ensures, ← length-names_of c.args.texts.now) at c.in-Some.ensures))

pub returns-in_ok-insert-in-None-clause-ok : goal.returns-in_ok-insert-in-None-clause-ok
returns-in_ok-insert-in-None-clause-ok c =
    let key : text_name c.in_ok-key-in-None.key ≡ chars c.args.name.now = ap chars c.in_ok-key-in-None.ensures.ok in
    let e = c.in_ok-insert-in-None.ensures in
    finds_crowded c.args.self.now.places.items c.args.self.now.others.entries (names_of c.args.texts.now) (chars c.args.name.now) c.requires.new
    c.insert.new.self.entries c.requires.finds (rw (c.hash_of-hash.ensures, ← length-names_of c.args.texts.now) at c.in-None.ensures)
    (rw (← key) (lookup_changed text_name _ texts_same (text_name c.in_ok-key-in-None.key) (is_at (string_cmp c.in_ok-key-in-None.key))
    (texts_same c.in_ok-key-in-None.key) c.args.self.now.others.entries c.insert.new.self.entries (Some (length (names_of c.args.texts.now))) (rw (← length-names_of c.args.texts.now) at e.updates.1) e.updates.3))
