use Rattle.std.proofs.Common.{sym}
use Rattle.std.specs.Str.{chars}
use Rattle.pp_macros.specs.inner.NamePlaces.{names_of}
use Rattle.pp_macros.proofs.defined_names.MarksLemmas.{unmarked, without_position}
use Rattle.pp_macros.proofs.names.texts.Texts.find.Goals as goal

pub returns-then-not-has : goal.returns-then-not-has
returns-then-not-has c =
    let names = names_of c.self.inside.texts.items in
    let name = chars c.args.name.now in
    rw (← c.self.view_is) (without_position name names (unmarked c.self.inside.marks names name c.self.invariant.2 (rw c.if-not-has.true at (sym c.has.ensures))))
