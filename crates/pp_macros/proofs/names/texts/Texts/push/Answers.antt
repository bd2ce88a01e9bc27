use Rattle.std.proofs.Common.{arith}
use Rattle.std.proofs.lemmas.List.{length_push}
use Rattle.pp_macros.specs.inner.NamePlaces.{names_of}
use Rattle.pp_macros.proofs.defined_names.DistinctNamesLemmas.{distinct_more}
use Rattle.pp_macros.proofs.defined_names.MarksLemmas.{marked_push}
use Rattle.pp_macros.proofs.defined_names.SharedNamesLemmas.{names_of-more}
use Rattle.pp_macros.proofs.names.texts.Texts.push.Goals as goal

pub invariant_of-self-2 : goal.invariant_of-self-2
invariant_of-self-2 c =
    let names = names_of c.self.inside.texts.items in
    rw (c.push_reserved.ensures.items, c.in_ok-reserve.ensures.items, names_of-more c.self.inside.texts.items c.args.text) (
      distinct_more names c.args.text.value (rw c.self.view_is c.requires) c.self.invariant.0,
      rw (c.deref-2.ensures.value, c.in_ok-reserve.ensures.items, c.as_str.ensures, c.deref-3.ensures) at c.in_ok-put.ensures.ok,
      rw (c.add.ensures, c.mark_of.ensures, c.as_str-2.ensures, c.deref-4.ensures) (marked_push c.self.inside.marks names c.args.text.value c.self.invariant.2),
      rw (length_push c.self.inside.texts.items c.args.text) (omega arith),
    )
