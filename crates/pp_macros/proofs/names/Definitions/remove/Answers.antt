use Rattle.std.proofs.Common.{sym, None}
use Rattle.std.specs.Str.{chars}
use Rattle.pp_macros.specs.inner.Defined.{names_in}
use Rattle.pp_macros.proofs.defined_names.FoundNamesLemmas.{not_found}
use Rattle.pp_macros.proofs.defined_names.DefinitionsLemmas.{number_found, set_named, is_set, is_absent, names_set}
use Rattle.pp_macros.proofs.defined_names.NumberLemmas.{all_set}
use Rattle.pp_macros.proofs.names.Definitions.remove.Goals as goal
use Rattle.pp_macros.proofs.names.Definitions.remove.Goals.{in-Some-1, in-None-1}

pub index_mut-requires : goal.index_mut-requires
index_mut-requires c =
    let there = number_found c.self.inside.names c.self.inside.macros.items (chars c.args.name.now) c.number.result c.self.invariant.0
    (rw (← c.self.view_is, ← c.number.ensures) at (sym c.in-Some.ensures)) in
    rw c.self.inside.macros.ok.0 there.1

pub invariant_of-self : goal.invariant_of-self
invariant_of-self c =
    let there = number_found c.self.inside.names c.self.inside.macros.items (chars c.args.name.now) c.number.result c.self.invariant.0
    (rw (← c.self.view_is, ← c.number.ensures) at (sym c.in-Some.ensures)) in (
      set_named c.self.inside.names c.self.inside.macros.items (chars c.args.name.now) c.number.result _ c.self.invariant.0 there.0 tt,
      all_set c.self.inside.names c.self.inside.macros.items c.number.result None tt c.self.invariant.1,
    )

pub returns-in-Some-clause-change : goal.returns-in-Some-clause-change
returns-in-Some-clause-change c =
    let there = number_found c.self.inside.names c.self.inside.macros.items (chars c.args.name.now) c.number.result c.self.invariant.0
    (rw (← c.self.view_is, ← c.number.ensures) at (sym c.in-Some.ensures)) in
    let change = is_set c.self.inside.names c.self.inside.macros.items (chars c.args.name.now) c.number.result _ c.self.invariant.0 there.0 in
    elim c.match-index_mut.branch [
      | in-Some-1 w ↦ rw (← c.self.view_is, w.self-is) change
      | in-None-1 w ↦ rw (← c.self.view_is, w.self-is) change
    ]

pub returns-in-Some-clause-names : goal.returns-in-Some-clause-names
returns-in-Some-clause-names c =
    let there = number_found c.self.inside.names c.self.inside.macros.items (chars c.args.name.now) c.number.result c.self.invariant.0
    (rw (← c.self.view_is, ← c.number.ensures) at (sym c.in-Some.ensures)) in
    let kept = names_set c.self.inside.names c.self.inside.macros.items (chars c.args.name.now) c.number.result None c.self.invariant.0 there.0 tt in
    elim c.match-index_mut.branch [
      | in-Some-1 w ↦ rw (← c.self.view_is, w.self-is) kept
      | in-None-1 w ↦ rw (← c.self.view_is, w.self-is) kept
    ]

pub returns-in_default-clause-change : goal.returns-in_default-clause-change
returns-in_default-clause-change c =
    is_absent c.args.self.now (chars c.args.name.now) (not_found (chars c.args.name.now) (names_in c.args.self.now) (sym c.in_default.ensures))
