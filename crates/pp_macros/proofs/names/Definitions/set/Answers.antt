use Rattle.std.proofs.Common.{◌≡◌, ◌∙◌, List, length, false, subst, sym, ap, refl, Some, ◌∷◌, ◌++◌, []}
use Rattle.pp_model.specs.Names.{Name, is_in, is_same_name}
use Rattle.pp_macros.specs.inner.Defined.{Macro, AreNumbered, defined_as, names_in, numbered_by}
use Rattle.pp_macros.proofs.defined_names.FoundNamesLemmas.{not_found}
use Rattle.pp_macros.proofs.defined_names.NumberLemmas.{all_set, all_pushed, numbered_more, right_new}
use Rattle.pp_macros.proofs.defined_names.DistinctNamesLemmas.{same_name}
use Rattle.pp_macros.proofs.defined_names.ParameterNamesLemmas.{position_found}
use Rattle.pp_macros.proofs.defined_names.DefinitionsLemmas.{names_as, number_found, set_named, push_named, is_set, is_pushed}
use Rattle.pp_macros.proofs.names.Definitions.set.Goals as goal

pub index_mut-requires : goal.index_mut-requires
index_mut-requires c =
    let is = rw (c.as_str.ensures, c.deref.ensures, c.in_ok-text.ensures.ok) at c.in-Some.ensures in
    let there = number_found c.self.inside.names c.self.inside.macros.items c.args.name c.number.result c.self.invariant.0
    (rw (← c.self.view_is, ← c.number.ensures) at (sym is)) in
    rw c.self.inside.macros.ok.0 there.1

pub invariant_of-self : goal.invariant_of-self
invariant_of-self c =
    let is = rw (c.as_str.ensures, c.deref.ensures, c.in_ok-text.ensures.ok) at c.in-Some.ensures in
    let there = number_found c.self.inside.names c.self.inside.macros.items c.args.name c.number.result c.self.invariant.0
    (rw (← c.self.view_is, ← c.number.ensures) at (sym is)) in
    let same : names_in c.args.self.now ≡ c.self.inside.names
    = ap names_in (sym c.self.view_is) ∙ names_as c.self.inside.names c.self.inside.macros.items c.self.invariant.0 in
    let named : c.in_ok-new.new.value.name ≡ c.args.name = ap (λ (m : Macro). m.name) c.in_ok-new.ensures.is ∙ c.in_ok-text.ensures.ok in
    let right : AreNumbered c.self.inside.names (numbered_by c.in_ok-new.new.value)
    = subst (λ (names : List Name). AreNumbered names (numbered_by c.in_ok-new.new.value)) same
    (right_new (names_in c.args.self.now) c.args.name c.in-Some.id c.in_ok-new.new.value named (ap (λ (m : Macro). m.number) c.in_ok-new.ensures.is)
    (sym is) c.in_ok-new.ensures.noted) in (
      set_named c.self.inside.names c.self.inside.macros.items c.args.name c.number.result (Some c.in_ok-new.new) c.self.invariant.0 there.0 named,
      all_set c.self.inside.names c.self.inside.macros.items c.number.result (Some c.in_ok-new.new) right c.self.invariant.1,
    )

pub returns-in-Some-clause-ok : goal.returns-in-Some-clause-ok
returns-in-Some-clause-ok c =
    let is = rw (c.as_str.ensures, c.deref.ensures, c.in_ok-text.ensures.ok) at c.in-Some.ensures in
    let there = number_found c.self.inside.names c.self.inside.macros.items c.args.name c.number.result c.self.invariant.0
    (rw (← c.self.view_is, ← c.number.ensures) at (sym is)) in
    let change = is_set c.self.inside.names c.self.inside.macros.items c.args.name c.number.result (Some c.in_ok-new.new) c.self.invariant.0 there.0 in
    rw (← c.self.view_is, ← ap (λ (m : Macro). m.definition) c.in_ok-new.ensures.is) change

pub push-requires : goal.push-requires
push-requires c =
    let new = not_found c.args.name (names_in c.args.self.now) (sym (rw (c.as_str.ensures, c.deref.ensures, c.in_ok-text.ensures.ok) at c.in_default.ensures)) in
    rw c.in_ok-text.ensures.ok (rw (← c.self.view_is, names_as c.self.inside.names c.self.inside.macros.items c.self.invariant.0) at new)

pub invariant_of-self-2 : goal.invariant_of-self-2
invariant_of-self-2 c = rw c.reserve.ensures.items c.self.invariant

pub invariant_of-self-3 : goal.invariant_of-self-3
invariant_of-self-3 c =
    let names = c.self.inside.names in
    let macros = c.self.inside.macros.items in
    let m = c.in_ok-new-2.new.value in
    let same : names_in c.args.self.now ≡ names = ap names_in (sym c.self.view_is) ∙ names_as names macros c.self.invariant.0 in
    let absent : is_in c.args.name names ≡ false = subst (λ (ns : List Name). is_in c.args.name ns ≡ false) same
    (not_found c.args.name (names_in c.args.self.now) (sym (rw (c.as_str.ensures, c.deref.ensures, c.in_ok-text.ensures.ok) at c.in_default.ensures))) in
    let named : m.name ≡ c.args.name = ap (λ (m : Macro). m.name) c.in_ok-new-2.ensures.is ∙ c.in_ok-clone.ensures.cases ∙ c.in_ok-text.ensures.ok in
    let number : m.number ≡ length names = ap (λ (m : Macro). m.number) c.in_ok-new-2.ensures.is ∙ c.count.ensures in
    let noted : AreNumbered names m.noted = subst (λ (ns : List Name). AreNumbered ns m.noted)
    (ap (λ items. names_in (defined_as names items)) c.reserve.ensures.items ∙ names_as names macros c.self.invariant.0) c.in_ok-new-2.ensures.noted in
    let right : AreNumbered (names ++ c.args.name ∷ []) (numbered_by m)
    = right_new (names ++ c.args.name ∷ []) c.args.name (length names) m named number
    (position_found (is_same_name c.args.name) names c.args.name absent (same_name c.args.name))
    (numbered_more names (names ++ c.args.name ∷ []) m.noted (c.args.name ∷ [], refl) noted) in
    rw (c.in_ok-push.ensures.ok, c.push_reserved.ensures.items, c.reserve.ensures.items, c.in_ok-text.ensures.ok) (
      push_named names macros c.args.name (Some c.in_ok-new-2.new) c.self.invariant.0 named,
      all_pushed names macros c.args.name (Some c.in_ok-new-2.new) right c.self.invariant.1,
    )

pub returns-clause-ok : goal.returns-clause-ok
returns-clause-ok c =
    let absent = not_found c.args.name (names_in c.args.self.now) (sym (rw (c.as_str.ensures, c.deref.ensures, c.in_ok-text.ensures.ok) at c.in_default.ensures)) in
    let new : is_in c.args.name c.self.inside.names ≡ false =
    rw (← c.self.view_is, names_as c.self.inside.names c.self.inside.macros.items c.self.invariant.0) at absent in
    let change = is_pushed c.self.inside.names c.self.inside.macros.items c.args.name c.in_ok-new-2.new c.self.invariant.0 new in
    rw (
      ← c.self.view_is,
      c.in_ok-push.ensures.ok,
      c.push_reserved.ensures.items,
      c.reserve.ensures.items,
      c.in_ok-text.ensures.ok,
      ← ap (λ (m : Macro). m.definition) c.in_ok-new-2.ensures.is,
    ) change
