use Rattle.std.proofs.Common.{◌≡◌, ◌∙◌, ◌<◌, ◌≤◌, List, Some, subst, length, refl, arith, tests}
use Rattle.std.specs.Prelude.{slice_get, IfSome}
use Rattle.std.proofs.lemmas.Option.{slice_get_read}
use Rattle.pp_macros.specs.inner.Defined.{Defined, AreNumbered, names_in, numbered_by}
use Rattle.pp_macros.proofs.defined_names.DefinitionsLemmas.{number_found, opened_at, shown_as}
use Rattle.pp_macros.proofs.defined_names.NumberLemmas.{shown_right}
use Rattle.pp_macros.proofs.names.Definitions.get_define.Goals as goal

pub returns-in_err-get-clause-opened : goal.returns-in_err-get-clause-opened
returns-in_err-get-clause-opened c = λ name at.
    let past : length c.deref.result.now ≤ c.number.result = grind (arith, tests, c.in_err-get.ensures.lookup.0) in
    let there = number_found c.self.inside.names c.self.inside.macros.items name c.number.result c.self.invariant.0 (rw (← c.self.view_is, ← c.number.ensures) at at) in
    let beyond = rw c.deref.ensures.value at past in
    absurd (omega (arith, there.1, beyond))

pub returns-clause-opened : goal.returns-clause-opened
returns-clause-opened c = λ name at.
    let names = c.self.inside.names in
    let macros = c.self.inside.macros.items in
    let k = c.number.result in
    let there = number_found names macros name k c.self.invariant.0 (rw (← c.self.view_is, ← c.number.ensures) at at) in
    let here : slice_get macros k ≡ Some c.in_ok-get.field-0.now = slice_get_read macros (length macros) k c.in_ok-get.field-0.now refl there.1
    (rw c.deref.ensures.value at c.in_ok-get.ensures.lookup.1) in
    rw (← c.self.view_is)
    (shown_as c.as_ref.result c.in_ok-get.field-0.now c.as_ref.ensures.value ∙ opened_at names macros name k c.in_ok-get.field-0.now c.self.invariant.0 there.0 here)

pub returns-clause-numbered : goal.returns-clause-numbered
returns-clause-numbered c =
    let macros = c.self.inside.macros.items in
    let k = c.number.result in
    let below : k < length c.deref.result.now = grind (arith, tests, c.in_ok-get.ensures.lookup.0) in
    let here : slice_get macros k ≡ Some c.in_ok-get.field-0.now = slice_get_read macros (length macros) k c.in_ok-get.field-0.now refl
    (rw c.deref.ensures.value at below) (rw c.deref.ensures.value at c.in_ok-get.ensures.lookup.1) in
    subst (λ (ds : List Defined). IfSome c.as_ref.result (λ m. AreNumbered (names_in ds) (numbered_by m.now.value))) c.self.view_is
    (shown_right c.self.inside.names macros k c.as_ref.result c.in_ok-get.field-0.now c.self.invariant.0 c.self.invariant.1 c.as_ref.ensures.value here)
