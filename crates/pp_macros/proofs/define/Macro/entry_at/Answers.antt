use Rattle.std.proofs.Common.{List, subst}
use Rattle.std.specs.Prelude.{IfSome}
use Rattle.pp_model.specs.Names.{Name}
use Rattle.pp_macros.specs.inner.Bodies.{noted_at}
use Rattle.pp_macros.specs.inner.Defined.{Macro, AreNumbered}
use Rattle.pp_macros.proofs.defined_names.BodyLemmas.{entry_found}
use Rattle.pp_macros.proofs.defined_names.NumberLemmas.{entry_numbered}
use Rattle.pp_macros.proofs.define.Macro.entry_at.Goals as goal

pub returns-clause-entry : goal.returns-clause-entry
returns-clause-entry c =
    rw (← c.self.view_is)
    (entry_found c.self.inside.function_like c.self.inside.parameters.items c.self.inside.body.items c.self.inside.text c.args.position c.get.result c.self.invariant
    (rw c.deref.ensures.value at c.get.ensures.lookup))

pub returns-clause-noted : goal.returns-clause-noted
returns-clause-noted c =
    subst (λ (m : Macro). IfSome c.get.result (λ entry. (names : List Name) → AreNumbered names m.noted → AreNumbered names (noted_at entry.now)))
    c.self.view_is
    (entry_numbered c.self.inside.body.items c.args.position c.get.result (rw c.deref.ensures.value at c.get.ensures.lookup))
