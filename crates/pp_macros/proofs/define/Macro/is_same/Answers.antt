use Rattle.std.proofs.Common.{◌∙◌, sym, rules}
use Rattle.pp_macros.proofs.defined_names.BodyLemmas.{same_definition}
use Rattle.pp_macros.proofs.define.Macro.is_same.Goals as goal
use Rattle.pp_macros.proofs.define.Macro.is_same.Goals.{then-self-other, else-self-other}

pub returns-then-are_same_names : goal.returns-then-are_same_names
returns-then-are_same_names c =
    rw (← c.self.view_is, ← c.other.view_is)
    (elim c.if-self-other.branch [
      | then-self-other w ↦
          same_definition _ _ _ _ _ _ _ _ _ (search rules)
          (sym w.deref.ensures.value ∙ w.are_same_names.ensures.0 (sym w.value-is ∙ c.if-are_same_names.true) ∙ w.deref-then-self-other.ensures.value)
          c.self.invariant c.other.invariant.0
          (rw (c.deref-then-are_same_names.ensures.value, c.deref-then-are_same_names-2.ensures.value) at c.have_same_values.ensures)
      | else-self-other w ↦ cc
    ])
