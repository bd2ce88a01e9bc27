use Rattle.std.proofs.Common.{◌∙◌, List, refl, sym, ap, subst}
use Rattle.pp_macros.specs.inner.Defined.{names_in, AreNumbered}
use Rattle.pp_macros.specs.declared.define.BodyEntry.{BodyEntry}
use Rattle.pp_macros.specs.inner.Bodies.{noted_in, unnumbered}
use Rattle.pp_macros.proofs.defined_names.BodyLemmas.{number_changed}
use Rattle.pp_macros.proofs.defined_names.NumberLemmas.{numbered_set, numbered_same, numbered_found}
use Rattle.pp_macros.proofs.define.note_numbers.Goals as goal
use Rattle.pp_macros.proofs.define.note_numbers.Goals.{in-Token+in-Ident, in-Token+in_default-value, in_default}

pub loop-entry-preserved : goal.loop-entry-preserved
loop-entry-preserved c = record {
  same = elim c.match-entry.branch [
    | in-Token+in-Ident w ↦
        number_changed _ _ _ c.entry-item.result _ w.body-is (sym (ap unnumbered w.in-Token.is)) ∙ c.loop-entry.invariant.same
    | in-Token+in_default-value w ↦
        number_changed _ _ _ c.entry-item.result _ w.body-is (sym (ap unnumbered w.in-Token.is)) ∙ c.loop-entry.invariant.same
    | in_default w ↦ number_changed _ _ _ c.entry-item.result _ w.body-is refl ∙ c.loop-entry.invariant.same
  ];
  noted = λ right. elim c.match-entry.branch [
    | in-Token+in-Ident w ↦
        subst (λ (body : List BodyEntry). AreNumbered (names_in c.args.definitions.now) (noted_in body)) (sym w.body-is)
        (numbered_set _ c.loop-entry.body c.loop-entry.entry-index _
        (numbered_found _ w.in-Ident.name w.find.result w.in-Token.token.value w.in-Ident.is (rw w.as_str.ensures at w.find.ensures))
        (c.loop-entry.invariant.noted right))
    | in-Token+in_default-value w ↦
        subst (λ (body : List BodyEntry). AreNumbered (names_in c.args.definitions.now) (noted_in body)) (sym w.body-is)
        (numbered_same _ c.loop-entry.body c.loop-entry.entry-index c.entry-item.result _ (sym w.in-Token.is) (c.loop-entry.invariant.noted right))
    | in_default w ↦
        subst (λ (body : List BodyEntry). AreNumbered (names_in c.args.definitions.now) (noted_in body)) (sym w.body-is)
        (numbered_same _ c.loop-entry.body c.loop-entry.entry-index c.entry-item.result _ refl (c.loop-entry.invariant.noted right))
  ];
}
