use Rattle.std.proofs.Common.{◌≡◌, ◌∙◌, ◌<◌, ◌+◌, arith, refl, sym, ap, true, tests, length, Some, slice_get, inr}
use Rattle.std.proofs.lemmas.List.{length-set}
use Rattle.std.proofs.lemmas.List.Elements.{All-set}
use Rattle.std.proofs.lemmas.Option.{slice_get_read}
use Rattle.pp_model.specs.declared.read.Read.{Read}
use Rattle.pp_macros.specs.Held.{HoldsOrdinary}
use Rattle.pp_macros.specs.inner.Parts.{AreApart}
use Rattle.pp_macros.proofs.taking.PartLemmas.{part_next, part_after}
use Rattle.pp_macros.proofs.taking.LastPartLemmas.{list_other, lists_other, rest_apart}
use Rattle.pp_macros.proofs.argument_lists.OpenArguments.take.Goals as goal

pub invariant_of-self : goal.invariant_of-self
invariant_of-self c =
    let old = c.self.inside.tokens.items in
    let at = c.in-Some.part.start in (
      All-set (λ (read : Read). HoldsOrdinary read.token.value) old at c.take_out-read.new.place c.take_out-read.ensures.left c.self.invariant.0,
      rw (length-set old at c.take_out-read.new.place) c.self.invariant.1,
      λ last. rest_apart c.in-Some.part c.self.inside.parts.items (rw c.in-Some.is at (c.self.invariant.2 last)),
    )

pub returns-clause-takes : goal.returns-clause-takes
returns-clause-takes c =
    let old = c.self.inside.tokens.items in
    let part = c.in-Some.part in
    let parts = c.self.inside.parts.items in
    let read = c.take_out-read.new.place in
    let some : part.start < part.end = omega arith in
    let within : part.start < length old = omega arith in
    let last : c.self.inside.is_last ≡ true = grind (arith, tests) in
    let apart : AreApart part parts = rw c.in-Some.is at (c.self.invariant.2 last) in
    let rest = record part { start = part.start + 1 } in
    let here : slice_get old part.start ≡ Some c.take_out-read.result
    = slice_get_read old (length old) part.start c.index_mut.result.now refl within c.index_mut.ensures.value ∙ ap Some (sym c.take_out-read.ensures.is) in (
      rw (← c.self.view_is, c.in-Some.is) (sym (part_next old part some) ∙ here),
      rw (
        ← c.self.view_is,
        c.in-Some.is,
        lists_other old part.start read part parts apart (omega arith) some,
        list_other old part.start read rest (inr (omega arith)),
        part_after old part some,
      )
          refl,
    )
