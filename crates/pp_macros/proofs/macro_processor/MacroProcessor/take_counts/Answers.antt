use Rattle.std.proofs.Common.{◌≡◌, ◌∙◌, [], ◌++◌, ap, refl, reverse, subst, sym}
use Rattle.std.proofs.lemmas.List.{reverse-reverse}
use Rattle.pp_macros.specs.inner.Frames.{AreCounted}
use Rattle.pp_macros.specs.inner.Nesting.{MacroProcessor}
use Rattle.pp_macros.proofs.open_frames.BaseLemmas.{shown_frames}
use Rattle.pp_macros.proofs.macro_processor.MacroProcessor.take_counts.Goals as goal

pub invariant_of-result : goal.invariant_of-result
invariant_of-result c =
    let fs = c.self-2.inside.frames.items in
    let shown = shown_frames c.self-2.inside.held c.self-2.inside.base fs c.close_all.new.self c.self-2.view_is in
    let none : reverse fs ≡ [] = shown ∙ ap (λ (m : MacroProcessor). m.here.frames ++ m.below) c.close_all.ensures in
    let empty : fs ≡ [] = sym (reverse-reverse fs) ∙ ap reverse none in
    rw c.replace.ensures.value (subst (AreCounted c.self-2.inside.counts.items) empty c.self-2.invariant.0)

pub invariant_of-self-2 : goal.invariant_of-self-2
invariant_of-self-2 c =
    let fs = c.self-2.inside.frames.items in
    let shown = shown_frames c.self-2.inside.held c.self-2.inside.base fs c.close_all.new.self c.self-2.view_is in
    let none : reverse fs ≡ [] = shown ∙ ap (λ (m : MacroProcessor). m.here.frames ++ m.below) c.close_all.ensures in
    let empty : fs ≡ [] = sym (reverse-reverse fs) ∙ ap reverse none in
    (rw c.replace.ensures.after (subst (AreCounted c.new.result.items) (sym empty) (rw c.new.ensures.items (λ k. refl))), c.self-2.invariant.1, c.self-2.invariant.2)
