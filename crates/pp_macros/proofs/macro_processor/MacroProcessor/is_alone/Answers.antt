use Rattle.std.proofs.Common.{◌≡◌, ◌∙◌, ℕ, true, List, [], ◌∷◌, length, reverse, ap, arith, refl, sym}
use Rattle.std.specs.Prelude.{◌==◌}
use Rattle.std.proofs.lemmas.Bool.Decides.{Decides-eqb}
use Rattle.pp_macros.specs.inner.Frames.{Frame, names_of}
use Rattle.pp_macros.specs.inner.Nesting.{open_names}
use Rattle.pp_macros.proofs.open_frames.BaseLemmas.{all_names}
use Rattle.pp_macros.proofs.macro_processor.MacroProcessor.is_alone.Goals as goal

no_frames : (n : ℕ) (fs : List Frame) → n ≡ length fs → (n == 0) ≡ true → fs ≡ []
no_frames n [] number empty = refl
no_frames n (f ∷ fs) number empty = absurd (let none : n ≡ 0 = (Decides-eqb n 0).0 empty in omega (arith, none, number))

pub returns : goal.returns
returns c = λ alone.
    sym (all_names c.self.inside.held c.self.inside.base c.self.inside.frames.items ∙ ap open_names c.self.view_is)
    ∙ ap (λ (fs : List Frame). names_of (reverse fs)) (no_frames _ c.self.inside.frames.items c.self.inside.frames.ok.0 (sym c.is_empty.ensures ∙ alone))
