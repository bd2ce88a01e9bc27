use Rattle.std.proofs.Common.{◌≡◌, ◌∙◌, ℕ, Option, ap, refl}
use Rattle.pp_model.specs.declared.splice.CallPlace.{CallPlace}
use Rattle.pp_model.specs.declared.splice.Origin.{Origin}
use Rattle.pp_rs.specs.Kept.{item_text}
use Rattle.pp_rs.proofs.pp.preprocessor.Preprocessor.origin.Goals as goal

of_parts : (t u : ℕ) (c d : Option CallPlace) → t ≡ u → c ≡ d → (let o : Origin = record { text = t; call = c } in o ≡ record { text = u; call = d })
of_parts t u c d text call = rw (text, call) refl

pub returns : goal.returns
unfolding item_text
returns c = of_parts _ _ _ _ (c.text.ensures ∙ ap (λ p. p.last.text) c.self.view_is) c.call_place.ensures
