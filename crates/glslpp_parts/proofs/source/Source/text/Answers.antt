use Rattle.std.proofs.Common.{◌≡◌, ◌∙◌, ◌++◌, ℕ, List, ap, sym, inl, inr}
use Rattle.glslpp_parts.specs.Texts.{mark}
use Rattle.glslpp_parts.proofs.source.Source.text.Goals as goal

pub returns-in-Some : goal.returns-in-Some
returns-in-Some c =
    let cases = (c.in-Some.ensures {u = tt}).cases in
    let is : c.as_str-whole.result.now ≡ mark ++ c.in-Some.rest.now = cases.1.split ∙ ap (λ (t : List ℕ). mark ++ t) (sym cases.2) in
    inl (sym c.as_str-whole.ensures.value ∙ is)

pub returns-in-None : goal.returns-in-None
returns-in-None c =
    inr (λ more e. (c.in-None.ensures {u = tt}).cases more (c.as_str-whole.ensures.value ∙ e), c.as_str-whole.ensures.value)
