-- Names that are put one after another.
use Rattle.std.proofs.Common.{◌≡◌, ℕ, Bool, List, ◌++◌, append_assoc, ◌∙◌, ap}
use Rattle.std.specs.Prelude.{Option}
use Rattle.glslpp_parts.specs.Version.{as_one}

-- a name with its content
abbrev Said : Type 0
Said = List ℕ × Option (List ℕ)

pub as_one-same : (old new : List Said) (p q : Bool) (name : List ℕ) → new ≡ old ++ as_one p name → p ≡ q → new ≡ old ++ as_one q name
as_one-same old new p q name e same = e ∙ ap (λ is. old ++ as_one is name) same

pub appended : (old s₁ s₂ s₃ s₄ s₅ first a b c d : List Said) → s₁ ≡ old ++ first → s₂ ≡ s₁ ++ a → s₃ ≡ s₂ ++ b → s₄ ≡ s₃ ++ c → s₅ ≡ s₄ ++ d
    → s₅ ≡ old ++ (first ++ a ++ b ++ c ++ d)
appended old s₁ s₂ s₃ s₄ s₅ first a b c d e₁ e₂ e₃ e₄ e₅ =
    e₅ ∙ ap (λ s. s ++ d) (e₄ ∙ ap (λ s. s ++ c) (e₃ ∙ ap (λ s. s ++ b) (e₂ ∙ ap (λ s. s ++ a) e₁))) ∙ simp append_assoc
