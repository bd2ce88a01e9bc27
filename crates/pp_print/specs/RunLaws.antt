-- A source with definitions has exactly one run, and the tokens that come first are the beginning of it
use Rattle.std.specs.Prelude.{◌≡◌, ℕ, List, ◌++◌, All, IsOk}
use Rattle.pp_rs.specs.declared.token.Token.{Token}
use Rattle.pp_print.specs.SourceRuns.{Definition, tokens_of, AreFirstOf, IsRunOf}
use Rattle.pp_print.specs.declared.ends.RunEnd.{RunEnd}

-- a source has a run if the contents of all definitions hold no error and no number sign
abbrev pub ARun : Type 0
ARun = (source : List ℕ) (definitions : List Definition) → All (λ definition. IsOk (tokens_of definition)) definitions
    → (tokens : List Token) × (end : RunEnd) × IsRunOf source definitions tokens end

-- a source with definitions has at most one run
abbrev pub OneRun : Type 0
OneRun =
    (source : List ℕ) (definitions : List Definition) (tokens others : List Token) (end other : RunEnd)
    → IsRunOf source definitions tokens end
    → IsRunOf source definitions others other
    → (tokens ≡ others) × (end ≡ other)

-- the tokens that come first of a source with definitions are the first tokens of its run
abbrev pub FirstTokens : Type 0
FirstTokens =
    (source : List ℕ) (definitions : List Definition) (tokens all : List Token) (end : RunEnd)
    → AreFirstOf source definitions tokens
    → IsRunOf source definitions all end
    → (more : List Token) × (all ≡ tokens ++ more)
