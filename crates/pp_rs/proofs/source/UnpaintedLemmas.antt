-- A source gives its tokens unpainted: what holds of its steps holds of what is taken of them.
use Rattle.std.proofs.Common.{◌≡◌, ◌⊎◌, ℕ, Bool, true, [], refl}
use Rattle.std.specs.Prelude.{Ok, Err}
use Rattle.pp_lexer.specs.declared.token.Token.{Token}
use Rattle.pp_macros.specs.Item.{PlacedStep, wants_memory}
use Rattle.pp_macros.specs.inner.Reader.{ReadsSource, reads}
use Rattle.pp_macros.specs.inner.Reading.{unpainted_step}
use Rattle.pp_macros.specs.inner.Source.{Source, StepsSource, unreported_of}
use Rattle.pp_macros.specs.inner.Unreported.{Unreported, StepReports}
use Rattle.pp_macros.specs.declared.step.PlacedExit.TheVariants.{Finished}

pub unpainted_wants : (text : ℕ) (given : PlacedStep Token) → wants_memory (unpainted_step text given) ≡ wants_memory given
unpainted_wants text (Ok token) = refl
unpainted_wants text (Err exit) = refl

pub unpainted_end : (text : ℕ) (given : PlacedStep Token) → unpainted_step text given ≡ Err Finished → given ≡ Err Finished
unpainted_end text (Err Finished) e = refl
unpainted_end text _ e = cc

pub unpainted_tells : (text : ℕ) (passes : Bool) (given : PlacedStep Token) (old new : Unreported) → StepReports passes given old new
    → StepReports passes (unpainted_step text given) old new
unpainted_tells text passes (Ok token) old new h = h
unpainted_tells text passes (Err exit) old new h = h

-- a step of a source's text, and the errors of the lexer that it reports
abbrev pub StepsReporting : Source → PlacedStep Token → Source → Type 0
StepsReporting old step new = StepsSource old step new × StepReports old.rules.passes_dead_errors step (unreported_of old) (unreported_of new)

-- it is what the source gives, if the end is that of all texts
pub reads_step : (old new : Source) (step : PlacedStep Token) → StepsReporting old step new
    → (step ≡ Err Finished → (old.spent ≡ true) ⊎ (old.around ≡ [])) → ReadsSource old (unpainted_step old.text step) new
reads_step old new step h ends = reads step h.0 h.1 ends refl
