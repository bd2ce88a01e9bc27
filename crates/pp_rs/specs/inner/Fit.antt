-- What holds of an expander over a source between any two calls, unless memory ran out.
use Rattle.std.specs.Prelude.{◌≡◌, true, false, Bool, List, [], Option, Some, None, Err, IsSome, ⊤}
use Rattle.pp_lexer.specs.declared.rules.Rules.{Rules}
use Rattle.pp_lexer.specs.declared.token.PreprocessorError.TheVariants.{UnknownDirective}
use Rattle.pp_model.specs.Places.{PlacedFault}
use Rattle.pp_model.specs.declared.read.Read.{Read}
use Rattle.pp_macros.specs.inner.Frames.{Frame}
use Rattle.pp_macros.specs.Item.{PlacedStep}
use Rattle.pp_macros.specs.inner.Idle.{is_idle}
use Rattle.pp_macros.specs.inner.Left.{IsSound}
use Rattle.pp_macros.specs.inner.Expander.{Expander}
use Rattle.pp_macros.specs.inner.Reader.{Reader, of_source, of_list}
use Rattle.pp_macros.specs.inner.Source.{Source, unreported_of}
use Rattle.pp_macros.specs.inner.Unreported.{IsReportedBut}
use Rattle.pp_macros.specs.declared.step.PlacedExit.TheVariants.{Error, Finished}
use Rattle.pp_directives.specs.inner.PlainText.{IsInText}

-- a source with no item left, no open block, and no text around
abbrev pub NothingIn : Reader → Type 0
NothingIn (of_source source) = (source.rest ≡ []) × (source.blocks ≡ []) × (source.around ≡ [])
NothingIn (of_list list) = ⊤

-- memory of the source didn't run out
abbrev pub IsReady : Reader → Type 0
IsReady (of_source source) = source.spent ≡ false
IsReady (of_list list) = ⊤

-- if the end is held, nothing else is left
abbrev pub EndIsLast : Option (PlacedStep Read) → List Frame → Reader → Type 0
EndIsLast (Some (Err Finished)) frames r = (frames ≡ []) × NothingIn r
EndIsLast _ frames r = ⊤

-- only the error of an unknown directive asks for a text, and only by rules that say so
abbrev pub AsksRightly : Rules → PlacedFault → Type 0
AsksRightly rules fault = IsSome fault.1.asks → (rules.asks_includes ≡ true) × (fault.0 ≡ UnknownDirective)

-- the same of a fault that is given, and of one that is held
abbrev pub StepAsks : {T : Type 0} → Rules → PlacedStep T → Type 0
StepAsks rules (Err (Error fault)) = AsksRightly rules fault
StepAsks rules _ = ⊤

abbrev pub HoldsAsking : Rules → Option (PlacedStep Read) → Type 0
HoldsAsking rules (Some step) = StepAsks rules step
HoldsAsking rules None = ⊤

pub record IsFit (expander : Expander) (source : Source) : Type 0 where
  pub unspent : source.spent ≡ false
  pub sound : IsSound expander (of_source source)
  pub last : EndIsLast expander.held expander.frames (of_source source)
  pub asks : HoldsAsking source.rules expander.held

-- the reader goes by these rules
abbrev pub GoesBy : Rules → Reader → Type 0
GoesBy rules (of_source source) = source.rules ≡ rules
GoesBy rules (of_list list) = ⊤

-- The source is read by these rules. Each error of the lexer that was read was reported, except for one that is held.
abbrev pub IsReported : Rules → Expander → Source → Type 0
IsReported rules expander source =
    IsReportedBut expander.held (unreported_of source) × (source.rules ≡ rules)

-- the next token is read from live text: no macro is open and nothing is held, and memory didn't run out
pub record IsInLiveText (expander : Expander) (source : Source) (spent : Bool) : Type 0 where
  pub idle : is_idle expander ≡ true
  pub text : IsInText source
  pub unspent : spent ≡ false
