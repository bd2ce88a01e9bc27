use Rattle.std.proofs.Common.{◌≡◌, ◌∙◌, sym, refl, true, false, List, Option, Some, None}
use Rattle.std.specs.Prelude.{is_some}
use Rattle.pp_model.specs.declared.read.Read.{Read}
use Rattle.pp_model.specs.declared.splice.CallPlace.{CallPlace}
use Rattle.pp_macros.specs.Item.{PlacedStep}
use Rattle.pp_macros.specs.inner.Expander.{kept_call}
use Rattle.pp_macros.specs.inner.Frames.{Frame, outermost_frame_call}
use Rattle.pp_macros.proofs.macro_processor.MacroProcessor.item_call.Goals as goal

held_call : (o : Option (PlacedStep Read)) (call : Option CallPlace) (frames : List Frame) → is_some o ≡ true → call ≡ kept_call o call frames
held_call (Some step) call frames held = refl
held_call None call frames held = cc

open_call : (o : Option (PlacedStep Read)) (call : Option CallPlace) (frames : List Frame) → is_some o ≡ false → outermost_frame_call frames ≡ kept_call o call frames
open_call (Some step) call frames held = cc
open_call None call frames held = refl

pub returns-then-is_holding : goal.returns-then-is_holding
returns-then-is_holding c =
    held_call c.args.self.now.here.held c.args.before c.args.self.now.here.frames (sym c.is_holding.ensures ∙ c.if-is_holding.true)

pub returns : goal.returns
returns c =
    c.outermost_call.ensures
    ∙ open_call c.args.self.now.here.held c.args.before c.args.self.now.here.frames (sym c.is_holding.ensures ∙ c.if-is_holding.false)
