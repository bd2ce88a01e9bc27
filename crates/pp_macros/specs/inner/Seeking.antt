-- What the code does with a token that is taken.
use Rattle.std.specs.Prelude.{◌≡◌, true, false, [], ◌∷◌, Option, Some, None, Ok, Err}
use Rattle.pp_model.specs.Names.{Name}
use Rattle.pp_model.specs.Definitions.{Definition}
use Rattle.pp_macros.specs.inner.Defined.{Macro, AreNumbered, names_in, numbered_by}
use Rattle.pp_macros.specs.inner.Frames.{new_frame, bare_call}
use Rattle.pp_macros.specs.declared.calls.Taken.{Taken}
use Rattle.pp_macros.specs.declared.calls.Taken.TheVariants as taken
use Rattle.pp_macros.specs.declared.step.PlacedExit.TheVariants.{Continue}
use Rattle.pp_model.specs.declared.read.Read.{Read}
use Rattle.pp_macros.specs.inner.CallTurns.{Seeks, Sought, Finds}
use Rattle.pp_macros.specs.Item.{PlacedStep}
use Rattle.pp_macros.specs.inner.Expander.{Expander}
use Rattle.pp_macros.specs.inner.Reader.{Reader, definitions_of}

-- a token opens its macro, begins its call, or, if there is no call, is given
pub data Enters (read : Read) (opened : Macro) : Expander → Reader → PlacedStep Taken → Expander → Reader → Type 0 where
  plain : (step : PlacedStep Taken) (m n : Expander) (r s : Reader)
      → opened.definition.function_like ≡ false
      → step ≡ Err Continue
      → n ≡ record m { frames = new_frame opened (bare_call read.text read.token.location) [] ∷ m.frames }
      → s ≡ r
      → Enters read opened m r step n s
  called : (c : Sought) (step : PlacedStep Taken) (m p n : Expander) (r s : Reader)
      → opened.definition.function_like ≡ true
      → Seeks m r c p s
      → Finds read opened c step p n
      → Enters read opened m r step n s

-- the same of a macro with this name and definition, whose numbers are right where it opens
pub record EntersAs (read : Read) (named : Name × Definition) (m : Expander) (r : Reader) (step : PlacedStep Taken)
    (n : Expander) (s : Reader) : Type 0 where
  pub opened : Macro
  pub is : named ≡ (opened.name, opened.definition)
  pub numbered : AreNumbered (names_in (definitions_of r)) (numbered_by opened)
  pub enters : Enters read opened m r step n s

abbrev pub FollowsToken : Option (Name × Definition) → Read → Expander → Reader → PlacedStep Taken → Expander → Reader
    → Type 0
FollowsToken None read m r step n s = (step ≡ Ok (taken.Token read)) × (n ≡ m) × (s ≡ r)
FollowsToken (Some named) read m r step n s = EntersAs read named m r step n s
