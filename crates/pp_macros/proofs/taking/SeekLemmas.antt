-- The search after a name, as the code makes it.
use Rattle.std.proofs.Common.{◌≡◌, ◌∙◌, ◌⊎◌, inl, inr, refl, ap, Option, Some, None, true, false, [], ◌∷◌}
use Rattle.std.specs.Prelude.{List, Ok, Err}
use Rattle.pp_lexer.specs.declared.token.Location.{Location}
use Rattle.pp_model.specs.declared.place.Place.{Place}
use Rattle.pp_model.specs.declared.read.Read.{Read}
use Rattle.pp_model.specs.Calls.{Gathered}
use Rattle.pp_macros.specs.inner.CallTurns.{Seeks, alone, called, no_call, refused, gathered, paren_of, is_out_of_memory_step}
use Rattle.pp_macros.specs.Item.{PlacedStep, no_memory}
use Rattle.pp_macros.specs.inner.CallTurns as turn
use Rattle.pp_macros.specs.inner.CallTurns.{TurnsTo, TurnsOrRefuses}
use Rattle.pp_macros.specs.inner.Seeking as e
use Rattle.pp_macros.specs.inner.Seeking.{Enters, FollowsToken}
use Rattle.pp_macros.specs.inner.Turns.{macro_of, Opens}
use Rattle.pp_macros.specs.Halting.{exit_of}
use Rattle.pp_macros.specs.inner.Defined.{Macro}
use Rattle.pp_macros.specs.inner.Frames.{new_frame, bare_call}
use Rattle.pp_model.specs.Names.{Name}
use Rattle.pp_model.specs.Definitions.{Definition}
use Rattle.pp_model.specs.Emitting.{called_at}
use Rattle.pp_macros.specs.declared.calls.Taken.{Taken}
use Rattle.pp_macros.specs.declared.calls.Taken.TheVariants as taken
use Rattle.pp_macros.specs.declared.step.PlacedExit.{PlacedExit}
use Rattle.pp_macros.specs.declared.step.PlacedExit.TheVariants.{Error, Continue}
use Rattle.pp_macros.specs.inner.Expander.{Expander, StepsTaking, TakesNext, GathersNext, Satisfies, gathered_to}
use Rattle.pp_macros.specs.inner.Reader.{Reader}
use Rattle.pp_macros.specs.declared.halt.PlacedHalt.{PlacedHalt}
use Rattle.pp_macros.specs.declared.halt.PlacedHalt.TheVariants as halt

abbrev Refused : PlacedStep Taken → Type 0
Refused step = step ≡ Err (Error no_memory)

-- after a name: no call, a call, or its fault
module _ (read : Read) (opened : Macro) (m n : Expander) (r s : Reader) (next : PlacedStep Read) (function : opened.definition.function_like ≡ true)
    (takes : TakesNext m r next n s) where
  pub enters_nothing : (p : Expander) → paren_of next ≡ None → is_out_of_memory_step next ≡ false → p ≡ record n { held = Some next }
      → Enters read opened m r (Ok (taken.Token read)) p s
  enters_nothing p none reported is =
      e.called (no_call next) (Ok (taken.Token read)) m n p r s function (alone next m n r s (no_call next) takes none reported refl) (refl, is)

  module _ (paren : Place) (at : paren_of next ≡ Some paren) (p : Expander) (t : Reader) where
    pub enters_whole : (g : Gathered) → GathersNext 0 paren n s (Ok g) p t
        → Enters read opened m r (Ok (taken.Call (record { opened = opened; call = called_at read.text read.token g.closing.line; paren = paren; tokens = g.tokens }))) p t
    enters_whole g gathers =
        e.called (gathered paren g) (Ok (taken.Call (record { opened = opened; call = called_at read.text read.token g.closing.line; paren = paren; tokens = g.tokens }))) m p p r t function
        (called next paren m n p r s t (Ok g) (gathered paren g) takes at gathers refl) (refl, refl)

    pub enters_halt : (h : PlacedHalt) (tokens : List Read) (step : PlacedStep Taken)
        → Satisfies {A = Location} (Err h) (λ end. GathersNext 0 paren n s (gathered_to tokens end) p t) → step ≡ Err (exit_of h)
        → Enters read opened m r step p t ⊎ Refused step
    enters_halt (halt.Fault fault) tokens step gathers is =
        inl (e.called (refused fault) step m p p r t function (called next paren m n p r s t (Err fault) (refused fault) takes at gathers refl) (is, refl))
    enters_halt halt.OutOfMemory tokens step gathers is = inr is

pub follows_plain : (read : Read) (opened : Macro) (m n : Expander) (r : Reader) (step : PlacedStep Taken)
    → Opens r read opened → opened.definition.function_like ≡ false
    → ((step ≡ Err Continue) × (n ≡ record m { frames = new_frame opened (bare_call read.text read.token.location) [] ∷ m.frames })) ⊎ Refused step
    → FollowsToken (macro_of r read) read m r step n r ⊎ Refused step
follows_plain read opened m n r step opens plain (inl h) =
    inl (rw opens.is (record { opened = opened; is = refl; numbered = opens.numbered; enters = e.plain step m n r r plain h.0 h.1 refl }))
follows_plain read opened m n r step opens plain (inr h) = inr h

-- the name of a function-like macro
pub follows_called : (read : Read) (opened : Macro) (m n : Expander) (r s : Reader) (step : PlacedStep Taken) → Opens r read opened
    → Enters read opened m r step n s ⊎ Refused step → FollowsToken (macro_of r read) read m r step n s ⊎ Refused step
follows_called read opened m n r s step opens (inl h) =
    inl (rw opens.is (record { opened = opened; is = refl; numbered = opens.numbered; enters = h }))
follows_called read opened m n r s step opens (inr h) = inr h

-- a turn, by what is taken
pub turns_token : (m n p : Expander) (r s t : Reader) (read : Read) (step : PlacedStep Taken) → StepsTaking m r (Ok read) n s
    → (o : Option (Name × Definition)) → macro_of s read ≡ o → FollowsToken o read n s step p t ⊎ Refused step → TurnsOrRefuses m r step p t
turns_token m n p r s t read step steps o is (inr h) =
    inr (record { some = record { step = Ok read; after = n; reader = s; takes = steps; goes = refl }; fault = h })
turns_token m n p r s t read step steps None is (inl (gives, same, stays)) = inl (rw (same, stays) (turn.gives read step m n r s steps is gives))
turns_token m n p r s t read step steps (Some named) is (inl h) =
    let opens : Opens s read h.opened = record { is = is ∙ ap (λ (o : Name × Definition). Some o) h.is; numbered = h.numbered } in
    inl (by opens h.enters)
  where
    by : {opened : Macro} → Opens s read opened → Enters read opened n s step p t → TurnsTo m r step p t
    by {opened} opens (e.plain step1 m1 n1 r1 s1 plain pauses at stays) =
        rw stays (turn.object read opened step m n p r s steps opens plain pauses at)
    by {opened} opens (e.called c step1 m1 q n1 r1 s1 function seeks finds) =
        turn.seeks read opened c step m n q p r s t steps opens function seeks finds

pub turns_exit : (m n : Expander) (r s : Reader) (exit : PlacedExit) → StepsTaking m r (Err exit) n s → TurnsOrRefuses m r (Err exit) n s
turns_exit m n r s exit steps = inl (turn.passes exit (Err exit) m n r s steps refl)
