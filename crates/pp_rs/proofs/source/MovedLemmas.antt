-- What a step of a source's text does to the text, and whether it makes the rest of it dead.
use Rattle.std.proofs.Common.{◌≡◌, ◌≢◌, ◌∙◌, inl, inr, ℕ, false, ◌||◌, List, [], ◌∷◌, refl, ap, sym, subst, Option, Some, None}
use Rattle.std.specs.Prelude.{Err, ⊤, is_none}
use Rattle.pp_lexer.specs.Lexed.{Seen}
use Rattle.pp_lexer.specs.declared.token.Token.{Token}
use Rattle.pp_model.specs.Acts.{defined_in}
use Rattle.pp_model.specs.Definitions.{Definition}
use Rattle.pp_model.specs.Places.{PlacedFault}
use Rattle.pp_model.specs.Sights.{sight_of}
use Rattle.pp_model.specs.Moves.{Effect, gives, gives_item, asks, fails, ends, passes, defines, undefines, tests, decides, renumbers}
use Rattle.pp_model.specs.declared.definition.Named.{Named}
use Rattle.pp_macros.proofs.work.FinishedLemmas.{is_end_effect}
use Rattle.pp_macros.specs.Item.{PlacedStep}
use Rattle.pp_macros.specs.inner.Defined.{meaning_of}
use Rattle.pp_macros.specs.inner.OpenBlocks.{last_block, BlockChange, block_change_at, facts_among, is_live_among}
use Rattle.pp_macros.specs.inner.Source.{Source, IsAfter, IsAfterFault, left_of_line, DefinesOver, Ends, holds, faulty, numbers, unnumbered, HasEffect, Makes, MakesMove}
use Rattle.pp_macros.specs.inner.SourceMoves.{Note, note_of, move_of}
use Rattle.pp_macros.specs.declared.blocks.OpenBlock.{OpenBlock}
use Rattle.pp_macros.specs.declared.step.PlacedExit.TheVariants.{Error, Continue}
use Rattle.pp_directives.proofs.TextEndLemmas.{item_there, sight_goes_on}

-- the same text is read, within the same ones
pub record SameText (old new : Source) : Type 0 where
  pub text : new.text ≡ old.text
  pub around : new.around ≡ old.around
  pub contents : new.contents ≡ old.contents

-- a fault of it asks for a text
abbrev pub AsksIfFault : PlacedStep Token → Type 0
AsksIfFault (Err (Error fault)) = is_none fault.1.asks ≡ false
AsksIfFault _ = ⊤

-- a step of a text: without a fault of the items, with one, and at the end
pub data Moved (old : Source) (step : PlacedStep Token) (new : Source) : Type 0 where
  kept : SameText old new → new.dead_for_good ≡ old.dead_for_good → AsksIfFault step → Moved old step new
  fallen : (fault : PlacedFault)
      → step ≡ Err (Error fault)
      → fault.1.asks ≡ None
      → old.rest ≢ []
      → SameText old new
      → new.dead_for_good ≡ ((left_of_line old).is_dead || old.dead_for_good)
      → Moved old step new
  over : old.rest ≡ [] → SameText old new → new.dead_for_good ≡ old.dead_for_good → Moved old step new

module _ (old new : Source) where
  kept_after : {count : ℕ} {note : Note} {blocks : List OpenBlock} {step : PlacedStep Token} → IsAfter count note blocks old new → AsksIfFault step
      → Moved old step new
  kept_after a quiet = kept (record { text = a.text; around = a.around; contents = a.contents }) a.dead_for_good quiet

  fallen_after : {step : PlacedStep Token} (fault : PlacedFault) → old.rest ≢ [] → step ≡ Err (Error fault) → fault.1.asks ≡ None → IsAfterFault old new
      → Moved old step new
  fallen_after fault some is quiet a = fallen fault is quiet some (record { text = a.text; around = a.around; contents = a.contents }) a.dead_for_good

  pauses_moved : {count : ℕ} {note : Note} {blocks : List OpenBlock} {step : PlacedStep Token} → step ≡ Err Continue → IsAfter count note blocks old new
      → Moved old step new
  pauses_moved is a = kept_after a (subst AsksIfFault (sym is) tt)

  define_moved : old.rest ≢ [] → (named : Named) (before : Option Definition) (taken : ℕ) (note : Note) (step : PlacedStep Token)
      → DefinesOver named before taken note old step new → Moved old step new
  define_moved some named None taken note step h = pauses_moved h.0 h.1
  define_moved some named (Some before) taken note step (inl h) = pauses_moved h.1 h.2
  define_moved some named (Some before) taken note step (inr h) = fallen_after _ some h.1 refl h.2

  effect_moved : old.rest ≢ [] → (effect : Effect) (taken : ℕ) (note : Note) (change : BlockChange) (step : PlacedStep Token)
      → is_end_effect effect ≡ false → HasEffect effect taken note change old step new → Moved old step new
  effect_moved some (gives token) taken note change step go h = kept_after h.1 (subst AsksIfFault (sym h.0) tt)
  effect_moved some (gives_item value word) taken note change step go h = kept_after h.1 (subst AsksIfFault (sym h.0) tt)
  effect_moved some (asks line) taken note change step go h = kept_after h.1 (subst AsksIfFault (sym h.0) refl)
  effect_moved some (fails fault) taken note change step go h = fallen_after _ some h.0 refl h.1
  effect_moved some ends taken note change step go h = cc
  effect_moved some passes taken note change step go h = pauses_moved h.0 h.1
  effect_moved some (defines named) taken note change step go h =
      define_moved some (defined_in old.text named) (meaning_of old.definitions named.name) taken note step h
  effect_moved some (undefines name) taken note change step go h = pauses_moved h.0 h.1
  effect_moved some (tests asked name) taken note change step go h = pauses_moved h.0 h.1
  effect_moved some (decides word tokens) taken note change step go (holds value condition h) = pauses_moved h.0 h.1
  effect_moved some (decides word tokens) taken note change step go (faulty fault condition is a) = fallen_after _ some is refl a
  effect_moved some (renumbers word tokens) taken note change step go (numbers n number h) =
      kept (record { text = h.1.text; around = h.1.around; contents = h.1.contents }) h.1.dead_for_good (subst AsksIfFault (sym h.0) tt)
  effect_moved some (renumbers word tokens) taken note change step go (unnumbered fault first number found is a) =
      fallen _ is refl some (record { text = a.text; around = a.around; contents = a.contents }) a.dead_for_good

  end_moved : old.rest ≡ [] → (last : Option OpenBlock) (step : PlacedStep Token) → Ends last old step new → Moved old step new
  end_moved none None step h =
      over none (record { text = ap (λ (s : Source). s.text) h.1; around = ap (λ (s : Source). s.around) h.1; contents = ap (λ (s : Source). s.contents) h.1 })
      (ap (λ (s : Source). s.dead_for_good) h.1)
  end_moved none (Some block) step h =
      over none (record { text = ap (λ (s : Source). s.text) h.1; around = ap (λ (s : Source). s.around) h.1; contents = ap (λ (s : Source). s.contents) h.1 })
      (ap (λ (s : Source). s.dead_for_good) h.1)

  moved_by : (rest : List Seen) → old.rest ≡ rest → (step : PlacedStep Token) → MakesMove old step new → Moved old step new
  moved_by [] e step h =
      end_moved e (last_block old.blocks) step
      (subst (λ (left : List Seen). Makes (note_of old.dead_for_good old.blocks left) (block_change_at (sight_of left))
      (move_of old.rules old.dead_for_good old.blocks left) old step new) e h)
  moved_by (s ∷ rest) e step h =
      effect_moved (λ none. some_there s rest (sym e ∙ none)) (move_of old.rules old.dead_for_good old.blocks old.rest).effect
      (move_of old.rules old.dead_for_good old.blocks old.rest).taken (note_of old.dead_for_good old.blocks old.rest) (block_change_at (sight_of old.rest)) step
      (ap (λ (left : List Seen). is_end_effect (move_of old.rules old.dead_for_good old.blocks left).effect) e
      ∙ sight_goes_on old.rules (is_live_among old.dead_for_good old.blocks) (facts_among old.blocks) (sight_of (s ∷ rest)) (s ∷ rest)
      (λ is. item_there s.item rest is)) h
    where
      some_there : (s : Seen) (rest : List Seen) → s ∷ rest ≡ [] → ⊥
      some_there s rest bad = cc

  -- each step of a text is one of these
  pub moved : (step : PlacedStep Token) → MakesMove old step new → Moved old step new
  moved step h = moved_by old.rest refl step h
