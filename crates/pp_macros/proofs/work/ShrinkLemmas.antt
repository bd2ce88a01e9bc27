-- A step of a source shrinks it: fewer items and open blocks are left, and no more names or tokens are defined than were left or defined before.
use Rattle.std.proofs.Common.{◌≡◌, ◌≢◌, ◌∙◌, ℕ, ◌+◌, ◌-◌, ◌<◌, ◌≤◌, ◌⊎◌, Bool, true, false, List, length, length-drop, refl, ap, arith, Option, Some, None, Err, MatchBool, inl, inr}
use Rattle.std.proofs.lemmas.List.{length-take}
use Rattle.std.proofs.lemmas.Option.{slice_get_within}
use Rattle.std.specs.Prelude.{pos, ◌-ℤ◌}
use Rattle.pp_lexer.specs.declared.token.Location.{Location}
use Rattle.pp_lexer.specs.declared.token.Token.{Token}
use Rattle.pp_model.specs.Acts.{defined_in}
use Rattle.pp_model.specs.Definitions.{Definition}
use Rattle.pp_model.specs.Names.{Name}
use Rattle.pp_model.specs.Reads.{numbered_line}
use Rattle.pp_model.specs.declared.definition.Named.{Named}
use Rattle.pp_macros.specs.inner.Defined.{Defined, meaning_of, body_tokens}
use Rattle.pp_macros.specs.Item.{PlacedStep}
use Rattle.pp_macros.specs.inner.Faults.{IsUndefined}
use Rattle.pp_macros.specs.inner.OpenBlocks.{last_block, BlockChange, block_change_at}
use Rattle.pp_macros.specs.declared.blocks.OpenBlock.{OpenBlock}
use Rattle.pp_macros.specs.inner.Source.{Source, left_of_line, IsAfter, IsAfterFault, IsAfterBlock, DefinesOver, Ends, HasEffect, MakesMove, IsRefusedStep, StepsSource, Decides, holds, faulty, Renumbers, numbers, unnumbered, offset_from}
use Rattle.pp_model.specs.Moves.{Effect, gives, gives_item, asks, fails, ends, passes, defines, undefines, tests, decides, renumbers, Move}
use Rattle.pp_model.specs.Sights.{sight_of}
use Rattle.pp_model.specs.declared.sight.Sight.{Sight}
use Rattle.pp_macros.specs.inner.SourceMoves.{Note, move_of, note_of}
use Rattle.pp_macros.specs.inner.Work.{goes_on, reads_around, most_reads, most_names, most_steps}
use Rattle.pp_macros.specs.declared.step.PlacedExit.TheVariants.{Finished}
use Rattle.pp_macros.proofs.work.ShortenLemmas.{sight_adds, sight_least, Shortens, move_of_shortens}
use Rattle.pp_macros.proofs.taking.StepLemmas.{goes_on_not_end, goes_on_not_want}

-- fewer items and open blocks are left, and there is no need for more names or steps
pub record Shrinks (old new : Source) : Type 0 where
  pub shorter : most_reads new < most_reads old
  pub names : most_names new ≤ most_names old
  pub steps : most_steps new ≤ most_steps old

-- where a name may have been undefined there are no more names and no more tokens
undefined_names : (name : Option Name) (old new : List Defined) → IsUndefined name old new → length new ≤ length old
undefined_names None old new same = omega (arith, ap length same)
undefined_names (Some name) old new h = let few = h.names in omega (arith, few)

undefined_tokens : (name : Option Name) (old new : List Defined) → IsUndefined name old new → body_tokens new ≤ body_tokens old
undefined_tokens None old new same = omega (arith, ap body_tokens same)
undefined_tokens (Some name) old new h = let few = h.tokens in omega (arith, few)

module _ (old new : Source) where
  after_shrinks : (taken adds : ℕ) (note : Note) (blocks : List OpenBlock) → IsAfter taken note blocks old new
      → length new.definitions ≤ length old.definitions + 1
      → body_tokens new.definitions + length blocks ≤ body_tokens old.definitions + length old.blocks + adds
      → length old.rest - taken + length old.blocks + adds < length old.rest + length old.blocks → length blocks ≤ length old.blocks + adds → Shrinks old new
  after_shrinks taken adds note blocks after names more low few =
      let left : length new.rest ≡ length old.rest - taken = ap length after.rest ∙ length-drop taken old.rest in
      let still : length new.blocks ≡ length blocks = ap length after.blocks in
      let around : reads_around new.around ≡ reads_around old.around = ap reads_around after.around in
      record { shorter = omega arith; names = omega arith; steps = omega arith }

  passed_shrinks : (taken adds : ℕ) (note : Note) (blocks : List OpenBlock) → IsAfter taken note blocks old new → new.definitions ≡ old.definitions
      → length old.rest - taken + length old.blocks + adds < length old.rest + length old.blocks → length blocks ≤ length old.blocks + adds → Shrinks old new
  passed_shrinks taken adds note blocks after same low few =
      let names : length new.definitions ≡ length old.definitions = ap length same in
      let more : body_tokens new.definitions ≡ body_tokens old.definitions = ap body_tokens same in
      after_shrinks taken adds note blocks after (omega arith) (omega arith) low few

  stays_shrinks : new.definitions ≡ old.definitions → most_reads new < most_reads old → Shrinks old new
  stays_shrinks same shorter =
      let names : length new.definitions ≡ length old.definitions = ap length same in
      let more : body_tokens new.definitions ≡ body_tokens old.definitions = ap body_tokens same in
      record { shorter = shorter; names = omega arith; steps = omega arith }

  fault_shrinks : IsAfterFault old new → Shrinks old new
  fault_shrinks after =
      let undefined = (left_of_line old).undefined in
      let names = undefined_names undefined old.definitions new.definitions after.definitions in
      let tokens = undefined_tokens undefined old.definitions new.definitions after.definitions in
      let around : reads_around new.around ≡ reads_around old.around = ap reads_around after.around in
      record { shorter = omega (arith, after.fewer); names = omega (arith, after.fewer, names); steps = omega (arith, after.fewer, tokens) }

  block_shrinks : IsAfterBlock old new → length old.rest + (length old.blocks - 1) < length old.rest + length old.blocks → Shrinks old new
  block_shrinks after low =
      stays_shrinks (ap (λ (s : Source). s.definitions) after) (omega (
        arith,
        ap (λ (s : Source). reads_around s.around) after,
        ap (λ (s : Source). length s.rest) after,
        ap (λ (s : Source). length s.blocks) after,
        length-take (length old.blocks - 1) old.blocks,
      ))

  define_shrinks : (named : Named) (o : Option Definition) (taken : ℕ) (note : Note) (step : PlacedStep Token)
      → length old.rest - taken + length old.blocks + length named.definition.body < length old.rest + length old.blocks
      → DefinesOver named o taken note old step new → Shrinks old new
  define_shrinks named None taken note step low h = after_shrinks taken (length named.definition.body) note old.blocks h.1 h.2.names
      (omega (arith, h.2.tokens)) low (omega arith)
  define_shrinks named (Some before) taken note step low (inl h) = passed_shrinks taken (length named.definition.body) note old.blocks h.2 h.3 low (omega arith)
  define_shrinks named (Some before) taken note step low (inr h) = fault_shrinks h.2

  decides_shrinks : (word : Location) (tokens : List Token) (blocks : Bool → List OpenBlock) (taken adds : ℕ) (note : Note) (step : PlacedStep Token)
      → length old.rest - taken + length old.blocks + adds < length old.rest + length old.blocks
      → ((value : Bool) → length (blocks value) ≤ length old.blocks + adds) → Decides word tokens blocks taken note old step new → Shrinks old new
  decides_shrinks word tokens blocks taken adds note step low few (holds value condition h) = passed_shrinks taken adds note (blocks value) h.1 h.2 low (few value)
  decides_shrinks word tokens blocks taken adds note step low few (faulty fault condition failed left) = fault_shrinks left

renumbers_shrinks : (old new : Source) (word : Location) (tokens : List Token) (taken : ℕ) (note : Note) (step : PlacedStep Token)
    → length old.rest - taken + length old.blocks + 0 < length old.rest + length old.blocks
    → Renumbers word tokens taken note old step new → Shrinks old new
renumbers_shrinks old new word tokens taken note step low (numbers n number h) =
    let k = passed_shrinks (record old { line_offset = pos n -ℤ pos (numbered_line old.rules word.line) }) new taken 0 note old.blocks h.1 h.2 low (omega arith) in
    record { shorter = k.shorter; names = k.names; steps = k.steps }
renumbers_shrinks old new word tokens taken note step low (unnumbered fault first number found failed left) =
    let k = fault_shrinks (record old { line_offset = offset_from old word first }) new left in
    record { shorter = k.shorter; names = k.names; steps = k.steps }

module _ (old new : Source) where
  end_shrinks : (last : Option OpenBlock) → last_block old.blocks ≡ last → (step : PlacedStep Token) → Ends last old step new → step ≢ Err Finished
      → Shrinks old new
  end_shrinks None is step h not_end = absurd (not_end h.0)
  end_shrinks (Some block) is step h not_end =
      block_shrinks old new h.1 (omega (arith, slice_get_within old.blocks (length old.blocks - 1) block is))

  module _ (taken : ℕ) (note : Note) (change : BlockChange) (more : ℕ)
      (few : (condition : Option Bool) → length (change condition old.blocks) ≤ length old.blocks + more) (step : PlacedStep Token) (not_end : step ≢ Err Finished) where
    effect_shrinks : (effect : Effect) → Shortens more (record { effect = effect; taken = taken }) (length old.rest) (length old.blocks)
        → HasEffect effect taken note change old step new → Shrinks old new
    effect_shrinks (gives token) low h = passed_shrinks old new taken more note old.blocks h.1 h.2 (omega (arith, low refl)) (omega arith)
    effect_shrinks (gives_item item word) low h = passed_shrinks old new taken more note old.blocks h.1 h.2 (omega (arith, low refl)) (omega arith)
    effect_shrinks (asks line) low h = passed_shrinks old new taken more note old.blocks h.1 h.2 (omega (arith, low refl)) (omega arith)
    effect_shrinks (fails fault) low h = fault_shrinks old new h.1
    effect_shrinks ends low h = end_shrinks (last_block old.blocks) refl step h not_end
    effect_shrinks passes low h = passed_shrinks old new taken more note (change None old.blocks) h.1 h.2 (omega (arith, low refl)) (few None)
    effect_shrinks (defines named) low h =
        define_shrinks old new (defined_in old.text named) (meaning_of old.definitions named.name) taken note step (omega (arith, low refl)) h
    effect_shrinks (undefines name) low h =
        let names : length new.definitions ≤ length old.definitions + 0 = h.2.names in
        after_shrinks old new taken more note old.blocks h.1 (omega arith) (omega (arith, h.2.tokens)) (omega (arith, low refl)) (omega arith)
    effect_shrinks (tests asked name) low h = passed_shrinks old new taken more note _ h.1 h.2 (omega (arith, low refl)) (few _)
    effect_shrinks (decides word tokens) low h =
        decides_shrinks old new word tokens _ taken more note step (omega (arith, low refl)) (λ value. few (Some value)) h
    effect_shrinks (renumbers word tokens) low h = renumbers_shrinks old new word tokens taken note step (omega (arith, low refl)) h

  -- so does a step after which reading goes on
  pub source_shrinks : (step : PlacedStep Token) → StepsSource old step new → goes_on step ≡ true → Shrinks old new
  source_shrinks step h on = go old.spent h
    where
      move : Move
      move = move_of old.rules old.dead_for_good old.blocks old.rest

      shown : Sight
      shown = sight_of old.rest

      note : Note
      note = note_of old.dead_for_good old.blocks old.rest

      go : (b : Bool) → MatchBool b ((step ≡ Err Finished) × (new ≡ old)) (IsRefusedStep old step ⊎ MakesMove old step new) → Shrinks old new
      go true h = absurd (goes_on_not_end step on h.0)
      go false (inl h) = absurd (goes_on_not_want step on h.fault)
      go false (inr h) =
          effect_shrinks move.taken note (block_change_at shown) (sight_adds shown) (λ condition. sight_least shown condition old.blocks) step
          (goes_on_not_end step on) move.effect (move_of_shortens old.rules old.dead_for_good old.blocks old.rest) h
