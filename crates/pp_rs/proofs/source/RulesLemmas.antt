-- What each step of a source keeps: the rules by which it is read, and in its text the texts around. Memory ran out only
-- if the step says so.
use Rattle.std.proofs.Common.{◌≡◌, ◌∙◌, inl, inr, ◌⊎◌, ℕ, Bool, true, false, sym, ap, Option, Some, None, List, Err, MatchBool}
use Rattle.pp_lexer.specs.declared.rules.Rules.{Rules}
use Rattle.pp_lexer.specs.declared.token.Location.{Location}
use Rattle.pp_lexer.specs.declared.token.Token.{Token}
use Rattle.pp_model.specs.Acts.{defined_in}
use Rattle.pp_model.specs.Definitions.{Definition}
use Rattle.pp_model.specs.declared.definition.Named.{Named}
use Rattle.pp_model.specs.Moves.{Effect, ends, defines, decides, renumbers}
use Rattle.pp_model.specs.Sights.{sight_of}
use Rattle.pp_model.specs.declared.read.Read.{Read}
use Rattle.pp_macros.specs.Item.{PlacedStep, wants_memory}
use Rattle.pp_macros.specs.inner.Defined.{meaning_of}
use Rattle.pp_macros.specs.inner.OpenBlocks.{last_block, BlockChange, block_change_at}
use Rattle.pp_macros.specs.inner.Reader.{Reader, of_source, of_list, ReadsSource, reads, leaves, Reads}
use Rattle.pp_macros.specs.inner.Reading.{unpainted_step}
use Rattle.pp_macros.specs.inner.Source.{Source, DefinesOver, Ends, Decides, holds, faulty, Renumbers, numbers, unnumbered, HasEffect, MakesMove, IsRefusedStep, StepsSource}
use Rattle.pp_macros.specs.inner.SourceMoves.{Note, move_of, note_of}
use Rattle.pp_macros.specs.declared.blocks.OpenBlock.{OpenBlock}
use Rattle.pp_macros.specs.declared.step.PlacedExit.TheVariants.{Finished}
use Rattle.pp_rs.specs.inner.Fit.{GoesBy}
use Rattle.pp_rs.proofs.source.UnpaintedLemmas.{unpainted_wants}

-- the rules and the texts around are the same, and memory didn't run out if it hadn't
pub record IsStill (old new : Source) : Type 0 where
  pub rules : new.rules ≡ old.rules
  pub around : new.around ≡ old.around
  pub unspent : old.spent ≡ false → new.spent ≡ false

module _ (old new : Source) where
  still : new.rules ≡ old.rules → new.around ≡ old.around → new.spent ≡ false → IsStill old new
  still rules around spent = record { rules = rules; around = around; unspent = λ before. spent }

  nothing_changes : new ≡ old → IsStill old new
  nothing_changes same = record {
    rules = ap (λ (s : Source). s.rules) same;
    around = ap (λ (s : Source). s.around) same;
    unspent = λ before. ap (λ (s : Source). s.spent) same ∙ before;
  }

  define_still : (named : Named) (o : Option Definition) (taken : ℕ) (note : Note) (step : PlacedStep Token) → DefinesOver named o taken note old step new
      → IsStill old new
  define_still named None taken note step h = still h.1.rules h.1.around h.1.spent
  define_still named (Some before) taken note step (inl h) = still h.2.rules h.2.around h.2.spent
  define_still named (Some before) taken note step (inr h) = still h.2.rules h.2.around h.2.spent

  end_still : (last : Option OpenBlock) (step : PlacedStep Token) → Ends last old step new → IsStill old new
  end_still None step h = nothing_changes h.1
  end_still (Some block) step h = record {
    rules = ap (λ (s : Source). s.rules) h.1;
    around = ap (λ (s : Source). s.around) h.1;
    unspent = λ before. ap (λ (s : Source). s.spent) h.1 ∙ before;
  }

  decide_still : (word : Location) (tokens : List Token) (blocks : Bool → List OpenBlock) (taken : ℕ) (note : Note) (step : PlacedStep Token)
      → Decides word tokens blocks taken note old step new → IsStill old new
  decide_still word tokens blocks taken note step (holds value condition h) = still h.1.rules h.1.around h.1.spent
  decide_still word tokens blocks taken note step (faulty fault condition failed left) = still left.rules left.around left.spent

  renumber_still : (word : Location) (tokens : List Token) (taken : ℕ) (note : Note) (step : PlacedStep Token)
      → Renumbers word tokens taken note old step new → IsStill old new
  renumber_still word tokens taken note step (numbers n number h) = still h.1.rules h.1.around h.1.spent
  renumber_still word tokens taken note step (unnumbered fault first number found failed left) = still left.rules left.around left.spent

  effect_still : (effect : Effect) (taken : ℕ) (note : Note) (change : BlockChange) (step : PlacedStep Token)
      → HasEffect effect taken note change old step new → IsStill old new
  effect_still ends taken note change step h = end_still (last_block old.blocks) step h
  effect_still (defines named) taken note change step h = define_still (defined_in old.text named) (meaning_of old.definitions named.name) taken note step h
  effect_still (decides word tokens) taken note change step h =
      decide_still word tokens (λ value. change (Some value) old.blocks) taken note step h
  effect_still (renumbers word tokens) taken note change step h = renumber_still word tokens taken note step h
  effect_still _ taken note change step h = still h.1.rules h.1.around h.1.spent

  -- a step of its text, unless memory ran out
  source_still : (step : PlacedStep Token) → StepsSource old step new → wants_memory step ≡ false → IsStill old new
  source_still step h reported = go old.spent h
    where
      go : (b : Bool) → MatchBool b ((step ≡ Err Finished) × (new ≡ old)) (IsRefusedStep old step ⊎ MakesMove old step new) → IsStill old new
      go true h = nothing_changes h.1
      go false (inl h) = absurd (let bad : true ≡ false = rw h.fault at reported in cc)
      go false (inr h) =
          let move = move_of old.rules old.dead_for_good old.blocks old.rest in
          effect_still move.effect move.taken (note_of old.dead_for_good old.blocks old.rest) (block_change_at (sight_of old.rest)) step h

  -- so of what it gives, unpainted
  pub given_still : (step : PlacedStep Read) (given : PlacedStep Token) → StepsSource old given new → step ≡ unpainted_step old.text given
      → wants_memory step ≡ false → IsStill old new
  given_still step given steps is reported =
      source_still given steps (sym (unpainted_wants old.text given) ∙ ap wants_memory (sym is) ∙ reported)

  -- no step of a source changes its rules
  reads_rules : (step : PlacedStep Read) → ReadsSource old step new → wants_memory step ≡ false → new.rules ≡ old.rules
  reads_rules step (reads given steps reports outermost is) reported = (given_still step given steps is reported).rules
  reads_rules step (leaves outer around over is pause after) reported = ap (λ (s : Source). s.rules) after

  -- memory of a source runs out only if the step says so
  pub reads_unspent : (step : PlacedStep Read) → old.spent ≡ false → ReadsSource old step new → wants_memory step ≡ false → new.spent ≡ false
  reads_unspent step unspent (reads given steps reports outermost is) reported = (given_still step given steps is reported).unspent unspent
  reads_unspent step unspent (leaves outer around over is pause after) reported = ap (λ (s : Source). s.spent) after ∙ unspent

-- a reader goes on by its rules, unless memory ran out
pub reads_by : (rules : Rules) (r s : Reader) (step : PlacedStep Read) → Reads r step s → GoesBy rules r → wants_memory step ≡ false → GoesBy rules s
reads_by rules (of_source old) (of_source new) step h by reported = reads_rules old new step h reported ∙ by
reads_by rules (of_list old) (of_list new) step h by reported = tt
reads_by rules (of_source old) (of_list new) step h by reported = absurd h
reads_by rules (of_list old) (of_source new) step h by reported = absurd h
