-- A step of a reader adds names at the end alone.
use Rattle.std.proofs.Common.{◌≡◌, ◌∙◌, inl, inr, ◌⊎◌, ℕ, Bool, true, false, List, [], ◌++◌, refl, sym, ap, append_assoc, Option, Some, None, Ok, Err, MatchBool}
use Rattle.std.proofs.lemmas.List.{append-nil}
use Rattle.pp_lexer.specs.declared.token.Location.{Location}
use Rattle.pp_lexer.specs.declared.token.Token.{Token}
use Rattle.pp_model.specs.Acts.{defined_in}
use Rattle.pp_model.specs.Definitions.{Definition}
use Rattle.pp_model.specs.declared.definition.Named.{Named}
use Rattle.pp_model.specs.Moves.{Effect, gives, gives_item, asks, fails, ends, passes, defines, undefines, tests, decides, renumbers}
use Rattle.pp_model.specs.Names.{Name}
use Rattle.pp_model.specs.Sights.{sight_of}
use Rattle.pp_model.specs.declared.read.Read.{Read}
use Rattle.pp_macros.specs.Item.{PlacedStep, wants_memory}
use Rattle.pp_macros.specs.inner.Defined.{GrowAtEnd, meaning_of, names_in}
use Rattle.pp_macros.specs.inner.OpenBlocks.{last_block, BlockChange, block_change_at}
use Rattle.pp_macros.specs.inner.Faults.{IsUndefined}
use Rattle.pp_macros.specs.inner.Reader as reader
use Rattle.pp_macros.specs.inner.Reader.{Reader, of_source, of_list, Reads, ReadsFlat, none_read, read_more, ReadsOnto, ReadsRun, definitions_of}
use Rattle.pp_macros.specs.inner.Reading.{unpainted_step}
use Rattle.pp_macros.specs.inner.Source.{Source, left_of_line, IsAfterFault, DefinesOver, Ends, Decides, holds, faulty, Renumbers, numbers, unnumbered, HasEffect, MakesMove, IsRefusedStep, StepsSource}
use Rattle.pp_macros.specs.inner.SourceMoves.{Note, move_of, note_of}
use Rattle.pp_macros.specs.declared.blocks.OpenBlock.{OpenBlock}
use Rattle.pp_macros.specs.declared.step.PlacedExit.TheVariants.{Finished}

pub grow_not : (names : List Name) → GrowAtEnd names names
grow_not names = ([], sym (append-nil names))

pub grow_then : (a b c : List Name) → GrowAtEnd a b → GrowAtEnd b c → GrowAtEnd a c
grow_then a b c h k = (h.0 ++ k.0, k.1 ∙ ap (λ (names : List Name). names ++ k.0) h.1 ∙ append_assoc a h.0 k.0)

-- names that are the same
same_grow : (old new : List Name) → new ≡ old → GrowAtEnd old new
same_grow old new same = rw same (grow_not old)

module _ (old new : Source) where
  abbrev Grows : Type 0
  Grows = GrowAtEnd (names_in old.definitions) (names_in new.definitions)

  stays : new.definitions ≡ old.definitions → Grows
  stays same = same_grow (names_in old.definitions) (names_in new.definitions) (ap names_in same)

  undefined_grows : (name : Option Name) → IsUndefined name old.definitions new.definitions → Grows
  undefined_grows None same = stays same
  undefined_grows (Some name) h = h.kept

  fault_grows : IsAfterFault old new → Grows
  fault_grows after = undefined_grows (left_of_line old).undefined after.definitions

  define_grows : (named : Named) (o : Option Definition) (taken : ℕ) (note : Note) (step : PlacedStep Token) → DefinesOver named o taken note old step new → Grows
  define_grows named None taken note step h = h.2.kept
  define_grows named (Some before) taken note step (inl h) = stays h.3
  define_grows named (Some before) taken note step (inr h) = fault_grows h.2

  end_grows : (last : Option OpenBlock) (step : PlacedStep Token) → Ends last old step new → Grows
  end_grows None step h = stays (ap (λ (s : Source). s.definitions) h.1)
  end_grows (Some block) step h = stays (ap (λ (s : Source). s.definitions) h.1)

  decide_grows : (word : Location) (tokens : List Token) (blocks : Bool → List OpenBlock) (taken : ℕ) (note : Note) (step : PlacedStep Token)
      → Decides word tokens blocks taken note old step new → Grows
  decide_grows word tokens blocks taken note step (holds value condition h) = stays h.2
  decide_grows word tokens blocks taken note step (faulty fault condition failed left) = fault_grows left

  renumber_grows : (word : Location) (tokens : List Token) (taken : ℕ) (note : Note) (step : PlacedStep Token)
      → Renumbers word tokens taken note old step new → Grows
  renumber_grows word tokens taken note step (numbers n number h) = stays h.2
  renumber_grows word tokens taken note step (unnumbered fault first number found failed left) = undefined_grows (left_of_line old).undefined left.definitions

  effect_grows : (effect : Effect) (taken : ℕ) (note : Note) (change : BlockChange) (step : PlacedStep Token)
      → HasEffect effect taken note change old step new → Grows
  effect_grows (gives token) taken note change step h = stays h.2
  effect_grows (gives_item item word) taken note change step h = stays h.2
  effect_grows (asks line) taken note change step h = stays h.2
  effect_grows (fails fault) taken note change step h = fault_grows h.1
  effect_grows ends taken note change step h = end_grows (last_block old.blocks) step h
  effect_grows passes taken note change step h = stays h.2
  effect_grows (defines named) taken note change step h = define_grows (defined_in old.text named) (meaning_of old.definitions named.name) taken note step h
  effect_grows (undefines name) taken note change step h = h.2.kept
  effect_grows (tests asked name) taken note change step h = stays h.2
  effect_grows (decides word tokens) taken note change step h =
      decide_grows word tokens (λ value. change (Some value) old.blocks) taken note step h
  effect_grows (renumbers word tokens) taken note change step h = renumber_grows word tokens taken note step h

  source_grows : (step : PlacedStep Token) → StepsSource old step new → wants_memory step ≡ false → Grows
  source_grows step h reported = go old.spent h
    where
      go : (b : Bool) → MatchBool b ((step ≡ Err Finished) × (new ≡ old)) (IsRefusedStep old step ⊎ MakesMove old step new) → Grows
      go true h = stays (ap (λ (s : Source). s.definitions) h.1)
      go false (inl h) = absurd (let bad : true ≡ false = rw h.fault at reported in cc)
      go false (inr h) =
          let move = move_of old.rules old.dead_for_good old.blocks old.rest in
          effect_grows move.effect move.taken (note_of old.dead_for_good old.blocks old.rest) (block_change_at (sight_of old.rest)) step h

given_wants : (text : ℕ) (given : PlacedStep Token) → wants_memory (unpainted_step text given) ≡ wants_memory given
given_wants text (Ok token) = refl
given_wants text (Err exit) = refl

pub reads_grow : (step : PlacedStep Read) (r s : Reader) → Reads r step s → wants_memory step ≡ false
    → GrowAtEnd (names_in (definitions_of r)) (names_in (definitions_of s))
reads_grow step (of_source old) (of_source new) (reader.reads given steps tells last is) reported =
    source_grows old new given steps (sym (given_wants old.text given) ∙ ap wants_memory (sym is) ∙ reported)
reads_grow step (of_source old) (of_source new) (reader.leaves outer around over at is same) reported =
    rw same (grow_not (names_in old.definitions))
reads_grow step (of_list old) (of_list new) (inl h) reported = rw h.1 (grow_not (names_in old.definitions))
reads_grow step (of_list old) (of_list new) (inr h) reported = absurd (let bad : true ≡ false = rw h at reported in cc)
reads_grow step (of_source old) (of_list new) h reported = absurd h
reads_grow step (of_list old) (of_source new) h reported = absurd h

flat_grow : (tokens : List Read) (r s : Reader) (more : List Read) → ReadsFlat r tokens s more → GrowAtEnd (names_in (definitions_of r)) (names_in (definitions_of s))
flat_grow tokens r s more (none_read s1 more1 same is) = rw same (grow_not (names_in (definitions_of r)))
flat_grow tokens r s more (read_more between s1 some more1 flat onto apart) =
    grow_then _ _ _ (flat_grow tokens r between some flat) (reads_grow (Ok onto.read) between s onto.reads refl)

pub run_grow : (tokens : List Read) (r s : Reader) (found : Bool) (more : List Read) → ReadsRun r tokens found s more
    → GrowAtEnd (names_in (definitions_of r)) (names_in (definitions_of s))
run_grow tokens r s found more run = grow_then _ _ _ (flat_grow tokens r run.between run.some run.flat) (last found run.last)
  where
    last : (found : Bool) → ReadsOnto run.between run.some found s more → GrowAtEnd (names_in (definitions_of run.between)) (names_in (definitions_of s))
    last true onto = reads_grow (Ok onto.read) run.between s onto.reads refl
    last false same = rw same.0 (grow_not (names_in (definitions_of run.between)))
