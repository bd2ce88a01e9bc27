-- Each step of the preprocessor's source is a step of the reader that it stands for.
use Rattle.std.proofs.Common.{◌≡◌, ◌≢◌, ◌∙◌, ◌⊎◌, inl, inr, Bool, true, false, List, [], ◌∷◌, refl, ap, sym, subst}
use Rattle.std.specs.Prelude.{Err, MatchBool}
use Rattle.pp_lexer.specs.declared.token.Token.{Token}
use Rattle.pp_model.specs.Sights.{sight_of}
use Rattle.pp_model.specs.SourceReader.{SourceReader}
use Rattle.pp_model.specs.Moves.{move_at}
use Rattle.pp_model.specs.Acts.{advanced_by}
use Rattle.pp_model.specs.declared.sight.Sight.{Sight}
use Rattle.pp_model.specs.declared.sight.Sight.TheVariants as sight
use Rattle.pp_macros.specs.Item.{PlacedStep, wants_memory}
use Rattle.pp_macros.specs.inner.Reader.{reads, leaves}
use Rattle.pp_macros.specs.inner.OpenBlocks.{last_block, facts_among, is_live_among, block_change_at}
use Rattle.pp_macros.specs.inner.SourceMoves.{note_at, note_of, move_of}
use Rattle.pp_macros.specs.inner.Source.{Source, Makes, MakesMove, IsRefusedStep}
use Rattle.pp_rs.specs.inner.Stands.{StandsReading, StandsForReader}
use Rattle.pp_macros.specs.declared.step.PlacedExit.TheVariants.{Finished}
use Rattle.pp_rs.proofs.source.BareSimulates.{lone_passes, no_word_passes}
use Rattle.pp_rs.proofs.source.EndSimulates.{end_simulates, leaving_simulates}
use Rattle.pp_rs.proofs.source.ErrorSimulates.{error_simulates}
use Rattle.pp_rs.proofs.source.LineSimulates.{directive_simulates}
use Rattle.pp_rs.proofs.source.Simulates.{SimulatesIn, SourceSimulates}
use Rattle.pp_rs.proofs.source.StandsQuietLemmas.{stands_one}
use Rattle.pp_rs.proofs.source.StepHereLemmas.{act_here, gives_here, fails_here, pauses_here, of_reading}
use Rattle.pp_rs.proofs.source.UnpaintedLemmas.{unpainted_wants}
use Rattle.pp_rs.proofs.source.AfterFaultLemmas.{still_reading}
use Rattle.pp_rs.proofs.source.FaultLengthLemmas.{CanFail}
use Rattle.pp_directives.proofs.TextEndLemmas.{item_there}
use Rattle.pp_lexer.specs.Lexed.{Seen}

-- where an item is left, no end is seen
none_seen : (rest : List Seen) → rest ≢ [] → sight_of rest ≡ sight.End → ⊥
none_seen [] some e = some refl
none_seen (s ∷ rest) some e = item_there s.item rest e

module _ {old : Source} {r : SourceReader} (s : StandsReading old r) (some : old.rest ≢ []) (move : PlacedStep Token) (new : Source) where
  -- a fault is in front
  can_by : {live : Bool} → is_live_among old.dead_for_good old.blocks ≡ live → {shown : Sight} → sight_of old.rest ≡ shown → CanFail old.rules live shown
      → CanFail old.rules (is_live_among old.dead_for_good old.blocks) (sight_of old.rest)
  can_by {live} alive {shown} e can =
      subst (λ (now : Bool). CanFail old.rules now (sight_of old.rest)) (sym alive) (subst (λ (found : Sight). CanFail old.rules live found) (sym e) can)

  -- what stands in front is the reader's step, in live and in dead text
  sight_simulates : (live : Bool) → is_live_among old.dead_for_good old.blocks ≡ live → (shown : Sight) → sight_of old.rest ≡ shown
      → Makes (note_at live shown) (block_change_at shown) (move_at old.rules live (facts_among old.blocks) shown old.rest) old move new → SimulatesIn move old r new
  sight_simulates live alive sight.End e h = absurd (none_seen old.rest some e)
  sight_simulates true alive sight.NewLine e h =
      pauses_here s move new (act_here s alive e some) (h.0, stands_one s alive e refl refl refl h.1 h.2)
  sight_simulates false alive sight.NewLine e h =
      pauses_here s move new (act_here s alive e some) (h.0, stands_one s alive e refl refl refl h.1 h.2)
  sight_simulates true alive (sight.Fault fault) e h = fails_here s move new (act_here s alive e some) (can_by alive e refl) h.0 h.1
  sight_simulates false alive (sight.Fault fault) e h =
      error_simulates s move new alive fault e old.rules.passes_dead_errors refl (act_here s alive e some) h
  sight_simulates true alive (sight.Token token) e h =
      rw h.0 (record {
        after = advanced_by 1 r;
        goes = gives_here s (act_here s alive e some) refl;
        stands = of_reading (stands_one s alive e refl refl refl h.1 h.2);
      })
  sight_simulates false alive (sight.Token token) e h =
      pauses_here s move new (act_here s alive e some) (h.0, stands_one s alive e refl refl refl h.1 h.2)
  sight_simulates true alive (sight.Hash location) e h = fails_here s move new (act_here s alive e some) (can_by alive e refl) h.0 h.1
  sight_simulates false alive (sight.Hash location) e h =
      pauses_here s move new (act_here s alive e some) (h.0, stands_one s alive e refl refl refl h.1 h.2)
  sight_simulates live alive sight.Lone e h = lone_passes s move new e (act_here s alive e some) h
  sight_simulates true alive (sight.NoWord fault) e h = fails_here s move new (act_here s alive e some) (can_by alive e refl) h.0 h.1
  sight_simulates false alive (sight.NoWord fault) e h = no_word_passes s move new alive fault e (act_here s alive e some) h
  sight_simulates live alive (sight.Directive directive word) e h = directive_simulates s move new e live alive (act_here s alive e some) h

-- where something is left nothing was reported
pub to_reading : {old : Source} {r : SourceReader} → StandsForReader old r → old.rest ≢ [] → StandsReading old r
to_reading s some = record {
  rules = s.rules;
  here = still_reading s.here some;
  around = s.around;
  earlier = s.earlier;
  definitions = s.definitions;
  contents = s.contents;
  unspent = s.unspent;
}

-- a step of its text
step_by_rest : (old new : Source) (r : SourceReader) (move : PlacedStep Token) (rest : List Seen) → old.rest ≡ rest
    → StandsForReader old r → (move ≡ Err Finished → old.around ≡ []) → MakesMove old move new → SimulatesIn move old r new
step_by_rest old new r move [] e s outermost h =
    end_simulates s e move new (last_block old.blocks) refl outermost
    (subst (λ (left : List Seen). Makes (note_of old.dead_for_good old.blocks left) (block_change_at (sight_of left))
    (move_of old.rules old.dead_for_good old.blocks left) old move new) e h)
step_by_rest old new r move (x ∷ rest) e s outermost h =
    let some : old.rest ≢ [] = λ none. some_there x rest (sym e ∙ none) in
    sight_simulates (to_reading s some) some move new (is_live_among old.dead_for_good old.blocks) refl (sight_of old.rest) refl h
  where
    some_there : (x : Seen) (rest : List Seen) → x ∷ rest ≡ [] → ⊥
    some_there x rest bad = cc

step_simulates : (old new : Source) (r : SourceReader) (move : PlacedStep Token) (spent : Bool) → StandsForReader old r → old.spent ≡ spent
    → wants_memory move ≡ false → (move ≡ Err Finished → (old.spent ≡ true) ⊎ (old.around ≡ []))
    → MatchBool spent ((move ≡ Err Finished) × (new ≡ old)) (IsRefusedStep old move ⊎ MakesMove old move new) → SimulatesIn move old r new
step_simulates old new r move true s is reported ends h = let e = s.unspent in cc
step_simulates old new r move false s is reported ends (inl h) =
    let bad : true ≡ false = rw h.fault at reported in
    cc
step_simulates old new r move false s is reported ends (inr h) =
    step_by_rest old new r move old.rest refl s (λ end. outermost (ends end)) h
  where
    outermost : (old.spent ≡ true) ⊎ (old.around ≡ []) → old.around ≡ []
    outermost (inl spent) = let bad : true ≡ false = sym spent ∙ is in cc
    outermost (inr none) = none

-- each step of a source, but for a refusal of memory, is one of the reader that it stands for
pub source_simulates : SourceSimulates
source_simulates old new r step stands (reads given steps reports outermost is) reported =
    rw is (step_simulates old new r given old.spent stands refl (sym (unpainted_wants old.text given) ∙ ap wants_memory (sym is) ∙ reported) outermost steps)
source_simulates old new r step stands (leaves outer around over is pause after) reported =
    rw pause (leaving_simulates stands over.rest (ap last_block over.blocks) outer around new is after)
