-- What the reader that a source stands for does at its position: the source's move, and the step for that move.
use Rattle.std.proofs.Common.{◌≡◌, ◌≢◌, ◌∙◌, ℕ, ◌<◌, Bool, true, false, ◌&&◌, List, [], ◌∷◌, length, refl, ap, sym, subst, Option, Some, None, arith, length-drop}
use Rattle.std.specs.Prelude.{Err, is_none}
use Rattle.std.proofs.lemmas.Bool.{lt-ltb}
use Rattle.pp_lexer.specs.Lexed.{Seen}
use Rattle.pp_lexer.specs.declared.rules.Rules.{Rules}
use Rattle.pp_lexer.specs.declared.token.Token.{Token}
use Rattle.pp_model.specs.Painting.{taken_of}
use Rattle.pp_model.specs.Places.{Fault, PlacedFault, placed}
use Rattle.pp_model.specs.Faults.{facts_past, move_past, after_fault}
use Rattle.pp_model.specs.Onward.{act_on, is_of_items, IsPastFault}
use Rattle.pp_model.specs.Sights.{sight_of}
use Rattle.pp_model.specs.SourceReader.{SourceReader}
use Rattle.pp_model.specs.Moves.{move_at}
use Rattle.pp_model.specs.Acts.{Acted, pause_at, outcome_at, advanced_by, perform}
use Rattle.pp_model.specs.inner.Acts.{items_left, after_line}
use Rattle.pp_model.specs.Emitting.{answers_at, expansion_limit}
use Rattle.pp_model.specs.Reads.{Does}
use Rattle.pp_model.specs.declared.read.Taken.{Taken}
use Rattle.pp_model.specs.declared.read.Taken.TheVariants as taken
use Rattle.pp_model.specs.declared.outcome.Outcome.{Outcome}
use Rattle.pp_model.specs.declared.outcome.Outcome.TheVariants as outcome
use Rattle.pp_model.specs.declared.sight.Sight.{Sight}
use Rattle.pp_model.specs.declared.step.Step.{Step as Did}
use Rattle.pp_macros.specs.Item.{PlacedStep}
use Rattle.pp_macros.specs.inner.OpenBlocks.{facts_among, is_live_among}
use Rattle.pp_macros.specs.inner.Source.{Source, IsAfterFault}
use Rattle.pp_macros.specs.declared.step.PlacedExit.TheVariants.{Error}
use Rattle.pp_rs.specs.inner.StandsPast.{dead_count}
use Rattle.pp_rs.specs.inner.Stands.{reading, StandsReading, StandsForReader}
use Rattle.pp_rs.proofs.source.AfterFaultLemmas.{after_fault_stands}
use Rattle.pp_rs.proofs.source.FaultLengthLemmas.{CanFail, fault_there, live_kept, facts_kept}
use Rattle.pp_rs.proofs.source.LinePlaces.{whole_line, PausesAt}
use Rattle.pp_rs.proofs.source.Simulates.{acts_past, GoesOn, went, fell, SimulatesIn}

-- what stands for a reader of which nothing was reported stands for it
pub of_reading : {old : Source} {r : SourceReader} → StandsReading old r → StandsForReader old r
of_reading s = record {
  rules = s.rules;
  here = reading _ _ s.here;
  around = s.around;
  earlier = s.earlier;
  definitions = s.definitions;
  contents = s.contents;
  unspent = s.unspent;
}

-- where items are left, they are moved over
act_some : (n : ℕ) (rest : List Seen) (r : SourceReader) → rest ≢ [] → act_on n rest r ≡ perform (move_past n r rest) r
act_some n [] r some = absurd (some refl)
act_some n (s ∷ rest) r some = refl

some_length : {X : Type 0} (xs : List X) → xs ≢ [] → 0 < length xs
some_length [] some = absurd (some refl)
some_length (x ∷ xs) some = omega arith

-- what the source's reader does
abbrev pub acts : Source → SourceReader → Acted
acts old r = acts_past (dead_count old.dead_for_good) r

module _ {old : Source} {r : SourceReader} (s : StandsReading old r) where
  -- a step that gives no fault of the items
  pub goes_by : {did : Did} {x : SourceReader} {given : Option Taken} {t : SourceReader} → acts old r ≡ record { step = did; after = x }
      → Does (answers_at expansion_limit) r did x given t → is_of_items r given ≡ false → GoesOn (dead_count old.dead_for_good) r given t
  goes_by {given = given} {t = t} a does quiet =
      went (subst (λ (acted : Acted). Does (answers_at expansion_limit) r acted.step acted.after given t) (sym a) does) quiet

  -- where nothing is given after a pause
  pub pauses_by : {t : SourceReader} → acts old r ≡ pause_at t → GoesOn (dead_count old.dead_for_good) r None t
  pauses_by a = goes_by a (refl, refl) refl

  -- the table is asked the same of the source and of its reader, so the move is the same
  pub act_here : {live : Bool} → is_live_among old.dead_for_good old.blocks ≡ live → {shown : Sight} → sight_of old.rest ≡ shown → old.rest ≢ []
      → acts old r ≡ perform (move_at old.rules live (facts_among old.blocks) shown old.rest) r
  act_here {live} alive {shown} e some =
      let n = dead_count old.dead_for_good in
      ap (λ rest. act_on n rest r) (sym s.here.rest) ∙ act_some n old.rest r some
      ∙ ap (λ now. perform (move_at r.rules now (facts_past n r) (sight_of old.rest) old.rest) r) (live_kept r s.here ∙ alive)
      ∙ ap (λ facts. perform (move_at r.rules live facts (sight_of old.rest) old.rest) r) (facts_kept r s.here)
      ∙ ap (λ sight. perform (move_at r.rules live (facts_among old.blocks) sight old.rest) r) e
      ∙ ap (λ (rules : Rules). perform (move_at rules live (facts_among old.blocks) shown old.rest) r) s.rules

  -- the reader's step gives what is given there
  pub gives_here : {o : Outcome} {t : SourceReader} → acts old r ≡ outcome_at o t → is_of_items r (Some (taken_of old.text o)) ≡ false
      → GoesOn (dead_count old.dead_for_good) r (Some (taken_of old.text o)) t
  gives_here {o} {t} a quiet = goes_by a (ap (λ (text : ℕ). Some (taken_of text o)) (sym s.here.text), refl) quiet

  -- what takes the source's whole line takes the reader's
  pub line_here : (next : ℕ → Acted) → acts old r ≡ next (whole_line old.rest) → acts old r ≡ next (whole_line (items_left r))
  line_here next a = a ∙ ap (λ rest. next (whole_line rest)) s.here.rest

  -- a fault of the items that are left, which asks for nothing
  pub of_items : old.rest ≢ [] → (fault : PlacedFault) → fault.1.asks ≡ None → is_of_items r (Some (taken.Fault fault)) ≡ true
  of_items some fault quiet =
      let left : 0 < length old.rest = some_length old.rest some in
      ap (λ found. found && is_none fault.1.asks)
      (lt-ltb r.position (length r.items) (omega (arith, left, ap length s.here.rest, length-drop r.position r.items)))
      ∙ ap is_none quiet

  -- a fault of the items that asks for no text
  pub falls_by : {did : Did} {x t : SourceReader} {fault : PlacedFault} (u : SourceReader) → old.rest ≢ [] → acts old r ≡ record { step = did; after = x }
      → Does (answers_at expansion_limit) r did x (Some (taken.Fault fault)) u → fault.1.asks ≡ None
      → IsPastFault (answers_at expansion_limit) (dead_count old.dead_for_good) r did t
      → GoesOn (dead_count old.dead_for_good) r (Some (taken.Fault fault)) t
  falls_by {t = t} {fault = fault} u some a does quiet past =
      fell fault u (subst (λ (acted : Acted). Does (answers_at expansion_limit) r acted.step acted.after (Some (taken.Fault fault)) u) (sym a) does)
      (of_items some fault quiet) refl
      (subst (λ (acted : Acted). IsPastFault (answers_at expansion_limit) (dead_count old.dead_for_good) r acted.step t) (sym a) past)

  module _ (move : PlacedStep Token) (new : Source) where
    -- after a fault of the source the reader is past it
    pub fault_stands : CanFail old.rules (is_live_among old.dead_for_good old.blocks) (sight_of old.rest) → IsAfterFault old new
        → StandsForReader new (after_fault (dead_count old.dead_for_good) r)
    fault_stands can left = after_fault_stands (of_reading s) can left

    -- where a fault is given, the step that gives it is the reader's
    pub fails_here : {fault : Fault} {t : SourceReader} → acts old r ≡ outcome_at (outcome.Fault fault) t
        → CanFail old.rules (is_live_among old.dead_for_good old.blocks) (sight_of old.rest)
        → move ≡ Err (Error (placed old.text fault)) → IsAfterFault old new → SimulatesIn move old r new
    fails_here {fault} {t} a can m left =
        rw m (record {
          after = after_fault (dead_count old.dead_for_good) r;
          goes = falls_by t (fault_there old.rules (is_live_among old.dead_for_good old.blocks) old.rest can) a
              (ap (λ (text : ℕ). Some (taken_of text (outcome.Fault fault))) (sym s.here.text), refl) refl refl;
          stands = fault_stands can left;
        })

    -- where nothing is given, a pause is the reader's step
    pub pauses_here : {t : SourceReader} → acts old r ≡ pause_at t → PausesAt move new t → SimulatesIn move old r new
    pauses_here {t} a h = rw h.0 (record { after = t; goes = pauses_by a; stands = of_reading h.1 })

    -- where nothing is given after a line, a pause is the reader's step
    pub passes_line : acts old r ≡ pause_at (advanced_by (whole_line old.rest) r) → PausesAt move new (after_line r) → SimulatesIn move old r new
    passes_line a h = pauses_here (line_here (λ n. pause_at (advanced_by n r)) a) h
