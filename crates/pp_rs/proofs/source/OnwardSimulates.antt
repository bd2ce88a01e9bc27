-- Each step of the preprocessor's source is a step of reading on, also in what it says of the texts that are dead.
use Rattle.std.proofs.Common.{◌≡◌, ◌≢◌, ◌∙◌, inl, inr, ◌⊎◌, ℕ, ◌≤◌, Bool, true, false, ◌||◌, ◌&&◌, if◌then◌else◌, List, [], ◌∷◌, length, drop, refl, ap, sym, subst, Option, Some, None, ne_eqb, eq-eqb, arith}
use Rattle.std.specs.Prelude.{Ok, Err, ◌==◌, nat_lt, MatchBool}
use Rattle.std.specs.List.{AllByRecursion as Each, list_any}
use Rattle.std.proofs.Math.Bool.{and-false}
use Rattle.pp_lexer.specs.Lexed.{Seen}
use Rattle.pp_lexer.specs.declared.rules.Rules.{Rules}
use Rattle.pp_lexer.specs.declared.token.Token.{Token}
use Rattle.pp_model.specs.Faults.{makes_dead}
use Rattle.pp_model.specs.Moves.{BlockFacts}
use Rattle.pp_model.specs.Emitting.{answers_at, expansion_limit}
use Rattle.pp_model.specs.Onward.{Onward, dead_blocks, dead_after, is_of_items, StepsOn, passed, faulty}
use Rattle.pp_model.specs.Places.{PlacedFault}
use Rattle.pp_model.specs.Sights.{sight_of}
use Rattle.pp_model.specs.SourceReader.{SourceReader, suspended_of}
use Rattle.pp_model.specs.declared.directive.Directive.TheVariants as d
use Rattle.pp_model.specs.declared.sight.Sight.{Sight}
use Rattle.pp_model.specs.declared.sight.Sight.TheVariants as sight
use Rattle.pp_model.specs.declared.read.Read.{Read}
use Rattle.pp_model.specs.declared.read.Taken.{Taken}
use Rattle.pp_model.specs.declared.read.Taken.TheVariants as taken
use Rattle.pp_macros.specs.Item.{PlacedStep, wants_memory}
use Rattle.pp_directives.specs.inner.Suspending.{suspended}
use Rattle.pp_macros.specs.inner.Faults.{left_at}
use Rattle.pp_macros.specs.inner.OpenBlocks.{facts_among, is_live_among}
use Rattle.pp_macros.specs.inner.Reader.{ReadsSource, reads, leaves}
use Rattle.pp_macros.specs.inner.Reading.{unpainted_step}
use Rattle.pp_macros.specs.inner.Source.{SuspendedText, Source, left_of_line, MakesMove, IsRefusedStep, resumed}
use Rattle.pp_macros.specs.declared.step.PlacedExit.TheVariants.{Error, Continue, Finished}
use Rattle.pp_rs.specs.inner.StandsPast.{dead_count}
use Rattle.pp_rs.specs.inner.Stands.{StandsForText, StandsForReader, IsDeadIn, AreNumbered, StandsOnward}
use Rattle.pp_rs.proofs.source.AfterFaultLemmas.{still_reading}
use Rattle.pp_rs.proofs.source.FaultLengthLemmas.{facts_kept}
use Rattle.pp_rs.proofs.source.EndSimulates.{remembers, not_of_items}
use Rattle.pp_rs.proofs.source.MovedLemmas.{SameText, AsksIfFault, Moved, kept, fallen, over, moved}
use Rattle.pp_rs.proofs.source.Simulates.{GoesOn, went, fell, Simulated, SimulatesIn, given_by}
use Rattle.pp_rs.proofs.source.SourceSimulates.{to_reading, source_simulates}
use Rattle.pp_rs.proofs.source.StepHereLemmas.{of_items}
use Rattle.pp_rs.proofs.source.UnpaintedLemmas.{unpainted_wants}

-- what is in front makes the rest of its text dead, by the definitions and by what is kept
module _ (rules : Rules) (after : List Seen) where
  dead_alike : (live : Bool) (block : Option BlockFacts) (s : Sight) → makes_dead block s ≡ (left_at rules live block s after).is_dead
  dead_alike live None (sight.Directive d.Elif word) = refl
  dead_alike live (Some block) (sight.Directive d.Elif word) = refl
  dead_alike live None (sight.Directive d.Endif word) = refl
  dead_alike live (Some block) (sight.Directive d.Endif word) = refl
  dead_alike true None (sight.Directive _ word) = refl
  dead_alike true (Some block) (sight.Directive _ word) = refl
  dead_alike false None (sight.Directive _ word) = refl
  dead_alike false (Some block) (sight.Directive _ word) = refl
  dead_alike live None _ = refl
  dead_alike live (Some block) _ = refl

-- the reader goes on, and the source stands for it
pub record OnwardStep (given : Option Taken) (onward : Onward) (new : Source) : Type 0 where
  pub after : Onward
  pub steps : StepsOn (answers_at expansion_limit) onward given after
  pub stands : StandsOnward new after

-- a text of a higher number that is dead says nothing of these
dead_around : (text : ℕ) (dead : List ℕ) (within : ℕ) (around : List SuspendedText) → within ≤ text → AreNumbered within around
    → Each (IsDeadIn dead) around → Each (IsDeadIn (text ∷ dead)) around
dead_around text dead within [] h numbered all = tt
dead_around text dead within (first ∷ more) h numbered all = (
  ap (λ found. found || list_any (λ t. t == first.text) dead) (ne_eqb text first.text (λ e. absurd (omega (arith, h, numbered.0, e)))) ∙ all.0,
  dead_around text dead first.text more (omega (arith, h, numbered.0)) numbered.1 all.1,
)

module _ {old : Source} {o : Onward} (s : StandsOnward old o) {new : Source} {t : SourceReader} (same : SameText old new) (stands : StandsForReader new t) where
  alike_by : (dead : List ℕ) → list_any (λ text. text == old.text) dead ≡ new.dead_for_good → Each (IsDeadIn dead) old.around
      → Each (λ text. text ≤ old.contents) dead → StandsOnward new (record { reader = t; dead = dead })
  alike_by dead here around known = record {
    reader = stands;
    dead = (
      ap (λ (n : ℕ). list_any (λ text. text == n) dead) same.text ∙ here,
      subst (λ (texts : List SuspendedText). Each (IsDeadIn dead) texts) (sym same.around) around,
    );
    numbered = subst (λ (texts : List SuspendedText). AreNumbered new.text texts) (sym same.around)
        (subst (λ (n : ℕ). AreNumbered n old.around) (sym same.text) s.numbered);
    read = omega (arith, s.read, same.text, same.contents);
    known = subst (λ (n : ℕ). Each (λ text. text ≤ n) dead) (sym same.contents) known;
  }

  -- where nothing becomes dead
  still_onward : new.dead_for_good ≡ old.dead_for_good → StandsOnward new (record { reader = t; dead = o.dead })
  still_onward is = alike_by o.dead (s.dead.0 ∙ sym is) s.dead.1 s.known

  -- after a fault that may make the rest dead
  fallen_onward : (makes : Bool) → new.dead_for_good ≡ (makes || old.dead_for_good)
      → StandsOnward new (record { reader = t; dead = if makes then old.text ∷ o.dead else o.dead })
  fallen_onward false is = still_onward is
  fallen_onward true is =
      alike_by (old.text ∷ o.dead)
      (ap (λ found. found || list_any (λ text. text == old.text) o.dead) (eq-eqb old.text old.text refl) ∙ sym is)
      (dead_around old.text o.dead old.text old.around (omega arith) s.numbered s.dead.1) (s.read, s.known)

-- what is given is no fault of the items where a fault asks for a text
quiet_given : (r : SourceReader) (text : ℕ) (step : PlacedStep Token) → AsksIfFault step → is_of_items r (given_by (unpainted_step text step)) ≡ false
quiet_given r text (Ok token) quiet = refl
quiet_given r text (Err Continue) quiet = refl
quiet_given r text (Err Finished) quiet = refl
quiet_given r text (Err (Error fault)) quiet =
    ap (λ none. nat_lt r.position (length r.items) && none) quiet ∙ and-false (nat_lt r.position (length r.items))

module _ {old : Source} {o : Onward} (s : StandsOnward old o) where
  -- nor where no item is left
  over_given : old.rest ≡ [] → (step : PlacedStep Token) → is_of_items o.reader (given_by (unpainted_step old.text step)) ≡ false
  over_given none (Ok token) = refl
  over_given none (Err Continue) = refl
  over_given none (Err Finished) = refl
  over_given none (Err (Error fault)) = not_of_items s.reader none fault

  same_count : dead_blocks o ≡ dead_count old.dead_for_good
  same_count = ap (λ (found : Bool). if found then 1 else 0)
      (ap (λ (n : ℕ). list_any (λ text. text == n) o.dead) (remembers s.reader.here).text ∙ s.dead.0)

  by_count : {given : Option Taken} {t : SourceReader} → GoesOn (dead_count old.dead_for_good) o.reader given t → GoesOn (dead_blocks o) o.reader given t
  by_count {given} {t} goes = subst (λ (n : ℕ). GoesOn n o.reader given t) (sym same_count) goes

  pass : (given : Option Taken) (t : SourceReader) → GoesOn (dead_blocks o) o.reader given t → is_of_items o.reader given ≡ false
      → StepsOn (answers_at expansion_limit) o given (record { reader = t; dead = o.dead })
  pass given t (went does quiet) is = passed given t o (record { reader = t; dead = o.dead }) does quiet refl
  pass given t (fell fault u does loud some past) is = let bad : true ≡ false = sym loud ∙ is in cc

  -- the same text becomes dead, or none
  dead_here : old.rest ≢ [] → dead_after (dead_blocks o) o.reader o.dead ≡ (if (left_of_line old).is_dead then old.text ∷ o.dead else o.dead)
  dead_here some =
      let here : StandsForText (suspended old) (suspended_of o.reader) = still_reading s.reader.here some in
      ap (λ (n : ℕ). dead_after n o.reader o.dead) same_count
      ∙ ap (λ (facts : Option BlockFacts). if makes_dead facts (sight_of (drop o.reader.position o.reader.items)) then o.reader.text ∷ o.dead else o.dead)
      (facts_kept o.reader here)
      ∙ ap (λ (rest : List Seen). if makes_dead (facts_among old.blocks) (sight_of rest) then o.reader.text ∷ o.dead else o.dead) (sym here.rest)
      ∙ ap (λ (makes : Bool). if makes then o.reader.text ∷ o.dead else o.dead)
      (dead_alike old.rules (drop 2 old.rest) (is_live_among old.dead_for_good old.blocks) (facts_among old.blocks) (sight_of old.rest))
      ∙ ap (λ (text : ℕ). if (left_of_line old).is_dead then text ∷ o.dead else o.dead) here.text

  fall : (fault : PlacedFault) (t : SourceReader) → GoesOn (dead_blocks o) o.reader (Some (taken.Fault fault)) t
      → is_of_items o.reader (Some (taken.Fault fault)) ≡ true
      → StepsOn (answers_at expansion_limit) o (Some (taken.Fault fault)) (record { reader = t; dead = dead_after (dead_blocks o) o.reader o.dead })
  fall fault t (went does quiet) is = let bad : true ≡ false = sym is ∙ quiet in cc
  fall fault t (fell other u does loud some past) is =
      faulty u t (Some (taken.Fault fault)) o (record { reader = t; dead = dead_after (dead_blocks o) o.reader o.dead }) does loud past refl

  module _ (new : Source) where
    -- a fault of the items
    fallen_step : (fault : PlacedFault) → fault.1.asks ≡ None → old.rest ≢ [] → SameText old new
        → new.dead_for_good ≡ ((left_of_line old).is_dead || old.dead_for_good)
        → Simulated (Some (taken.Fault fault)) old o.reader new → OnwardStep (Some (taken.Fault fault)) o new
    fallen_step fault asks some same is m = record {
      after = record { reader = m.after; dead = dead_after (dead_blocks o) o.reader o.dead };
      steps = fall fault m.after (by_count m.goes) (of_items (to_reading s.reader some) some fault asks);
      stands = subst (λ (dead : List ℕ). StandsOnward new (record { reader = m.after; dead = dead })) (sym (dead_here some))
          (fallen_onward s same m.stands (left_of_line old).is_dead is);
    }

    moved_step : (step : PlacedStep Token) → Moved old step new → SimulatesIn step old o.reader new
        → OnwardStep (given_by (unpainted_step old.text step)) o new
    moved_step step (kept same is quiet) m = record {
      after = record { reader = m.after; dead = o.dead };
      steps = pass (given_by (unpainted_step old.text step)) m.after (by_count m.goes) (quiet_given o.reader old.text step quiet);
      stands = still_onward s same m.stands is;
    }
    moved_step step (over none same is) m = record {
      after = record { reader = m.after; dead = o.dead };
      steps = pass (given_by (unpainted_step old.text step)) m.after (by_count m.goes) (over_given none step);
      stands = still_onward s same m.stands is;
    }
    moved_step step (fallen fault made asks some same is) m =
        subst (λ (given : PlacedStep Token). SimulatesIn given old o.reader new → OnwardStep (given_by (unpainted_step old.text given)) o new) (sym made)
        (fallen_step fault asks some same is) m

  -- back in the text around
  left_step : (outer : SuspendedText) (around : List SuspendedText) (new : Source) → old.around ≡ outer ∷ around → new ≡ resumed outer around old
      → Simulated None old o.reader new → OnwardStep None o new
  left_step outer around new is after m =
      let dead : Each (IsDeadIn o.dead) (outer ∷ around) = subst (λ (texts : List SuspendedText). Each (IsDeadIn o.dead) texts) is s.dead.1 in
      let numbered : AreNumbered old.text (outer ∷ around) = subst (λ (texts : List SuspendedText). AreNumbered old.text texts) is s.numbered in
      record {
        after = record { reader = m.after; dead = o.dead };
        steps = pass None m.after (by_count m.goes) refl;
        stands = subst (λ (source : Source). StandsOnward source (record { reader = m.after; dead = o.dead })) (sym after) (record {
          reader = subst (λ (source : Source). StandsForReader source m.after) after m.stands;
          dead = dead;
          numbered = numbered.1;
          read = omega (arith, numbered.0, s.read);
          known = s.known;
        });
      }

-- a step that wasn't refused is a move
move_there : (old new : Source) (given : PlacedStep Token) (spent : Bool) → old.spent ≡ spent → old.spent ≡ false → wants_memory given ≡ false
    → MatchBool spent ((given ≡ Err Finished) × (new ≡ old)) (IsRefusedStep old given ⊎ MakesMove old given new) → MakesMove old given new
move_there old new given true e unspent reported h = let bad : true ≡ false = sym e ∙ unspent in cc
move_there old new given false e unspent reported (inl h) =
    let bad : true ≡ false = rw h.fault at reported in
    cc
move_there old new given false e unspent reported (inr h) = h

-- Each step of a source, but for a refusal of memory, is one of the reader that goes on for which it stands.
pub source_goes_on : (old new : Source) (o : Onward) (step : PlacedStep Read) → StandsOnward old o → ReadsSource old step new
    → wants_memory step ≡ false → OnwardStep (given_by step) o new
source_goes_on old new o step s (reads given steps reports outermost is) reported =
    let quiet : wants_memory (unpainted_step old.text given) ≡ false = ap wants_memory (sym is) ∙ reported in
    let move : MakesMove old given new =
    move_there old new given old.spent refl s.reader.unspent (sym (unpainted_wants old.text given) ∙ quiet) steps in
    subst (λ (found : PlacedStep Read). OnwardStep (given_by found) o new) (sym is)
    (moved_step s new given (moved old new given move)
    (source_simulates old new o.reader (unpainted_step old.text given) s.reader (reads given steps reports outermost refl) quiet))
source_goes_on old new o step s (leaves outer around ended is pause after) reported =
    let quiet : wants_memory {T = Read} (Err Continue) ≡ false = ap wants_memory (sym pause) ∙ reported in
    subst (λ (found : PlacedStep Read). OnwardStep (given_by found) o new) (sym pause)
    (left_step s outer around new is after (source_simulates old new o.reader (Err Continue) s.reader (leaves outer around ended is refl after) quiet))
