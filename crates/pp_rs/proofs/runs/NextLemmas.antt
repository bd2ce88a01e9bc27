-- What the loop of `next` has reached, and what its result means for the state in which it began.
use Rattle.std.proofs.Common.{ℕ, ◌≡◌, ◌∙◌, ◌<◌, ◌≤◌, ◌⊎◌, inl, inr, Bool, true, false, if◌then◌else◌, List, [], ◌∷◌, refl, sym, ap, subst, Option, Some, None, arith}
use Rattle.std.specs.Prelude.{Ok, Err, MatchBool, unwrap_or, IsSome}
use Rattle.pp_lexer.specs.PreprocessorError.{out_of_memory}
use Rattle.pp_lexer.specs.declared.rules.Rules.{Rules}
use Rattle.pp_lexer.specs.declared.token.Location.{Location}
use Rattle.pp_lexer.specs.declared.token.PreprocessorError.{PreprocessorError}
use Rattle.pp_model.specs.Places.{PlacedFault, fault_in, unplaced}
use Rattle.pp_model.specs.declared.read.Read.{Read}
use Rattle.pp_model.specs.Emitting.{Emits, answers_at, expansion_limit}
use Rattle.pp_model.specs.Painting.{fault_item, item_of}
use Rattle.pp_model.specs.declared.read.Taken.{Taken}
use Rattle.pp_model.specs.declared.read.Taken.TheVariants as taken
use Rattle.pp_model.specs.Reading.{Expander}
use Rattle.pp_model.specs.Onward.{Onward}
use Rattle.pp_model.specs.declared.splice.CallPlace.{CallPlace}
use Rattle.pp_rs.specs.Comes.{Comes, source_rules}
use Rattle.pp_rs.specs.inner.Fit.{IsFit, IsReported, AsksRightly}
use Rattle.pp_macros.specs.Held.{HoldsOrdinary}
use Rattle.pp_macros.specs.Item.{Item, PlacedStep, is_out_of_memory, wants_memory}
use Rattle.pp_macros.specs.inner.CallTurns.{TakesSomething}
use Rattle.pp_macros.specs.inner.Left.{work_of}
use Rattle.pp_macros.specs.LexerErrors.{ErrorAt, PassesErrors}
use Rattle.pp_macros.specs.inner.Expander as kept
use Rattle.pp_macros.specs.inner.Expander.{kept_call}
use Rattle.pp_macros.specs.inner.Frames.{outermost_frame_call}
use Rattle.pp_macros.specs.inner.Reader.{of_source}
use Rattle.pp_macros.specs.inner.Source.{Source}
use Rattle.pp_rs.specs.inner.AllTexts.{all_unreported}
use Rattle.pp_rs.specs.inner.SourceTurns.{TurnsSource, StepsOver}
use Rattle.pp_rs.specs.inner.Stands.{StandsOnward, StandsFor}
use Rattle.pp_rs.specs.Kept.{LastItem, Preprocessing, Stands, is_spent, most_items, errors_left, error_place, asked_line, call_or, call_place, from_text, last_error, item_text, rules_of}
use Rattle.pp_rs.specs.Preprocessing.{Asks, outcome_of, is_unknown_directive, IsLessLeft, IsErrorAt, of_lexer, of_its_own, IsRefusedItem, IsGivenItem, IsNextItem}
use Rattle.pp_macros.specs.inner.Unreported.{with_read}
use Rattle.pp_macros.specs.declared.step.PlacedExit.TheVariants.{Error, Continue, Finished}
use Rattle.pp_directives.proofs.PassedErrorsLemmas.{passes_none}
use Rattle.pp_rs.proofs.runs.CallPlaceLemmas.{free_call}
use Rattle.pp_rs.proofs.runs.Leads.{LeadsFrom, Leads, leads_then}
use Rattle.pp_rs.proofs.runs.LeftLemmas.{SomethingLeft, some_left, left_is_work, no_work}
use Rattle.pp_rs.proofs.runs.AsksLemmas.{turn_asks}
use Rattle.pp_rs.proofs.runs.UnreportedTurnLemmas.{errors_of, ErrorsLeft, left_then, left_rules, turn_errors}
use Rattle.pp_rs.proofs.runs.SourceTurnLemmas.{turned_source, source_fits, source_lowers, source_ends, source_some, source_turn_leads}

-- what is given next comes next
abbrev comes : (e f : Expander Onward) (x : Taken) → Emits source_rules (answers_at expansion_limit) e x f → Comes e (item_of x) f
comes e f x emits = record { taken = x; emits = emits; is = refl }

-- the error of a fault in a call is that of the fault
unplaced_found : (k : Option CallPlace) (fault : PlacedFault) → unplaced (fault_in k fault) ≡ unplaced fault
unplaced_found (Some call) fault = refl
unplaced_found None fault = refl

-- and so is what it asks for
asks_found : (k : Option CallPlace) (fault : PlacedFault) → (fault_in k fault).1.asks ≡ fault.1.asks
asks_found (Some call) fault = refl
asks_found None fault = refl

-- the outcome of an error that asks for this, or for nothing, is its item
outcome_found : (k : Option CallPlace) (fault : PlacedFault) (asked : Option Location)
    → outcome_of (Some (Err (unplaced fault))) asked ≡ fault_item (fault_in k fault) asked
outcome_found (Some call) fault (Some rest) = refl
outcome_found (Some call) fault None = refl
outcome_found None fault (Some rest) = refl
outcome_found None fault None = refl

some_asked : (o : Option Location) (rest : Location) → o ≡ Some rest → IsSome o
some_asked o rest e = rw e refl

-- a fault that asks rightly is an error item that does
asks_item : (rules : Rules) (fault : PlacedFault) (asked : Option Location) → asked ≡ fault.1.asks → AsksRightly rules fault
    → Asks rules (Some (Err (unplaced fault))) asked
asks_item rules fault None same rightly = tt
asks_item rules fault (Some rest) same rightly =
    let h = rightly (some_asked fault.1.asks rest (sym same)) in
    (h.0, ap (λ (e : PreprocessorError). is_unknown_directive (Some (Err (e, fault.1.location)))) h.1)

-- the place of an error that was read says nothing of what stands
reader_reported : (source : Source) (o : Onward) → StandsOnward source o → StandsOnward (record source { error_place = None }) o
reader_reported source o s = record {
  reader = record {
    rules = s.reader.rules;
    here = s.reader.here;
    around = s.reader.around;
    earlier = s.reader.earlier;
    definitions = s.reader.definitions;
    contents = s.reader.contents;
    unspent = s.reader.unspent;
  };
  dead = s.dead;
  numbered = s.numbered;
  read = s.read;
  known = s.known;
}

stands_reported : (m : kept.Expander) (source : Source) (e : Expander Onward) → StandsFor m source e
    → StandsFor m (record source { error_place = None }) e
stands_reported m source e s =
    record { held = s.held; list = s.list; reader = reader_reported source e.reader s.reader; hidden = s.hidden; goes = s.goes }

-- a state from which the same comes next as from the first, by these rules
pub record Reached (rules : Rules) (expander : kept.Expander) (source : Source) (expander_now : kept.Expander) (source_now : Source) : Type 0 where
  pub fit : IsFit expander_now source_now
  pub leads : Leads (answers_at expansion_limit) expander source (Err Continue) None expander_now source_now
  pub left : SomethingLeft expander_now source_now → SomethingLeft expander source
  pub less : work_of expansion_limit expander_now (of_source source_now) ≤ work_of expansion_limit expander (of_source source)
  pub reported : IsReported rules expander_now source_now
  pub errors : PassesErrors rules.passes_dead_errors (errors_of expander source) (errors_of expander_now source_now)

-- the state that it begins in
pub reached_first : {rules : Rules} (expander now : kept.Expander) (source source_now : Source) → now ≡ expander → source_now ≡ source → IsFit now source_now
    × IsReported rules now source_now → Reached rules expander source now source_now
reached_first {rules} expander now source source_now e f fit = rw (e, f) (record {
  fit = rw (e, f) at fit.0;
  leads = record { from = λ s stands. (s, stands, λ x g emits. (emits, refl)) };
  left = λ left. left;
  less = omega arith;
  reported = rw (e, f) at fit.1;
  errors = passes_none rules.passes_dead_errors _ _ refl;
})

module _ {rules : Rules} (expander now after : kept.Expander) (source source_now source_after : Source) (r : Reached rules expander source now source_now) where
  -- what is kept after the turn
  abbrev pub kept_with : Source → Bool → Location → LastItem → Option CallPlace → Preprocessing
  kept_with source spent place last call =
      record { expander = after; source = source; spent = spent; place = place; last = last; name_call = call; rules = rules }

  abbrev pub Over : PlacedStep Read → Type 0
  Over step = StepsOver expansion_limit now source_now step after source_after

  turned : (step : PlacedStep Read) → Over step → wants_memory step ≡ false → TurnsSource expansion_limit now source_now step after source_after
  turned step h reported = turned_source expansion_limit now after source_now source_after step h reported

  falls : (step : PlacedStep Read) → Over step → wants_memory step ≡ false → (step ≡ Err Finished → ⊥)
      → work_of expansion_limit after (of_source source_after) < work_of expansion_limit now (of_source source_now)
  falls step h reported goes = source_lowers expansion_limit now source_now source_after r.fit step after (turned step h reported) reported goes

  -- where a turn isn't the end, something was left at first
  left_now : (step : PlacedStep Read) → Over step → (step ≡ Err Finished → ⊥) → SomethingLeft expander source
  left_now step (inl h) goes = r.left (some_left now source_now r.fit.unspent (source_some expansion_limit now after source_now source_after step h goes))
  left_now step (inr h) goes = r.left (some_left now source_now r.fit.unspent h.some)

  leads_last : (step : PlacedStep Read) → Over step → wants_memory step ≡ false
      → Leads (answers_at expansion_limit) expander source step (outermost_frame_call now.frames) after source_after
  leads_last step h reported =
      leads_then (answers_at expansion_limit) expander now after source source_now source_after step None (outermost_frame_call now.frames) r.leads
      (source_turn_leads expansion_limit now after source_now source_after step r.fit (turned step h reported) reported)

  -- what a turn leaves of the errors of the lexer
  errors_last : (step : PlacedStep Read) → Over step → wants_memory step ≡ false → ErrorsLeft rules step (errors_of expander source) after source_after
  errors_last step h reported =
      left_then rules step _ _ after source_after r.errors
      (turn_errors rules expansion_limit now after source_now source_after step (turned step h reported) reported r.reported)

  fits : (step : PlacedStep Read) → Over step → wants_memory step ≡ false → IsFit after source_after
  fits step h reported =
      source_fits expansion_limit now source_now source_after r.fit step after (turned step h reported) reported
      (left_rules rules step _ after source_after (errors_last step h reported) ∙ sym r.reported.1)

  -- a pause
  pub reached_more : Over (Err Continue) → Reached rules expander source after source_after
  reached_more h =
      let less = falls (Err Continue) h refl (λ e. cc) in
      record {
        fit = fits (Err Continue) h refl;
        leads = record { from = (leads_last (Err Continue) h refl).from };
        left = λ left. left_now (Err Continue) h (λ e. cc);
        less = omega (arith, less, r.less);
        reported = (errors_last (Err Continue) h refl).0;
        errors = (errors_last (Err Continue) h refl).1;
      }

  pub falls_more : Over (Err Continue) → work_of expansion_limit after (of_source source_after) < work_of expansion_limit now (of_source source_now)
  falls_more h = falls (Err Continue) h refl (λ e. cc)

  -- what holds after a token, after the end and after a fault, whose place was taken
  pub token_fits : (read : Read) → Over (Ok read) → IsFit after source_after × IsReported rules after source_after
  token_fits read h = (fits (Ok read) h refl, (errors_last (Ok read) h refl).0)

  pub end_fits : Over (Err Finished) → IsFit after source_after × IsReported rules after source_after
  end_fits h = (fits (Err Finished) h refl, (errors_last (Err Finished) h refl).0)

  pub fault_fits : (fault : PlacedFault) (reported_source : Source) → reported_source ≡ record source_after { error_place = None }
      → Over (Err (Error fault)) → is_out_of_memory fault.0 ≡ false → IsFit after reported_source × IsReported rules after reported_source
  fault_fits fault reported_source is h reported =
      let fit = fits (Err (Error fault)) h reported in
      let left = errors_last (Err (Error fault)) h reported in
      rw is (
        record { unspent = fit.unspent; sound = fit.sound; last = rw left.0 tt; asks = fit.asks },
        (rw left.0 refl, left.2),
      )

  -- the answers from a state that isn't spent
  module _ (old : Preprocessing) (fresh : old.spent ≡ false) (starts : old.expander ≡ expander) (begins : old.source ≡ source)
      (ruled : rules ≡ old.rules) where
    stands_first : (e : Expander Onward) → Stands old e → StandsFor expander source e
    unfolding Stands
    stands_first e stands = subst (λ (s : Source). StandsFor expander s e) begins (subst (λ (m : kept.Expander). StandsFor m old.source e) starts stands)

    most_first : most_items old ≡ work_of expansion_limit expander (of_source source)
    unfolding most_items
    most_first = rw (fresh, starts, begins) refl

    as_next : (answer : Option Item) (new : Preprocessing) → IsRefusedItem answer new ⊎ IsGivenItem old answer new → IsLessLeft answer old new
        → new.rules ≡ old.rules → IsNextItem old answer new
    unfolding is_spent rules_of
    as_next answer new h less same = record {
      gives = subst (λ (b : Bool). MatchBool b ((answer ≡ None) × (new ≡ old)) (IsRefusedItem answer new ⊎ IsGivenItem old answer new)) (sym fresh) h;
      less_left = less;
      rules = same;
    }

    -- less is left after a token or a fault
    less_last : (step : PlacedStep Read) (place : Location) (last : LastItem) (call : Option CallPlace) → Over step → wants_memory step ≡ false → (step ≡ Err Finished → ⊥)
        → most_items (kept_with source_after false place last call) < most_items old
    unfolding most_items
    less_last step place last call turn reported goes =
        let lower = falls step turn reported goes in
        omega (arith, lower, r.less, most_first)

    errors_first : errors_left old ≡ errors_of expander source
    unfolding errors_left
    errors_first = rw (starts, begins) refl

    -- what is left of them
    passes_first : (left : List ErrorAt) → PassesErrors rules.passes_dead_errors (errors_of expander source) left
        → PassesErrors (rules_of old).passes_dead_errors (errors_left old) left
    unfolding rules_of
    passes_first left h =
        subst (λ (rs : Rules). PassesErrors rs.passes_dead_errors (errors_left old) left) ruled
        (subst (λ (es : List ErrorAt). PassesErrors rules.passes_dead_errors es left) (sym errors_first) h)

    pub next_token : (read : Read) (spent : Bool) (place : Location) (last : LastItem) (call : Option CallPlace) → spent ≡ false → place ≡ old.place
        → last ≡ from_text read.text
        → kept_call after.held call after.frames ≡ kept_call after.held (outermost_frame_call now.frames) after.frames → Over (Ok read)
        → HoldsOrdinary read.token.value
        → IsNextItem old (Some (Ok read.token)) (kept_with source_after spent place last call)
    unfolding Stands is_spent errors_left error_place call_place item_text asked_line
    next_token read true place last call fresh_now same of kept turn holds = cc
    next_token read false place last call fresh_now same of kept turn holds =
        as_next (Some (Ok read.token)) (kept_with source_after false place last call) (inr (record {
          item = λ e stands.
              let leads : LeadsFrom (answers_at expansion_limit) e (Ok read) (outermost_frame_call now.frames) after source_after =
              (leads_last (Ok read) turn refl).from e (stands_first e stands) in
              record { after = leads.0; emits = comes e leads.0 _ leads.1; text = ap (λ (o : LastItem). o.text) of; call = rw of (kept ∙ leads.3); goes_on = leads.2 };
          no_refusal = refl;
          asks = rw of tt;
          holds = holds;
          reports = record {
            left = errors_of after source_after;
            passes = passes_first (errors_of after source_after) (errors_last (Ok read) turn refl).1;
            reports = (refl, same);
          };
          spent = refl;
        })) (less_last (Ok read) place last call turn refl (λ e. cc)) ruled

    -- memory is refused, and there was something to take
    pub next_refused : TakesSomething now (of_source source_now) → (new : Preprocessing) → new.spent ≡ true → new.rules ≡ old.rules
        → IsNextItem old (Some (Err out_of_memory)) new
    unfolding is_spent most_items
    next_refused some new spent same =
        let left : SomethingLeft expander source = r.left (some_left now source_now r.fit.unspent some) in
        as_next (Some (Err out_of_memory)) new (inl (record { item = refl; spent = spent }))
        (rw spent (omega (arith, left_is_work expansion_limit expander source left, most_first))) same

    -- less is left after a pause
    pub less_more : (spent : Bool) (place : Location) (last : LastItem) (call : Option CallPlace) → spent ≡ false → Over (Err Continue)
        → most_items (record { expander = after; source = source_after; spent = spent; place = place; last = last; name_call = call; rules = rules }) < most_items old
    less_more true place last call fresh_now turn = cc
    less_more false place last call fresh_now turn = less_last (Err Continue) place last call turn refl (λ e. cc)

    -- before a pause something is left
    pub some_items : Over (Err Continue) → 0 < most_items old
    some_items turn = omega (arith, falls_more turn, r.less, most_first)

    end_last : (place : Location) (last : LastItem) (call : Option CallPlace) → Over (Err Finished)
        → most_items (kept_with source_after false place last call) ≡ 0
    unfolding most_items
    end_last place last call turn =
        let e = source_ends expansion_limit now source_now source_after r.fit after (turned (Err Finished) turn refl) in
        no_work expansion_limit after source_after e.0 e.1 e.2 e.3 e.4

    -- at the end each error was reported
    none_unreported : Over (Err Finished) → errors_of after source_after ≡ []
    none_unreported turn =
        let e = source_ends expansion_limit now source_now source_after r.fit after (turned (Err Finished) turn refl) in
        rw (e.0, e.2, e.4) refl

    -- if nothing is held, no call is kept for it
    pub free_kept_call : (o : Option (PlacedStep Read)) (call : Option CallPlace) → o ≡ None
        → kept_call o call after.frames ≡ kept_call o (outermost_frame_call now.frames) after.frames
    free_kept_call o call free = rw free refl

    end_free : Over (Err Finished) → after.held ≡ None
    end_free turn = (source_ends expansion_limit now source_now source_after r.fit after (turned (Err Finished) turn refl)).0

    pub next_end : (spent : Bool) (place : Location) (last : LastItem) (call : Option CallPlace) (text : ℕ) → spent ≡ false → place ≡ old.place → last ≡ from_text text
        → Over (Err Finished)
        → IsNextItem old None (kept_with source_after spent place last call)
    unfolding Stands is_spent errors_left error_place call_place asked_line
    next_end true place last call text fresh_now same of turn = cc
    next_end false place last call text fresh_now same of turn =
        as_next None (kept_with source_after false place last call) (inr (record {
          item = λ e stands.
              let leads : LeadsFrom (answers_at expansion_limit) e (Err Finished) (outermost_frame_call now.frames) after source_after =
              (leads_last (Err Finished) turn refl).from e (stands_first e stands) in
              record {
                after = leads.0;
                emits = comes e leads.0 _ leads.1;
                text = tt;
                call = rw of (free_kept_call after.held call (end_free turn) ∙ leads.3);
                goes_on = leads.2;
              };
          no_refusal = refl;
          asks = rw of tt;
          holds = tt;
          reports = record {
            left = errors_of after source_after;
            passes = passes_first (errors_of after source_after) (errors_last (Err Finished) turn refl).1;
            reports = (none_unreported turn, none_unreported turn, same);
          };
          spent = refl;
        })) (end_last place last call turn) ruled

    -- a fault is reported where it stands: the place that was taken is that of an error of the lexer
    module _ (fault : PlacedFault) (reported_source : Source) (place : Location) (last : LastItem) (call : Option CallPlace) (is : reported_source ≡ record source_after { error_place = None }) where
      error_reported : (taken : Option Location) (left : List ErrorAt)
          → place ≡ unwrap_or taken fault.1.location → errors_left (kept_with reported_source false place last call) ≡ left
          → IsErrorAt (unplaced fault) (with_read (unplaced fault) taken left) (kept_with reported_source false place last call)
      unfolding error_place
      error_reported (Some there) left at same = of_lexer (ap (λ (es : List ErrorAt). record { item = unplaced fault; place = there } ∷ es) (sym same)
          ∙ ap (λ (p : Location). record { item = unplaced fault; place = p } ∷ errors_left
          (kept_with reported_source false place last call)) (sym at))
      error_reported None left at same = of_its_own at same

      errors_now : Over (Err (Error fault)) → is_out_of_memory fault.0 ≡ false
          → errors_left (kept_with reported_source false place last call) ≡ (all_unreported source_after).later
      unfolding errors_left
      errors_now turn reported = rw (is, (errors_last (Err (Error fault)) turn reported).0) refl

      less_now : Over (Err (Error fault)) → is_out_of_memory fault.0 ≡ false
          → most_items (kept_with reported_source false place last call) < most_items old
      unfolding most_items
      less_now turn reported = rw is (less_last (Err (Error fault)) place last call turn reported (λ e. cc))

      -- the fault in its call
      abbrev pub found : PlacedFault
      found = fault_in (outermost_frame_call after.frames) fault

      -- that is the call that is kept
      found_call : (k kept : Option CallPlace) → kept ≡ k → call_or (fault_in k fault).1.call kept ≡ (fault_in k fault).1.call
      found_call (Some outer) kept same = refl
      found_call None kept same = rw same (none_other fault.1.call)
        where
          none_other : (own : Option CallPlace) → call_or own None ≡ own
          none_other (Some own) = refl
          none_other None = refl

      -- what it asks for is kept
      asked_kept : last ≡ last_error found.1 → last.asks ≡ fault.1.asks
      asked_kept of = ap (λ (o : LastItem). o.asks) of ∙ asks_found (outermost_frame_call after.frames) fault

      rightly : Over (Err (Error fault)) → is_out_of_memory fault.0 ≡ false → AsksRightly old.rules fault
      rightly turn reported =
          subst (λ (rs : Rules). AsksRightly rs fault) (r.reported.1 ∙ ruled)
          (turn_asks expansion_limit now after source_now source_after (Err (Error fault)) r.fit.asks (turned (Err (Error fault)) turn reported)).0

      next_fault : Over (Err (Error fault)) → is_out_of_memory fault.0 ≡ false → place ≡ unwrap_or source_after.error_place fault.1.location
          → last ≡ last_error found.1
          → IsNextItem old (Some (Err (unplaced fault))) (kept_with reported_source false place last call)
      unfolding Stands is_spent call_place item_text asked_line rules_of
      next_fault turn reported at of =
          as_next (Some (Err (unplaced fault))) (kept_with reported_source false place last call) (inr (record {
            item = λ e stands.
                let leads : LeadsFrom (answers_at expansion_limit) e (Err (Error fault)) (outermost_frame_call now.frames) after source_after =
                (leads_last (Err (Error fault)) turn reported).from e (stands_first e stands) in
                record {
                  after = leads.0;
                  emits = record { taken = taken.Fault found; emits = leads.1; is = rw of (outcome_found (outermost_frame_call after.frames) fault found.1.asks) };
                  text = ap (λ (o : LastItem). o.text) of;
                  call = rw of (found_call (outermost_frame_call after.frames) (kept_call after.held call after.frames)
                      (free_call after.held call after.frames (errors_last (Err (Error fault)) turn reported).0) ∙ sym leads.2);
                  goes_on = rw is (stands_reported after source_after leads.0 leads.3);
                };
            no_refusal = reported;
            asks = asks_item old.rules fault last.asks (asked_kept of) (rightly turn reported);
            holds = tt;
            reports = record {
              left = with_read (unplaced fault) source_after.error_place (all_unreported source_after).later;
              passes = passes_first _ (errors_last (Err (Error fault)) turn reported).1;
              reports = error_reported source_after.error_place (all_unreported source_after).later at (errors_now turn reported);
            };
            spent = refl;
          })) (less_now turn reported) ruled

      next_refusal : Over (Err (Error fault)) → IsNextItem old (Some (Err out_of_memory))
          (kept_with reported_source true place last call)
      unfolding is_spent most_items
      next_refusal turn =
          let left : SomethingLeft expander source = left_now (Err (Error fault)) turn (λ e. cc) in
          as_next (Some (Err out_of_memory)) (kept_with reported_source true place last call)
          (inl (record { item = refl; spent = refl })) (omega (arith, left_is_work expansion_limit expander source left, most_first)) ruled

      pub next_error : (want : Bool) → is_out_of_memory fault.0 ≡ want → Over (Err (Error fault))
          → place ≡ unwrap_or source_after.error_place (if want then out_of_memory else unplaced fault).1
          → last ≡ last_error found.1
          → IsNextItem old (Some (Err (if want then out_of_memory else unplaced fault)))
          (kept_with reported_source want place last call)
      next_error true e turn at of = next_refusal turn
      next_error false e turn at of = next_fault turn e at of

-- once memory was refused
pub next_none : (old : Preprocessing) → old.spent ≡ true → IsNextItem old None old
unfolding is_spent most_items rules_of
next_none old spent = record {
  gives = subst (λ (b : Bool). MatchBool b (◌≡◌ {A = Option Item} None None × (old ≡ old)) (IsRefusedItem None old ⊎ IsGivenItem old None old))
      (sym spent) (refl, refl);
  less_left = rw spent refl;
  rules = refl;
}
