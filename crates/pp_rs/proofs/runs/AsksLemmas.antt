-- A turn over a source asks for a text only at an `#include` line, and by rules that say so; so does what it leaves held.
use Rattle.std.proofs.Common.{◌≡◌, inl, inr, ◌⊎◌, ℕ, Bool, true, false, List, [], ◌∷◌, ◌++◌, refl, subst, Option, Some, None, Ok, Err}
use Rattle.std.specs.Prelude.{⊤, IsSome, MatchBool, Result, unwrap_or}
use Rattle.pp_lexer.specs.declared.rules.Rules.{Rules}
use Rattle.pp_lexer.specs.declared.token.Location.{Location}
use Rattle.pp_lexer.specs.declared.token.Token.{Token}
use Rattle.pp_model.specs.declared.definition.Named.{Named}
use Rattle.pp_model.specs.declared.place.Place.{Place}
use Rattle.pp_model.specs.declared.read.Read.{Read}
use Rattle.pp_model.specs.declared.read.Taken.{Taken as Given}
use Rattle.pp_model.specs.declared.read.Taken.TheVariants as given
use Rattle.pp_model.specs.Acts.{defined_in}
use Rattle.pp_model.specs.Calls.{Gathered}
use Rattle.pp_model.specs.Definitions.{Definition}
use Rattle.pp_model.specs.Moves.{Effect, gives as gives_token, gives_item, asks, fails, ends, passes as passes_line, defines, undefines, tests, decides, renumbers}
use Rattle.pp_model.specs.Names.{Name, is_identifier, line_name}
use Rattle.pp_model.specs.Numbering.{list_numbering}
use Rattle.pp_model.specs.Places.{PlacedFault, place_of}
use Rattle.pp_model.specs.Sights.{sight_of}
use Rattle.pp_model.proofs.source.AskingLemmas.{AsksNothing, IsTakenUnasked, IsUnaskedIfFault, token_unasked, before_unasked, paren_unasked, AsksBy, move_asks, answers_unasked}
use Rattle.pp_macros.specs.Item.{PlacedStep, wants_memory}
use Rattle.pp_macros.specs.inner.Calling.{MacroCall}
use Rattle.pp_macros.specs.inner.CallTurns.{Sought, no_call, refused, gathered, sought_by, Seeks, alone, called, Finds, TurnsTo, passes, gives, object, seeks, paren_of}
use Rattle.pp_macros.specs.inner.Defined.{Macro, meaning_of}
use Rattle.pp_macros.specs.inner.Expander.{Expander, StepsFetching, StepsTaking, held, moved, TakesNext, now, later, GathersNext, closed, inside, overfull, ended, failed, step_of_outcome, taken_as}
use Rattle.pp_macros.specs.inner.Finishing.{site_at}
use Rattle.pp_macros.specs.inner.Frames.{Frame, Advance, advance, names_of, outermost_frame_line}
use Rattle.pp_macros.specs.inner.OpenBlocks.{last_block, facts_among, is_live_among, BlockChange, block_change_at}
use Rattle.pp_macros.specs.inner.Reader.{Reader, of_source, of_list, listed_step, reads, leaves, Reads, shown_line}
use Rattle.pp_macros.specs.inner.Reading.{unpainted_step, painted_step}
use Rattle.pp_macros.specs.inner.Source.{Source, DefinesOver, Ends, Decides, holds, faulty, Renumbers, numbers, unnumbered, HasEffect, MakesMove, IsRefusedStep, StepsSource}
use Rattle.pp_macros.specs.inner.SourceMoves.{Note, move_of, note_of}
use Rattle.pp_macros.specs.inner.Turns.{as_pause, frame_move, Moves, masks, taken_in}
use Rattle.pp_macros.specs.declared.blocks.OpenBlock.{OpenBlock}
use Rattle.pp_macros.specs.declared.calls.Taken.{Taken}
use Rattle.pp_macros.specs.declared.calls.Taken.TheVariants as taken
use Rattle.pp_macros.specs.declared.step.PlacedExit.{PlacedExit}
use Rattle.pp_macros.specs.declared.step.PlacedExit.TheVariants.{Error, Continue, Finished}
use Rattle.pp_macros.proofs.open_frames.ReportedLemmas.{painted_reported, taken_reported}
use Rattle.pp_rs.specs.inner.Fit.{AsksRightly, StepAsks, HoldsAsking, GoesBy}
use Rattle.pp_rs.specs.inner.SourceTurns.{FollowsCall, opened, refused as call_refused, FollowsTurn, TurnsSource}
use Rattle.pp_rs.proofs.runs.ReadyLemmas.{step_free, next_free, gather_free}
use Rattle.pp_rs.proofs.runs.UnreportedTurnLemmas.{moves_by}

-- nothing is no text that is asked for
none_asked : {A : Type 0} → false ≡ true → A
none_asked e = cc

-- a fault that asks for nothing needs no such rules
unasked_rightly : (rules : Rules) (fault : PlacedFault) → AsksNothing fault → AsksRightly rules fault
unasked_rightly rules fault unasked wants = none_asked (subst IsSome unasked wants)

module _ (old new : Source) (step : PlacedStep Token) where
  -- the faults of a line's own parts ask for nothing
  defines_ask : (named : Named) (before : Option Definition) (taken : ℕ) (note : Note) → DefinesOver named before taken note old step new
      → StepAsks old.rules step
  defines_ask named None taken note h = rw h.0 tt
  defines_ask named (Some before) taken note (inl h) = rw h.1 tt
  defines_ask named (Some before) taken note (inr h) = rw h.1 (λ wants. none_asked wants)

  ends_ask : (last : Option OpenBlock) → Ends last old step new → StepAsks old.rules step
  ends_ask None h = rw h.0 tt
  ends_ask (Some block) h = rw h.0 (λ wants. none_asked wants)

  decides_ask : (word : Location) (tokens : List Token) (blocks : Bool → List OpenBlock) (taken : ℕ) (note : Note)
      → Decides word tokens blocks taken note old step new → StepAsks old.rules step
  decides_ask word tokens blocks taken note (holds value condition h) = rw h.0 tt
  decides_ask word tokens blocks taken note (faulty fault condition is left) = rw is (λ wants. none_asked wants)

  renumbers_ask : (word : Location) (tokens : List Token) (taken : ℕ) (note : Note) → Renumbers word tokens taken note old step new
      → StepAsks old.rules step
  renumbers_ask word tokens taken note (numbers n number h) = rw h.0 tt
  renumbers_ask word tokens taken note (unnumbered fault first number found is left) = rw is (λ wants. none_asked wants)

  -- what an effect gives asks if the effect does
  effect_asks : (effect : Effect) (taken : ℕ) (note : Note) (change : BlockChange) → AsksBy old.rules effect
      → HasEffect effect taken note change old step new → StepAsks old.rules step
  effect_asks (gives_token token) taken note change by h = rw h.0 tt
  effect_asks (gives_item value word) taken note change by h = rw h.0 tt
  effect_asks (asks line) taken note change by h = rw h.0 (λ wants. (by, refl))
  effect_asks (fails fault) taken note change by h = rw h.0 (λ wants. none_asked wants)
  effect_asks ends taken note change by h = ends_ask (last_block old.blocks) h
  effect_asks passes_line taken note change by h = rw h.0 tt
  effect_asks (defines named) taken note change by h =
      defines_ask (defined_in old.text named) (meaning_of old.definitions named.name) taken note h
  effect_asks (undefines name) taken note change by h = rw h.0 tt
  effect_asks (tests asked name) taken note change by h = rw h.0 tt
  effect_asks (decides word tokens) taken note change by h = decides_ask word tokens (λ value. change (Some value) old.blocks) taken note h
  effect_asks (renumbers word tokens) taken note change by h = renumbers_ask word tokens taken note h

  -- a step of a text
  text_asks : StepsSource old step new → StepAsks old.rules step
  text_asks h = go old.spent h
    where
      go : (b : Bool) → MatchBool b ((step ≡ Err Finished) × (new ≡ old)) (IsRefusedStep old step ⊎ MakesMove old step new) → StepAsks old.rules step
      go true h = rw h.0 tt
      go false (inl h) = rw h.fault (λ wants. none_asked wants)
      go false (inr h) =
          let move = move_of old.rules old.dead_for_good old.blocks old.rest in
          let by : AsksBy old.rules move.effect =
          move_asks old.rules (is_live_among old.dead_for_good old.blocks) (facts_among old.blocks) (sight_of old.rest) old.rest in
          effect_asks move.effect move.taken (note_of old.dead_for_good old.blocks old.rest) (block_change_at (sight_of old.rest)) by h

module _ (rules : Rules) where
  -- taking and painting change no fault, and the fault of a line number asks for nothing
  unpainted_asks : (text : ℕ) (given : PlacedStep Token) → StepAsks rules given → StepAsks rules (unpainted_step text given)
  unpainted_asks text (Ok token) rightly = tt
  unpainted_asks text (Err exit) rightly = exit_asks exit rightly
    where
      exit_asks : (exit : PlacedExit) → StepAsks {T = Token} rules (Err exit) → StepAsks {T = Read} rules (Err exit)
      exit_asks (Error fault) rightly = rightly
      exit_asks Continue rightly = tt
      exit_asks Finished rightly = tt

  painted_asks : (names : List Name) (first : PlacedStep Read) → StepAsks rules first → StepAsks rules (painted_step names first)
  painted_asks names (Ok read) rightly = tt
  painted_asks names (Err exit) rightly = rightly

  outcome_asks : (o : Given) → IsTakenUnasked o → StepAsks rules (step_of_outcome o)
  outcome_asks (given.Token read) unasked = tt
  outcome_asks (given.Fault fault) unasked = unasked_rightly rules fault unasked
  outcome_asks given.End unasked = tt

  -- a step of a reader
  reads_ask : (r s : Reader) (step : PlacedStep Read) → GoesBy rules r → Reads r step s → StepAsks rules step
  reads_ask (of_source old) (of_source new) step by (reads given steps reports last is) =
      rw is (unpainted_asks old.text given (subst (λ (rs : Rules). StepAsks rs given) by (text_asks old new given steps)))
  reads_ask (of_source old) (of_source new) step by (leaves outer around over is_around pause is) = rw pause tt
  reads_ask (of_list old) (of_list new) step by (inl h) = rw h.0 (listed_asks old.tokens)
    where
      listed_asks : (tokens : List Read) → StepAsks rules (listed_step tokens)
      listed_asks [] = tt
      listed_asks (read ∷ tokens) = tt
  reads_ask (of_list old) (of_list new) step by (inr h) = rw h (λ wants. none_asked wants)
  reads_ask (of_source old) (of_list new) step by h = absurd h
  reads_ask (of_list old) (of_source new) step by h = absurd h

  -- a frame gives no fault of its own
  frame_asks : (fs : List Frame) (o : Option Advance) → StepAsks rules (frame_move fs o).gives
  frame_asks fs (Some a) = pause_asks a.gives
    where
      pause_asks : (t : Option Read) → StepAsks rules (as_pause t)
      pause_asks (Some read) = tt
      pause_asks None = tt
  frame_asks fs None = tt

  moves_ask : (fs gs : List Frame) (r s : Reader) (move : PlacedStep Read) → GoesBy rules r → Moves fs r move gs s → StepAsks rules move
  moves_ask [] gs r s move by h = reads_ask r s move by h.1
  moves_ask (f ∷ fs) gs r s move by (stays, inl h) = rw h.0 (frame_asks fs (advance f))
  moves_ask (f ∷ fs) gs r s move by (stays, inr h) = rw h (λ wants. none_asked wants)

  -- a token that may be `__LINE__`
  taken_asks : (move : PlacedStep Read) (fs : List Frame) (s : Reader) → StepAsks rules move → StepAsks rules (taken_as move fs s)
  taken_asks (Ok read) fs s rightly =
      outcome_asks (taken_in fs s read) (token_unasked read (is_identifier line_name read.token.value)
      (shown_line s (unwrap_or (outermost_frame_line fs) read.token.location.line)))
  taken_asks (Err exit) fs s rightly = rightly

  -- what is held and the reader are right
  abbrev AsksFirst : Expander → Reader → Type 0
  AsksFirst m r = HoldsAsking rules m.held × GoesBy rules r

  -- what is taken asks rightly, and the reader goes by the rules unless memory ran out
  abbrev AsksThere : PlacedStep Read → Reader → Type 0
  AsksThere step s = StepAsks rules step × (wants_memory step ≡ false → GoesBy rules s)

  -- what comes first, and what is taken next
  fetch_asks : (m n : Expander) (r s : Reader) (step : PlacedStep Read) → AsksFirst m r → StepsFetching m r step n s → AsksThere step s
  fetch_asks m n r s step first (held step1 m1 n1 r1 s1 is at same) =
      (subst (λ (o : Option (PlacedStep Read)). HoldsAsking rules o) is first.0, λ reported. rw same first.1)
  fetch_asks m n r s step first (moved move step1 m1 n1 r1 s1 free moves is none) = (
    rw is (taken_asks move n.frames s (moves_ask m.frames n.frames r s move first.1 moves)),
    λ reported. moves_by rules m.frames n.frames r s move moves first.1 (taken_reported move n.frames s (rw is at reported)),
  )

  step_asks : (m n : Expander) (r s : Reader) (step : PlacedStep Read) → AsksFirst m r → StepsTaking m r step n s → AsksThere step s
  step_asks m n r s step first steps =
      let there = fetch_asks m n r s steps.first first steps.fetches in (
        rw steps.paints (painted_asks (masks n.frames s) steps.first there.0),
        λ reported. there.1 (painted_reported (masks n.frames s) steps.first (rw steps.paints at reported)),
      )

  nothing_held : (o : Option (PlacedStep Read)) → o ≡ None → HoldsAsking rules o
  nothing_held o e = rw e tt

  next_asks : (m n : Expander) (r s : Reader) (step : PlacedStep Read) → AsksFirst m r → TakesNext m r step n s → AsksThere step s
  next_asks m n r s step first (now step1 m1 n1 r1 s1 steps goes) = step_asks m n r s step first steps
  next_asks m n r s step first (later step1 m1 between n1 r1 s1 t1 steps next) =
      next_asks between n s1 s step
      (nothing_held between.held (step_free m between r s1 (Err Continue) steps), (step_asks m between r s1 (Err Continue) first steps).1 refl) next

  -- what is left after a token was taken
  after_token : (m n : Expander) (r s : Reader) (read : Read) → AsksFirst m r → StepsTaking m r (Ok read) n s → AsksFirst n s
  after_token m n r s read first steps =
      (nothing_held n.held (step_free m n r s (Ok read) steps), (step_asks m n r s (Ok read) first steps).1 refl)

-- the fault of a search for the end of a call asks for nothing
gather_asks : (k : ℕ) (last : Place) (m n : Expander) (r s : Reader) (g : Result Gathered PlacedFault) → last.asks ≡ None
    → GathersNext k last m r g n s → IsUnaskedIfFault g
gather_asks k last m n r s g there (closed k1 last1 read m1 n1 r1 s1 g1 next out is) = rw is tt
gather_asks k last m n r s g there (inside k1 l last1 read m1 between n1 r1 s1 t1 rest g1 next in_call more is) =
    rw is (before_unasked read rest (gather_asks l (place_of read) between n s1 s rest refl more))
gather_asks k last m n r s g there (overfull k1 last1 read m1 n1 r1 s1 g1 next out is) = rw is refl
gather_asks k last m n r s g there (ended k1 last1 m1 n1 r1 s1 g1 next is) = rw is there
gather_asks k last m n r s g there (failed k1 last1 fault m1 n1 r1 s1 g1 next reported is) = rw is refl

-- a `(` is at the place of a token
paren_asks : (next : PlacedStep Read) (paren : Place) → paren_of next ≡ Some paren → paren.asks ≡ None
paren_asks (Ok read) paren e = paren_unasked (given.Token read) paren e
paren_asks (Err exit) paren e = cc

module _ (rules : Rules) where
  -- what follows the name of a macro asks rightly
  abbrev SoughtAsks : Sought → Type 0
  SoughtAsks (no_call next) = StepAsks rules next
  SoughtAsks (refused fault) = AsksNothing fault
  SoughtAsks (gathered paren g) = paren.asks ≡ None

  sought_asks : (paren : Place) (g : Result Gathered PlacedFault) → paren.asks ≡ None → IsUnaskedIfFault g → SoughtAsks (sought_by paren g)
  sought_asks paren (Ok g) there unasked = there
  sought_asks paren (Err fault) there unasked = unasked

  -- so does a search, which leaves nothing held
  seeks_ask : (m n : Expander) (r s : Reader) (c : Sought) → AsksFirst rules m r → Seeks m r c n s → SoughtAsks c × (n.held ≡ None)
  seeks_ask m n r s c first (alone next m1 n1 r1 s1 c1 takes none reported is) =
      (rw is (next_asks rules m n r s next first takes).0, next_free m n r s next takes)
  seeks_ask m n r s c first (called next paren m1 between n1 r1 s1 t1 g c1 takes at gathers is) =
      let there = paren_asks next paren at in
      (rw is (sought_asks paren g there (gather_asks 0 paren between n s1 s g there gathers)), gather_free 0 paren between n s1 s g gathers)

  -- a turn asks rightly, and no call is at a place that asks
  abbrev TakenAsks : PlacedStep Taken → Type 0
  TakenAsks (Ok (taken.Token read)) = ⊤
  TakenAsks (Ok (taken.Call call)) = call.paren.asks ≡ None
  TakenAsks (Err (Error fault)) = AsksRightly rules fault
  TakenAsks (Err exit) = ⊤

  exit_taken : (exit : PlacedExit) → StepAsks {T = Read} rules (Err exit) → TakenAsks (Err exit)
  exit_taken (Error fault) rightly = rightly
  exit_taken Continue rightly = tt
  exit_taken Finished rightly = tt

  -- a turn, and what follows it
  finds_ask : (read : Read) (macro : Macro) (c : Sought) (step : PlacedStep Taken) (n p : Expander) → SoughtAsks c → n.held ≡ None
      → Finds read macro c step n p → TakenAsks step × HoldsAsking rules p.held
  finds_ask read macro (no_call next) step n p rightly free found = (rw found.0 tt, rw found.1 rightly)
  finds_ask read macro (refused fault) step n p rightly free found =
      (rw found.0 (unasked_rightly rules fault rightly), rw found.1 (nothing_held rules n.held free))
  finds_ask read macro (gathered paren g) step n p rightly free found = (rw found.0 rightly, rw found.1 (nothing_held rules n.held free))

  turns_ask : (m n : Expander) (r s : Reader) (step : PlacedStep Taken) → AsksFirst rules m r → TurnsTo m r step n s
      → TakenAsks step × HoldsAsking rules n.held
  turns_ask m n r s step first (passes exit step1 m1 n1 r1 s1 steps is) =
      (rw is (exit_taken exit (step_asks rules m n r s (Err exit) first steps).0), nothing_held rules n.held (step_free m n r s (Err exit) steps))
  turns_ask m n r s step first (gives read step1 m1 n1 r1 s1 steps none is) = (rw is tt, nothing_held rules n.held (step_free m n r s (Ok read) steps))
  turns_ask m p r s step first (object read macro step1 m1 n p1 r1 s1 steps some plain is at) =
      (rw is tt, rw at (nothing_held rules n.held (step_free m n r s (Ok read) steps)))
  turns_ask m q r t step first (seeks read macro c step1 m1 n p q1 r1 s t1 steps some function sought found) =
      let there = seeks_ask n p s t c (after_token rules m n r s read first steps) sought in
      finds_ask read macro c step p q there.0 there.1 found

  follows_call : (levels : ℕ) (source : Source) (call : MacroCall) (old : Expander) (step : PlacedStep Read) (new : Expander) → call.paren.asks ≡ None
      → HoldsAsking rules old.held → FollowsCall levels source call old step new → StepAsks rules step × HoldsAsking rules new.held
  follows_call levels source call old step new there holding (opened pause opening) = (rw pause tt, rw opening.opens holding)
  follows_call levels source call old step new there holding (call_refused fault is answers same) =
      let site = site_at call (list_numbering source.rules source.line_offset) source.definitions (names_of old.frames ++ []) in
      (rw is (unasked_rightly rules fault (answers_unasked levels call.opened.definition site fault there answers)), rw same holding)

  follows : (levels : ℕ) (source : Source) (found : PlacedStep Taken) (old : Expander) (step : PlacedStep Read) (new : Expander) → TakenAsks found
      → HoldsAsking rules old.held → FollowsTurn levels source found old step new → StepAsks rules step × HoldsAsking rules new.held
  follows levels source (Ok (taken.Token read)) old step new rightly holding h = (rw h.0 tt, rw h.1 holding)
  follows levels source (Ok (taken.Call call)) old step new rightly holding h = follows_call levels source call old step new rightly holding h
  follows levels source (Err (Error fault)) old step new rightly holding h = (rw h.0 rightly, rw h.1 holding)
  follows levels source (Err Continue) old step new rightly holding h = (rw h.0 tt, rw h.1 holding)
  follows levels source (Err Finished) old step new rightly holding h = (rw h.0 tt, rw h.1 holding)

-- what a turn gives and what it leaves held ask rightly, if what was held did
pub turn_asks : (levels : ℕ) (m n : Expander) (old new : Source) (step : PlacedStep Read) → HoldsAsking old.rules m.held
    → TurnsSource levels m old step n new → StepAsks old.rules step × HoldsAsking old.rules n.held
turn_asks levels m n old new step holding turn =
    let there = turns_ask old.rules m turn.between (of_source old) (of_source new) turn.taken (holding, refl) turn.turns in
    follows old.rules levels new turn.taken turn.between step n there.0 there.1 turn.follows
