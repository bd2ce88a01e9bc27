-- What is read and taken over a reader that an expander has with frames around it.
use Rattle.std.proofs.Common.{◌≡◌, ◌∙◌, inl, inr, ℕ, List, [], ◌∷◌, ◌++◌, refl, sym, ap, subst, Option, Some, None}
use Rattle.std.specs.Prelude.{if◌then◌else◌, Ok, Err, true, unwrap_or}
use Rattle.pp_lexer.specs.declared.token.TokenValue.{TokenValue}
use Rattle.pp_lexer.specs.declared.token.TokenValue.TheVariants.{Ident}
use Rattle.pp_model.specs.Places.{place_of}
use Rattle.pp_model.specs.Definitions.{Definition}
use Rattle.pp_model.specs.Names.{Name, is_identifier, line_name}
use Rattle.pp_model.specs.Painting.{painted_among}
use Rattle.pp_model.specs.Taking.{line_number}
use Rattle.pp_model.specs.declared.read.Read.{Read}
use Rattle.pp_model.specs.declared.read.Taken.TheVariants as given
use Rattle.pp_macros.specs.Item.{PlacedStep}
use Rattle.pp_macros.specs.inner.Defined.{Defined, Macro, AreNumbered, names_in, numbered_by}
use Rattle.pp_macros.specs.inner.Expander.{Expander, StepsFetching, StepsTaking, step_of_outcome, taken_as}
use Rattle.pp_macros.specs.inner.Frames.{Frame, names_of, outermost_frame_line}
use Rattle.pp_macros.specs.inner.Idle.{is_idle}
use Rattle.pp_macros.specs.inner.Nesting.{MacroProcessor, MayWait, listed_in, open_names, seen_by, with_frames}
use Rattle.pp_macros.specs.inner.Reader.{Reader, Reads, of_source, of_list, hidden_of, shown_line, definitions_of}
use Rattle.pp_macros.specs.inner.Turns.{Moves, Opens, macro_of, macro_of_value, masks}
use Rattle.pp_macros.proofs.taking.ExpanderLemmas.{fetches_held, fetches_step, is_idle-idle}
use Rattle.pp_lexer.specs.declared.token.Integer.{Integer}

-- what is read doesn't depend on what is around
pub reads_seen : (below : List Frame) (r s : Reader) (step : PlacedStep Read) → Reads r step s → Reads (seen_by below r) step (seen_by below s)
reads_seen below (of_source old) (of_source new) step reads = reads
reads_seen below (of_list old) (of_list new) step (inl h) = inl (h.0, ap (listed_in below) h.1)
reads_seen below (of_list old) (of_list new) step (inr h) = inr h
reads_seen below (of_list old) (of_source new) step reads = absurd reads
reads_seen below (of_source old) (of_list new) step reads = absurd reads

-- a source stays a source
pub reads_wait : (below : List Frame) (r s : Reader) (step : PlacedStep Read) → Reads r step s → MayWait below r → MayWait below s
reads_wait below (of_source old) (of_source new) step reads waits = waits
reads_wait below (of_list old) (of_list new) step reads waits = tt
reads_wait below (of_list old) (of_source new) step reads waits = absurd reads
reads_wait below (of_source old) (of_list new) step reads waits = tt

-- the same of a step of the frames or the reader
pub moves_seen : (below frames after : List Frame) (r s : Reader) (step : PlacedStep Read) → Moves frames r step after s
    → Moves frames (seen_by below r) step after (seen_by below s)
moves_seen below [] after r s step moves = (moves.0, reads_seen below r s step moves.1)
moves_seen below (f ∷ fs) after r s step moves = (ap (seen_by below) moves.0, moves.1)

pub moves_wait : (below frames after : List Frame) (r s : Reader) (step : PlacedStep Read) → Moves frames r step after s → MayWait below r → MayWait below s
moves_wait below [] after r s step moves waits = reads_wait below r s step moves.1 waits
moves_wait below (f ∷ fs) after r s step moves waits = subst (MayWait below) (sym moves.0) waits

-- the names that are open around
pub hidden_seen : (below : List Frame) (r : Reader) → MayWait below r → hidden_of (seen_by below r) ≡ names_of below
hidden_seen below (of_source source) waits = ap names_of (sym waits)
hidden_seen below (of_list list) waits = refl

pub masks_seen : (m : MacroProcessor) (r : Reader) → MayWait m.below r → masks m.here.frames (seen_by m.below r) ≡ open_names m
masks_seen m r waits = ap (λ (names : List Name). names_of m.here.frames ++ names) (hidden_seen m.below r waits)

-- if nothing is open here, these are all
pub idle_names : (m : MacroProcessor) → is_idle m.here ≡ true → open_names m ≡ names_of m.below
idle_names m waits = ap (λ (e : Expander). names_of e.frames ++ names_of m.below) (is_idle-idle m.here waits)

-- which macro a token opens doesn't depend on what is around
value_seen : (below : List Frame) (r : Reader) (value : TokenValue) → macro_of_value (seen_by below r) value ≡ macro_of_value r value
value_seen below (of_source source) value = refl
value_seen below (of_list list) (Ident name) = refl
value_seen below (of_list list) _ = refl

pub macro_seen : (below : List Frame) (r : Reader) (read : Read) → macro_of (seen_by below r) read ≡ macro_of r read
macro_seen below r read =
    ap (λ (m : Option (Name × Definition)). if read.painted then None else m) (value_seen below r read.token.value)

-- nor which numbers are right
pub definitions_seen : (below : List Frame) (r : Reader) → definitions_of (seen_by below r) ≡ definitions_of r
definitions_seen below (of_source source) = refl
definitions_seen below (of_list list) = refl

pub opens_seen : (below : List Frame) (r : Reader) (read : Read) (opened : Macro) → macro_of r read ≡ Some (opened.name, opened.definition)
    → AreNumbered (names_in (definitions_of r)) (numbered_by opened) → Opens (seen_by below r) read opened
opens_seen below r read opened is numbered = record {
  is = macro_seen below r read ∙ is;
  numbered = subst (λ (ds : List Defined). AreNumbered (names_in ds) (numbered_by opened)) (sym (definitions_seen below r)) numbered;
}

-- nor what `__LINE__` becomes
shown_seen : (below : List Frame) (r : Reader) (line : ℕ) → shown_line (seen_by below r) line ≡ shown_line r line
shown_seen below (of_source source) line = refl
shown_seen below (of_list list) line = refl

pub taken_seen : (below frames : List Frame) (r : Reader) (step : PlacedStep Read) → taken_as step frames (seen_by below r) ≡ taken_as step frames r
taken_seen below frames r (Err exit) = refl
taken_seen below frames r (Ok read) =
    ap (λ (line : Option Integer). step_of_outcome (if is_identifier line_name read.token.value then line_number (place_of read) line else given.Token read))
    (shown_seen below r (unwrap_or (outermost_frame_line frames) read.token.location.line))

-- a token that comes first is taken with its paint
pub taken_painted : (m : Expander) (r : Reader) (n : MacroProcessor) (s : Reader) (first painted : Read)
    → StepsFetching m r (Ok first) n.here (seen_by n.below s) → painted ≡ painted_among (open_names n) first → MayWait n.below s
    → StepsTaking m r (Ok painted) n.here (seen_by n.below s)
taken_painted m r n s first painted fetches is waits = record {
  first = Ok first;
  fetches = fetches;
  paints = ap (λ (read : Read). Ok read) (is ∙ ap (λ (names : List Name). painted_among names first) (sym (masks_seen n s waits)));
}

-- what is held comes first
pub held_fetched : (m n : MacroProcessor) (step : PlacedStep Read) (r : Reader) → m.here.held ≡ Some step → n ≡ record m { here = record m.here { held = None } }
    → StepsFetching m.here (seen_by m.below r) step n.here (seen_by n.below r)
held_fetched m n step r holds left =
    subst (λ (p : MacroProcessor). StepsFetching m.here (seen_by m.below r) step p.here (seen_by p.below r)) (sym left)
    (fetches_held m.here (record m.here { held = None }) step (seen_by m.below r) holds refl)

-- a step of the frames or the reader comes first, as it is once it is taken
pub step_fetched : (m n : MacroProcessor) (move step : PlacedStep Read) (r s : Reader) → m.here.held ≡ None → Moves m.here.frames r move n.here.frames s
    → n ≡ with_frames m n.here.frames → step ≡ taken_as move n.here.frames s → StepsFetching m.here (seen_by m.below r) step n.here (seen_by n.below s)
step_fetched m n move step r s free moves others shows =
    subst (λ (p : MacroProcessor). StepsFetching m.here (seen_by m.below r) step p.here (seen_by p.below s)) (sym others)
    (fetches_step m.here m.here.held m.here.held m.here.frames n.here.frames move step (seen_by m.below r) (seen_by m.below s) refl free free
    (moves_seen m.below m.here.frames n.here.frames r s move moves) (shows ∙ sym (taken_seen m.below n.here.frames s move)))
