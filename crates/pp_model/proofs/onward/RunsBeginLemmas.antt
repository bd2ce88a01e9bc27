-- Up to and with its first error item a run to the end is the run that ends with it.
use Rattle.std.proofs.Common.{◌≡◌, ap, sym, ℕ, suc, false, List, [], ◌∷◌, length, refl, Option, Some, None}
use Rattle.std.specs.Str.{chars}
use Rattle.pp_lexer.specs.declared.rules.Rules.{Rules}
use Rattle.pp_model.specs.Places.{PlacedFault, fault_in, unplaced}
use Rattle.pp_model.specs.SpliceList.{outermost_call}
use Rattle.pp_model.specs.Painting.{item_of}
use Rattle.pp_model.specs.Reading.{Reading, Expander}
use Rattle.pp_model.specs.Taking.{held}
use Rattle.pp_model.specs.Calls.{Answers}
use Rattle.pp_model.specs.Emitting.{found_among, Emits, itself, answers_at, expansion_limit}
use Rattle.pp_model.specs.SourceReader.{SourceReader}
use Rattle.pp_model.specs.Reads.{source_reading}
use Rattle.pp_model.specs.Onward.{Onward, onward_reading}
use Rattle.pp_model.specs.Run.{Call, items_by, start_by, with_added, with_included, is_fault, by_rules, Runs}
use Rattle.pp_model.specs.Run as run
use Rattle.pp_model.specs.RunToEnd.{going_on, changed_by, RunsToEnd, done, added, refused, included, too_deep, given, to_first_error}
use Rattle.pp_model.specs.ExpansionLaws.{OneAnswer}
use Rattle.pp_model.specs.ToEndLaws.{RunToEndBegins}
use Rattle.pp_model.specs.declared.call.Reply.{Reply}
use Rattle.pp_model.specs.declared.call.Reply.TheVariants as reply
use Rattle.pp_model.specs.declared.outcome.Outcome.{Outcome}
use Rattle.pp_model.specs.declared.outcome.Outcome.TheVariants as outcome
use Rattle.pp_model.specs.declared.read.Taken.TheVariants as taken
use Rattle.pp_model.specs.declared.splice.CallPlace.{CallPlace}
use Rattle.pp_model.proofs.taking.EmittingLemmas.{one_item}
use Rattle.pp_model.proofs.calls.LevelLemmas.{one_answer}
use Rattle.pp_model.proofs.onward.StepLemmas.{onward_reads_one}
use Rattle.pp_model.proofs.onward.EmitsBeginLemmas.{Giving, goes_on, holds, stops, emits_begin}

-- a fault that asks for nothing is an error item, in whatever call it is
pub item_in : (place : Option CallPlace) (fault : PlacedFault) → fault.1.asks ≡ None
    → item_of (taken.Fault (fault_in place fault)) ≡ outcome.Fault (unplaced fault)
item_in None fault asks = rw asks refl
item_in (Some place) fault asks = rw asks refl

-- what is held comes next
pub held_next : {R : Type 0} (I : Reading R) (A : Answers) (e : Expander R) (fault : PlacedFault) → e.held ≡ Some (taken.Fault fault)
    → Emits I A e (found_among e.list (taken.Fault fault)) (record e { held = None })
held_next I A e fault h =
    itself (taken.Fault fault) _ e (record e { held = None })
    (record { first = taken.Fault fault; fetches = held (taken.Fault fault) e (record e { held = None }) h refl; paints = refl }) refl refl

-- The states of the two runs: they are the same, or both hold a fault that asks for nothing, and as many texts are around.
data Alike (e : Expander SourceReader) (e1 : Expander Onward) : Type 0 where
  same : e1 ≡ going_on [] e → Alike e e1
  failing : (fault : PlacedFault) → fault.1.asks ≡ None → e.held ≡ Some (taken.Fault fault) → e1.held ≡ Some (taken.Fault fault)
      → length e1.reader.reader.around ≡ length e.reader.around → Alike e e1

module _ (A : Answers) (single : OneAnswer A) (rules : Rules) where
  with_more : (name : List ℕ) (tokens : List _) (e : Expander SourceReader) (e1 : Expander Onward) → Alike e e1
      → Alike (with_added name tokens e) (changed_by (with_added name tokens) e1)
  with_more name tokens e e1 (same z) = same (rw z refl)
  with_more name tokens e e1 (failing fault asks h h1 around) = failing fault asks h h1 around

  with_text_more : (text : List ℕ) (e : Expander SourceReader) (e1 : Expander Onward) → Alike e e1
      → Alike (with_included (items_by rules text) e) (changed_by (with_included (items_by rules text)) e1)
  with_text_more text e e1 (same z) = same (rw z refl)
  with_text_more text e e1 (failing fault asks h h1 around) = failing fault asks (rw h refl) (rw h1 refl) (ap suc around)

  around_alike : (e : Expander SourceReader) (e1 : Expander Onward) → Alike e e1 → length e1.reader.reader.around ≡ length e.reader.around
  around_alike e e1 (same z) = rw z refl
  around_alike e e1 (failing fault asks h h1 around) = around

  runs_begin : (e : Expander SourceReader) (e1 : Expander Onward) (calls : List Call) (replies : List Reply) → Alike e e1 → RunsToEnd A rules e1 calls replies
      → Runs (by_rules A) rules e calls (to_first_error replies)
  runs_begin e e1 calls replies a (done e2 r p) = rw p (run.done e [] refl)
  runs_begin e e1 calls replies a (added name content tokens e2 cs rest r h more p) =
      let later = runs_begin (with_added (chars name) tokens e) (changed_by (with_added (chars name) tokens) e1) cs rest (with_more (chars name) tokens e e1 a) more in
      rw p (run.added name content tokens e cs (to_first_error rest) _ h later refl)
  runs_begin e e1 calls replies a (refused name content fault e2 cs rest r h more p) =
      rw p (run.refused name content fault e cs (to_first_error rest) _ h (runs_begin e e1 cs rest a more) refl)
  runs_begin e e1 calls replies a (included text e2 cs rest r h more p) =
      let later = runs_begin (with_included (items_by rules text) e) (changed_by (with_included (items_by rules text)) e1) cs rest (with_text_more text e e1 a) more in
      rw p (run.included text e cs (to_first_error rest) _ (rw (around_alike e e1 a) at h) later refl)
  runs_begin e e1 calls replies a (too_deep text e2 cs rest r h more p) =
      rw p (run.too_deep text e cs (to_first_error rest) _ (rw (around_alike e e1 a) at h) (runs_begin e e1 cs rest a more) refl)
  runs_begin e e1 calls replies (failing fault asks h h1 around) (given x e2 f1 cs rest r i more p) =
      let known = one_item (onward_reading A) (onward_reads_one A single) A single x (found_among e1.list (taken.Fault fault)) e1 f1 _ i
      (held_next (onward_reading A) A e1 fault h1) in
      let item : item_of x ≡ outcome.Fault (unplaced fault) = rw known.0 (item_in (outermost_call e1.list) fault asks) in
      rw (p, item) (run.failed (unplaced fault) e (record e { held = None }) cs _
      (record {
        taken = found_among e.list (taken.Fault fault);
        emits = held_next (source_reading A) A e fault h;
        is = sym (item_in (outermost_call e.list) fault asks);
      }) refl)
  runs_begin e e1 calls replies (same z) (given x e2 f1 cs rest r i more p) =
      let first = emits_begin A x e e1 f1 z i in
      rw p (by first.0 first.1 first.2 (λ f a. runs_begin f f1 cs rest a more))
    where
      finish : (f : Expander SourceReader) → Emits (source_reading A) A e x f
          → ((f : Expander SourceReader) → Alike f f1 → Runs (by_rules A) rules f cs (to_first_error rest))
          → (o : Outcome) → item_of x ≡ o → (is_fault o ≡ false → Alike f f1)
          → Runs (by_rules A) rules e calls (to_first_error (reply.Given (item_of x) ∷ rest))
      finish f emits later (outcome.Fault fault) q alike = rw q (run.failed fault e f cs _ (record { taken = x; emits = emits; is = sym q }) refl)
      finish f emits later (outcome.Token token) q alike =
          rw q (run.given (outcome.Token token) e f cs (to_first_error rest) _ (record { taken = x; emits = emits; is = sym q }) refl (later f (alike refl)) refl)
      finish f emits later (outcome.Include line) q alike =
          rw q (run.given (outcome.Include line) e f cs (to_first_error rest) _ (record { taken = x; emits = emits; is = sym q }) refl (later f (alike refl)) refl)
      finish f emits later outcome.End q alike =
          rw q (run.given outcome.End e f cs (to_first_error rest) _ (record { taken = x; emits = emits; is = sym q }) refl (later f (alike refl)) refl)

      by : (f : Expander SourceReader) → Emits (source_reading A) A e x f → Giving A x f f1
          → ((f : Expander SourceReader) → Alike f f1 → Runs (by_rules A) rules f cs (to_first_error rest))
          → Runs (by_rules A) rules e calls (to_first_error (reply.Given (item_of x) ∷ rest))
      by f emits (goes_on q) later = finish f emits later (item_of x) refl (λ on. same q)
      by f emits (holds fault asks h h1 around) later = finish f emits later (item_of x) refl (λ on. failing fault asks h h1 (ap length around))
      by f emits (stops fault q asks) later =
          let item : item_of x ≡ outcome.Fault (unplaced fault) = rw q (item_in None fault asks) in
          finish f emits later (outcome.Fault (unplaced fault)) item (λ on. cc)

pub run_to_end_begins : RunToEndBegins
run_to_end_begins rules text calls replies r =
    runs_begin (answers_at expansion_limit) (one_answer expansion_limit) rules (start_by rules (items_by rules text))
    (going_on [] (start_by rules (items_by rules text))) calls replies (same refl) r
