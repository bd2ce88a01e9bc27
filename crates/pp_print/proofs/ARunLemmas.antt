-- A source has a run, where definitions are added whose contents hold no error and no number sign
use Rattle.std.proofs.Common.{◌≡◌, ◌∙◌, ◌+◌, false, List, [], ◌∷◌, Result, Ok, Err, IsOk, Some, None, refl, ap, sym, subst}
use Rattle.std.specs.Prelude.{All}
use Rattle.std.specs.Str.{chars}
use Rattle.std.proofs.lemmas.List.Elements.{All-head, All-tail}
use Rattle.pp_model.specs.Places.{Fault}
use Rattle.pp_model.specs.Definitions.{object_like}
use Rattle.pp_model.specs.Emitting.{answers_at, expansion_limit}
use Rattle.pp_model.specs.ExistenceLaws.{is_given_token, Ends}
use Rattle.pp_model.specs.ExistenceLaws as ends
use Rattle.pp_model.specs.Emitting.{found_among}
use Rattle.pp_model.specs.Painting.{item_of}
use Rattle.pp_model.specs.Places.{PlacedFault, unplaced}
use Rattle.pp_model.specs.Reading.{Expander}
use Rattle.pp_model.specs.Reads.{source_reading}
use Rattle.pp_model.specs.Run.{items_of, start, with_added}
use Rattle.pp_model.specs.Run.{Gives as RunGives}
use Rattle.pp_model.specs.RunToEnd.{going_on}
use Rattle.pp_model.specs.SourceReader.{SourceReader}
use Rattle.pp_model.specs.SpliceList.{outermost_call}
use Rattle.pp_model.specs.declared.read.Taken.{Taken}
use Rattle.pp_model.specs.declared.read.Taken.TheVariants as taken
use Rattle.pp_model.proofs.calls.LevelLemmas.{one_answer}
use Rattle.pp_model.proofs.onward.EmitsBeginLemmas.{Giving, goes_on, holds, stops}
use Rattle.pp_model.proofs.onward.EmitsOnLemmas.{emits_on}
use Rattle.pp_model.proofs.onward.RunsBeginLemmas.{item_in, held_next}
use Rattle.pp_model.proofs.source.ReadsLemmas.{source_reads_one}
use Rattle.pp_model.proofs.taking.EmittingLemmas.{one_item}
use Rattle.pp_model.specs.declared.outcome.Outcome.{Outcome}
use Rattle.pp_model.specs.declared.outcome.Outcome.TheVariants as outcome
use Rattle.pp_model.proofs.existence.ArgumentLemmas.{an_answer}
use Rattle.pp_model.proofs.existence.DefinitionLemmas.{with_one}
use Rattle.pp_model.proofs.existence.EndLemmas.{an_end}
use Rattle.pp_model.proofs.existence.RunLemmas.{start_finite}
use Rattle.pp_model.proofs.existence.SourceLemmas.{HasFinite}
use Rattle.pp_model.proofs.source.AskingLemmas.{HoldsUnasked, calls_unasked}
use Rattle.pp_model.proofs.runs.QuietLemmas.{IsQuietReader, NoInclude, ends_quietly}
use Rattle.pp_rs.specs.Rules.{pp_rs}
use Rattle.pp_rs.specs.Comes.{State, source_rules, Comes, nothing, first, IsRunFrom}
use Rattle.pp_rs.specs.declared.token.Token.{Token}
use Rattle.pp_print.specs.SourceRuns.{Definition, tokens_of, last_outcome, Adds}
use Rattle.pp_print.specs.SourceRuns as adds
use Rattle.pp_print.specs.RunLaws.{ARun}
use Rattle.pp_print.specs.declared.ends.RunEnd.{RunEnd}
use Rattle.pp_print.specs.declared.ends.RunEnd.TheVariants.{Done, Stopped}

-- ---- tokens, and what comes after them

-- what is no token and no `#include` line ends a run
end_of : (o : Outcome) → is_given_token o ≡ false → NoInclude o → (end : RunEnd) × (last_outcome end ≡ o)
end_of (outcome.Token token) h none = cc
end_of (outcome.Fault fault) h none = (Stopped (fault.0) (fault.1), refl)
end_of (outcome.Include line) h none = absurd none
end_of outcome.End h none = (Done, refl)

no_token : (e : Expander SourceReader) (tokens : List Token) (o : Outcome) → Ends (answers_at expansion_limit) e tokens o → is_given_token o ≡ false
no_token e tokens o (ends.last o1 ts e1 f g h p) = h
no_token e tokens o (ends.first token o1 rest ts e1 f g more p) = no_token f rest o more

-- the same expander over a source that is read on; or both hold a fault that asks for nothing
data Alike (e : Expander SourceReader) (e1 : State) : Type 0 where
  same : e1 ≡ going_on [] e → HasFinite e.reader → Alike e e1
  failing : (fault : PlacedFault) → fault.1.asks ≡ None → e.held ≡ Some (taken.Fault fault) → e1.held ≡ Some (taken.Fault fault) → Alike e e1

-- a fault that asks for nothing is no token
fault_no_token : (token : Token) (x : Taken) (fault : PlacedFault) → fault.1.asks ≡ None → x ≡ taken.Fault fault → outcome.Token token ≡ item_of x → ⊥
fault_no_token token x fault asks is e =
    let bad : outcome.Token token ≡ outcome.Fault (unplaced fault) = e ∙ ap item_of is ∙ item_in None fault asks in
    cc

module _ (e : Expander SourceReader) (e1 : State) (fault : PlacedFault) (asks : fault.1.asks ≡ None) (here : e.held ≡ Some (taken.Fault fault)) where
  -- what is held comes next
  held_item : (o : Outcome) (f : Expander SourceReader) → RunGives (answers_at expansion_limit) e o f → o ≡ outcome.Fault (unplaced fault)
  held_item o f g =
      let one = one_item (source_reading (answers_at expansion_limit)) (source_reads_one (answers_at expansion_limit) (one_answer expansion_limit))
      (answers_at expansion_limit) (one_answer expansion_limit) g.taken (found_among e.list (taken.Fault fault)) e f (record e { held = None })
      g.emits (held_next (source_reading (answers_at expansion_limit)) (answers_at expansion_limit) e fault here) in
      g.is ∙ ap item_of one.0 ∙ item_in (outermost_call e.list) fault asks

  held_comes : e1.held ≡ Some (taken.Fault fault) → Comes e1 (outcome.Fault (unplaced fault)) (record e1 { held = None })
  held_comes there = record {
    taken = found_among e1.list (taken.Fault fault);
    emits = held_next source_rules (answers_at expansion_limit) e1 fault there;
    is = sym (item_in (outermost_call e1.list) fault asks);
  }

alike_after : (token : Token) (x : Taken) (f : Expander SourceReader) (g : State) → HasFinite g.reader.reader → outcome.Token token ≡ item_of x
    → Giving (answers_at expansion_limit) x f g → Alike f g
alike_after token x f g fine is (goes_on q) = same q (subst (λ (h : State). HasFinite h.reader.reader) q fine)
alike_after token x f g fine is (holds fault asks h h1 around) = failing fault asks h h1
alike_after token x f g fine is (stops fault q asks) = absurd (fault_no_token token x fault asks q is)

is_run_from : (e : Expander SourceReader) (e1 : State) → Alike e e1 → (tokens : List Token) (o : Outcome) → Ends (answers_at expansion_limit) e tokens o
    → IsRunFrom e1 tokens o
is_run_from e e1 (same z finite) tokens o (ends.last o1 ts e2 f g h p) =
    let on = emits_on (answers_at expansion_limit) (one_answer expansion_limit) (an_answer expansion_limit) g.taken e f finite g.emits in
    rw z (record {
      before = going_on [] e;
      gives = nothing tokens (going_on [] e) (going_on [] e) p refl;
      after = on.after;
      ends = record { taken = g.taken; emits = on.emits; is = g.is };
    })
is_run_from e e1 (failing fault asks here there) tokens o (ends.last o1 ts e2 f g h p) = record {
  before = e1;
  gives = nothing tokens e1 e1 p refl;
  after = record e1 { held = None };
  ends = subst (λ (x : Outcome). Comes e1 x (record e1 { held = None })) (sym (held_item e e1 fault asks here o f g)) (held_comes e e1 fault asks here there);
}
is_run_from e e1 (same z finite) tokens o (ends.first token o1 rest ts e2 f g more p) =
    let on = emits_on (answers_at expansion_limit) (one_answer expansion_limit) (an_answer expansion_limit) g.taken e f finite g.emits in
    let run = is_run_from f on.after (alike_after token g.taken f on.after on.fine g.is on.giving) rest o more in
    rw z (record {
      before = run.before;
      gives = first token rest tokens (going_on [] e) on.after run.before (record { taken = g.taken; emits = on.emits; is = g.is }) run.gives p;
      after = run.after;
      ends = run.ends;
    })
is_run_from e e1 (failing fault asks here there) tokens o (ends.first token o1 rest ts e2 f g more p) =
    let bad : outcome.Token token ≡ outcome.Fault (unplaced fault) = held_item e e1 fault asks here (outcome.Token token) f g in
    cc

-- ---- definitions

-- the state after definitions were added, in which finitely many names are defined, and no text is asked for
record Added (e : Expander SourceReader) (ds : List Definition) : Type 0 where
  after : Expander SourceReader
  adds : Adds (going_on [] e) ds (going_on [] after)
  finite : HasFinite after.reader
  unasked : HoldsUnasked after
  quiet : IsQuietReader after.reader

added_first : (e : Expander SourceReader) (d : Definition) (ds : List Definition) → (x : Result (List Token) Fault) → tokens_of d ≡ x → IsOk x
    → ((tokens : List Token) → Added (with_added (chars d.0.now) tokens e) ds) → Added e (d ∷ ds)
added_first e d ds (Ok tokens) p ok more =
    let rest = more tokens in
    record { after = rest.after; adds = adds.first d tokens ds (going_on [] e) (d ∷ ds) (going_on [] rest.after) p rest.adds refl; finite = rest.finite; unasked = rest.unasked; quiet = rest.quiet }
added_first e d ds (Err fault) p ok more = cc

added : (ds : List Definition) (e : Expander SourceReader) → HasFinite e.reader → HoldsUnasked e → IsQuietReader e.reader → All (λ d. IsOk (tokens_of d)) ds → Added e ds
added [] e finite unasked quiet accepted =
    record { after = e; adds = adds.none (going_on [] e) [] (going_on [] e) refl refl; finite = finite; unasked = unasked; quiet = quiet }
added (d ∷ ds) e finite unasked quiet accepted =
    added_first e d ds (tokens_of d) refl (All-head (λ d. IsOk (tokens_of d)) d ds accepted)
    (λ tokens. added ds (with_added (chars d.0.now) tokens e) (with_one e.reader.definitions (chars d.0.now) finite (object_like (e.reader.contents + 1) tokens))
    unasked quiet (All-tail (λ d. IsOk (tokens_of d)) d ds accepted))

-- A source and definitions have a run.
pub a_run_of : ARun
a_run_of source ds accepted =
    let a = added ds (start (items_of source)) (start_finite pp_rs (items_of source)) tt refl accepted in
    let e = an_end (answers_at expansion_limit) (an_answer expansion_limit) a.after a.finite in
    let none = ends_quietly (answers_at expansion_limit) (calls_unasked expansion_limit) a.after e.0 e.1 e.2 a.unasked a.quiet in
    let end = end_of e.1 (no_token a.after e.0 e.1 e.2) none in (
      e.0,
      end.0,
      record {
        state = going_on [] a.after;
        adds = a.adds;
        run = rw end.1 (is_run_from a.after (going_on [] a.after) (same refl a.finite) e.0 e.1 e.2);
      },
    )
