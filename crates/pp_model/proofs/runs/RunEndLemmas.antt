-- After the end a run gives no item, no matter what is added.
use Rattle.std.proofs.Common.{◌≡◌, ◌∙◌, true, false, List, [], ◌∷◌, ◌++◌, refl, ap, sym, Option, Some, None}
use Rattle.std.specs.Prelude.{All}
use Rattle.std.specs.List.{list_any}
use Rattle.std.proofs.lemmas.List.Elements.{All-nil, All-cons}
use Rattle.pp_lexer.specs.declared.rules.Rules.{Rules}
use Rattle.pp_lexer.specs.declared.token.Location.{Location}
use Rattle.pp_model.specs.Places.{PlacedFault}
use Rattle.pp_model.specs.Calls.{Answers}
use Rattle.pp_model.specs.Reading.{Expander}
use Rattle.pp_model.specs.SourceReader.{SourceReader}
use Rattle.pp_model.specs.Run.{by_rules, Call, items_by, start_by, with_added, without_end, with_included, Runs, done, added, refused, included, too_deep, given, failed}
use Rattle.pp_model.specs.RunStates.{LeadsTo, EndStays, gives_item, is_included, RunEndsForGood}
use Rattle.pp_model.specs.declared.call.Reply.{Reply}
use Rattle.pp_model.specs.declared.call.Reply.TheVariants as reply
use Rattle.pp_model.specs.declared.outcome.Outcome.{Outcome}
use Rattle.pp_model.specs.declared.outcome.Outcome.TheVariants as outcome
use Rattle.pp_model.specs.declared.read.Taken.{Taken}
use Rattle.pp_model.specs.declared.read.Taken.TheVariants as taken
use Rattle.pp_model.specs.Painting.{fault_item, item_of}
use Rattle.pp_model.proofs.runs.RunLemmas.{each_state}
use Rattle.pp_model.proofs.runs.EndLemmas.{IsOver, HoldsLastEnd, holds_nothing, item_ends, item_when_over}

abbrev IsNoItem : Reply → Type 0
IsNoItem answer = gives_item answer ≡ false

end_is_no_item : (o : Outcome) → o ≡ outcome.End → IsNoItem (reply.Given o)
end_is_no_item o is = rw is refl

-- only the end is the end
item_end : (x : Taken) → item_of x ≡ outcome.End → x ≡ taken.End
item_end taken.End e = refl
item_end (taken.Token read) e = cc
item_end (taken.Fault fault) e = absurd (no_end fault fault.1.asks e)
  where
    no_end : (fault : PlacedFault) (asks : Option Location) → fault_item fault asks ≡ outcome.End → ⊥
    no_end fault (Some rest) e = cc
    no_end fault None e = cc

-- no list that ends here goes on
goes_not_on : (former later : List Reply) (answer : Reply) → [] ≡ former ++ (answer ∷ later) → ⊥
goes_not_on [] later answer h = cc
goes_not_on (first ∷ former) later answer h = cc

-- a definition that is added leaves the end
over_with_added : (name : _) (tokens : _) (e : Expander SourceReader) → IsOver e → IsOver (with_added name tokens e)
over_with_added name tokens e over =
    record {
      none_held = over.none_held;
      none_listed = over.none_listed;
      at_end = record { nothing_left = over.at_end.nothing_left; all_reported = over.at_end.all_reported; outermost = over.at_end.outermost };
    }

module _ (A : Answers) where
  last_end_with_added : (name : _) (tokens : _) (e : Expander SourceReader) → HoldsLastEnd e → HoldsLastEnd (with_added name tokens e)
  last_end_with_added name tokens e last h =
      let there = last h in
      (there.0, record { nothing_left = there.1.nothing_left; all_reported = there.1.all_reported; outermost = there.1.outermost })

  -- an end isn't held once a text is included
  no_end_held : (held : Option Taken) → without_end held ≡ Some taken.End → ⊥
  no_end_held (Some (taken.Token read)) h = cc
  no_end_held (Some (taken.Fault fault)) h = cc
  no_end_held (Some taken.End) h = cc
  no_end_held None h = cc

  -- in each state of a run an end that is held is the last,
  leads_to_last_end : (e f : Expander SourceReader) → LeadsTo A true e f → HoldsLastEnd e → HoldsLastEnd f
  leads_to_last_end = each_state A HoldsLastEnd last_end_with_added (λ o e f item last. (item_ends A o e f item last).0) true
      (λ may text by e last h. absurd (no_end_held e.held h))

  -- and from a state where nothing is left only such states are reached, if no text is included
  stays_over : (e f : Expander SourceReader) → LeadsTo A false e f → IsOver e → IsOver f
  stays_over = each_state A IsOver over_with_added (λ o e f item over. (item_when_over A o e f item over).1) false (λ may text by e over. cc)

  pub end_stays : EndStays A
  end_stays rules source o e f g h reached end more item =
      let last = leads_to_last_end (start_by rules source) e reached (holds_nothing (start_by rules source) refl) in
      let over = (item_ends A taken.End e f end last).1 refl in
      (item_when_over A o g h item (stays_over f g more over)).0

  -- where nothing is left no reply is an item, if no text is included
  no_item_when_over : (rules : Rules) (e : Expander SourceReader) (calls : List Call) (replies : List Reply) → Runs (by_rules A) rules e calls replies → IsOver e
      → list_any is_included replies ≡ false → All IsNoItem replies
  no_item_when_over rules e calls replies (done e1 r1 p) over none = rw p (All-nil IsNoItem)
  no_item_when_over rules e calls replies (added name content tokens e1 cs rest r1 h more p) over none =
      rw p (All-cons IsNoItem reply.Added rest refl (no_item_when_over rules (with_added _ tokens e) cs rest more (over_with_added _ tokens e over) (rw p at none)))
  no_item_when_over rules e calls replies (refused name content fault e1 cs rest r1 h more p) over none =
      rw p (All-cons IsNoItem (reply.Refused fault) rest refl (no_item_when_over rules e cs rest more over (rw p at none)))
  no_item_when_over rules e calls replies (included text e1 cs rest r1 h more p) over none = let bad : true ≡ false = rw p at none in cc
  no_item_when_over rules e calls replies (too_deep text e1 cs rest r1 h more p) over none =
      rw p (All-cons IsNoItem reply.TooDeep rest refl (no_item_when_over rules e cs rest more over (rw p at none)))
  no_item_when_over rules e calls replies (given o e1 f cs rest r1 item h more p) over none =
      let after = item_when_over A item.taken e f item.emits over in
      rw p (All-cons IsNoItem (reply.Given o) rest (end_is_no_item o (item.is ∙ ap item_of after.0)) (no_item_when_over rules f cs rest more after.1 (rw p at none)))
  no_item_when_over rules e calls replies (failed fault e1 f cs r1 item p) over none =
      let after = item_when_over A item.taken e f item.emits over in
      let bad : outcome.Fault fault ≡ outcome.End = item.is ∙ ap item_of after.0 in cc

  -- so after the end none is
  no_item_after : (rules : Rules) (e : Expander SourceReader) (calls : List Call) (replies former later : List Reply) → Runs (by_rules A) rules e calls replies
      → HoldsLastEnd e → list_any is_included later ≡ false → replies ≡ former ++ (reply.Given outcome.End ∷ later) → All IsNoItem later
  no_item_after rules e calls replies former later (done e1 r1 p) last none is = absurd (goes_not_on former later (reply.Given outcome.End) (sym p ∙ is))
  no_item_after rules e calls replies [] later (added name content tokens e1 cs rest r1 h more p) last none is = cc
  no_item_after rules e calls replies (first ∷ former) later (added name content tokens e1 cs rest r1 h more p) last none is =
      no_item_after rules (with_added _ tokens e) cs rest former later more (last_end_with_added _ tokens e last) none cc
  no_item_after rules e calls replies [] later (refused name content fault e1 cs rest r1 h more p) last none is = cc
  no_item_after rules e calls replies (first ∷ former) later (refused name content fault e1 cs rest r1 h more p) last none is =
      no_item_after rules e cs rest former later more last none cc
  no_item_after rules e calls replies [] later (included text e1 cs rest r1 h more p) last none is = cc
  no_item_after rules e calls replies (first ∷ former) later (included text e1 cs rest r1 h more p) last none is =
      no_item_after rules (with_included (items_by rules text) e) cs rest former later more (λ h. absurd (no_end_held e.held h)) none cc
  no_item_after rules e calls replies [] later (too_deep text e1 cs rest r1 h more p) last none is = cc
  no_item_after rules e calls replies (first ∷ former) later (too_deep text e1 cs rest r1 h more p) last none is =
      no_item_after rules e cs rest former later more last none cc
  no_item_after rules e calls replies [] later (given o e1 f cs rest r1 item h more p) last none is =
      let end : o ≡ outcome.End = cc in
      let same : rest ≡ later = cc in
      let over = (item_ends A item.taken e f item.emits last).1 (item_end item.taken (sym item.is ∙ end)) in
      rw same at (no_item_when_over rules f cs rest more over (rw same none))
  no_item_after rules e calls replies (first ∷ former) later (given o e1 f cs rest r1 item h more p) last none is =
      no_item_after rules f cs rest former later more (item_ends A item.taken e f item.emits last).0 none cc
  no_item_after rules e calls replies [] later (failed fault e1 f cs r1 item p) last none is = cc
  no_item_after rules e calls replies (first ∷ former) later (failed fault e1 f cs r1 item p) last none is =
      absurd (goes_not_on former later (reply.Given outcome.End) cc)

  pub run_ends_for_good : RunEndsForGood A
  run_ends_for_good rules source calls former later run none =
      no_item_after rules (start_by rules source) calls _ former later run (holds_nothing (start_by rules source) refl) none refl
