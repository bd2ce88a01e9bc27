-- The replies to a list of calls, one after another.
use Rattle.std.proofs.Common.{◌≡◌, ◌∙◌, ◌<◌, ◌+◌, ℕ, length, take, drop, get_or, append_assoc, append-nil, true, false, List, [], ◌∷◌, ◌++◌, map, refl, ap, sym, subst, Ok, Err, Option, Some, None, inl, inr}
use Rattle.std.specs.Str.{chars}
use Rattle.std.proofs.lemmas.List.{take_more, take-append-drop, map-append}
use Rattle.pp_lexer.specs.declared.rules.Rules.{Rules}
use Rattle.pp_lexer.specs.PreprocessorError.{out_of_memory}
use Rattle.pp_lexer.specs.declared.token.Location.{Location}
use Rattle.pp_lexer.specs.declared.token.Token.{Token}
use Rattle.pp_model.specs.Places.{Fault}
use Rattle.pp_model.specs.Run.{Call, call_of, add_define, include, next, items_by}
use Rattle.pp_model.specs.RunToEnd as to_end
use Rattle.pp_model.specs.declared.call.Call.{Call as Called}
use Rattle.pp_model.specs.declared.call.Reply.{Reply}
use Rattle.pp_model.specs.declared.call.Reply.TheVariants as reply
use Rattle.pp_model.specs.declared.outcome.Outcome.TheVariants as outcome
use Rattle.pp_model.specs.declared.outcome.Outcome.{Outcome}
use Rattle.pp_rs.specs.Adding.{IsAdded, refused, faulty, added}
use Rattle.pp_rs.specs.inner.Answering.{RunFrom, IsAnswered, AreReplies}
use Rattle.pp_rs.specs.Comes.{State, with_added, with_included, Comes}
use Rattle.pp_macros.specs.Item.{Item, is_out_of_memory}
use Rattle.pp_rs.specs.Including.{IsIncluded, too_deep, included}
use Rattle.pp_rs.specs.Including as including
use Rattle.pp_rs.specs.Kept.{Preprocessing, Stands, is_spent, asked_line, rules_of}
use Rattle.pp_rs.specs.Preprocessing.{IsNextItem, IsGivenItem, outcome_of}
use Rattle.pp_rs.specs.declared.pp.including.IncludeError.TheVariants.{TooDeep}
use Rattle.pp_rs.proofs.runs.ComesLemmas.{given_run}

module _ (old new : Preprocessing) (ready : is_spent old ≡ false) where
  -- a definition that was added
  pub added_answered : (name content : List ℕ) → IsAdded old name content (Ok tt) new → IsAnswered old (add_define name content) reply.Added new
  added_answered name content (refused given same) = cc
  added_answered name content (faulty fault has given same) = cc
  added_answered name content (added tokens has given h) = record {
    unspent = h.spent ∙ ready;
    rules = h.rules;
    leads = λ state stands.
        let after : State = with_added (chars name) tokens state in
        (after, h.stands state stands, λ calls rest run. to_end.added name content tokens state calls rest _ has run refl);
  }

  -- nothing changed
  stays_answered : (call : Call) (answer : Reply) → new ≡ old
      → ((state : State) (calls : List Call) (rest : List Reply) → RunFrom (rules_of old) state calls rest
      → RunFrom (rules_of old) state (call ∷ calls) (answer ∷ rest))
      → IsAnswered old call answer new
  stays_answered call answer same more = record {
    unspent = ap is_spent same ∙ ready;
    rules = ap rules_of same;
    leads = λ state stands. (state, subst (λ (p : Preprocessing). Stands p state) (sym same) stands, more state);
  }

  -- one that was refused, for another reason than a refusal of memory
  pub refused_answered : (name content : List ℕ) (fault : Fault) → is_out_of_memory fault.0 ≡ false → IsAdded old name content (Err fault) new
      → IsAnswered old (add_define name content) (reply.Refused fault) new
  refused_answered name content fault reported (refused given same) =
      let wanted : fault ≡ out_of_memory = cc in
      let bad : true ≡ false = sym (ap (λ (f : Fault). is_out_of_memory f.0) wanted) ∙ reported in
      cc
  refused_answered name content fault reported (faulty other has given same) =
      let this : other ≡ fault = cc in
      stays_answered (add_define name content) (reply.Refused fault) same
      (λ state calls rest run. to_end.refused name content fault state calls rest _ (rw this at has) run refl)
  refused_answered name content fault reported (added tokens has given h) = cc

  -- an item that was given
  given_answered : (answer : Option Item) (o : Outcome) → outcome_of answer (asked_line new) ≡ o → IsGivenItem old answer new → rules_of new ≡ rules_of old
      → IsAnswered old next (reply.Given o) new
  given_answered answer o is given same = record {
    unspent = given.spent;
    rules = same;
    leads = λ state stands.
        let item = given.item state stands in (
          item.after,
          item.goes_on,
          λ calls rest run. given_run (rules_of old) o state item.after calls rest
              (subst (λ (x : Outcome). Comes state x item.after) is item.emits) run,
        );
  }

  pub token_answered : (token : Token) → IsNextItem old (Some (Ok token)) new → IsAnswered old next (reply.Given (outcome.Token token)) new
  token_answered token h = elim (rw ready at h.gives) [
    | inl wants ↦ let e = wants.item in cc
    | inr given ↦ given_answered (Some (Ok token)) (outcome.Token token) refl given h.rules
  ]

  pub end_answered : IsNextItem old None new → IsAnswered old next (reply.Given outcome.End) new
  end_answered h = elim (rw ready at h.gives) [
    | inl wants ↦ let e = wants.item in cc
    | inr given ↦ given_answered None outcome.End refl given h.rules
  ]

  pub fault_answered : (fault : Fault) (asked : Option Location) → is_out_of_memory fault.0 ≡ false → asked ≡ asked_line new
      → IsNextItem old (Some (Err fault)) new → IsAnswered old next (reply.Given (outcome_of (Some (Err fault)) asked)) new
  fault_answered fault asked reported is h = elim (rw ready at h.gives) [
    | inl wants ↦
        (let e = wants.item in
        let wanted : fault ≡ out_of_memory = cc in
        let bad : true ≡ false = sym (ap (λ (f : Fault). is_out_of_memory f.0) wanted) ∙ reported in
        cc)
    | inr given ↦ given_answered (Some (Err fault)) (outcome_of (Some (Err fault)) asked)
        (ap (outcome_of (Some (Err fault))) (sym is)) given h.rules
  ]

  -- a text that was included
  pub text_answered : (text : List ℕ) → IsIncluded old text (Ok tt) new → IsAnswered old (include text) reply.Included new
  text_answered text (including.refused given same) = cc
  text_answered text (too_deep full given same) = cc
  text_answered text (included given h) = record {
    unspent = h.spent ∙ ready;
    rules = h.rules;
    leads = λ state stands.
        let after : State = with_included (items_by (rules_of old) text) state in
        (after, h.stands state stands, λ calls rest run. to_end.included text state calls rest _ (h.room state stands) run refl);
  }

  -- one that would be inside too many others
  pub deep_answered : (text : List ℕ) → IsIncluded old text (Err TooDeep) new → IsAnswered old (include text) reply.TooDeep new
  deep_answered text (including.refused given same) = cc
  deep_answered text (too_deep full given same) = record {
    unspent = ap is_spent same ∙ ready;
    rules = ap rules_of same;
    leads = λ state stands. (
      state,
      subst (λ (p : Preprocessing). Stands p state) (sym same) stands,
      λ calls rest run. to_end.too_deep text state calls rest _ (full state stands) run refl,
    );
  }
  deep_answered text (included given h) = cc

-- the calls up to one and with it
pub calls_more : (calls : List Called) (i : ℕ) (other : Called) → i < length calls
    → map call_of (take (i + 1) calls) ≡ map call_of (take i calls) ++ call_of (get_or calls i other) ∷ []
calls_more calls i other within = ap (map call_of) (take_more calls i other within) ∙ map-append call_of (take i calls) (get_or calls i other ∷ [])

-- and those after it
pub calls_cut : (calls : List Called) (i : ℕ) (other : Called) → i < length calls
    → map call_of calls ≡ map call_of (take i calls) ++ call_of (get_or calls i other) ∷ map call_of (drop (i + 1) calls)
calls_cut calls i other within =
    ap (map call_of) (sym (take-append-drop (i + 1) calls)) ∙ map-append call_of (take (i + 1) calls) (drop (i + 1) calls)
    ∙ ap (λ (cs : List Call). cs ++ map call_of (drop (i + 1) calls)) (calls_more calls i other within)
    ∙ append_assoc (map call_of (take i calls)) (call_of (get_or calls i other) ∷ []) (map call_of (drop (i + 1) calls))

-- the calls that were answered, and the preprocessor after them
pub record Replied (old : Preprocessing) (calls : List Call) (replies : List Reply) (now : Preprocessing) : Type 0 where
  pub unspent : is_spent now ≡ false
  pub rules : rules_of now ≡ rules_of old
  pub leads : (state : State) → Stands old state
      → (after : State) × Stands now after
      × ((later : List Call) (rest : List Reply) → RunFrom (rules_of old) after later rest
      → RunFrom (rules_of old) state (calls ++ later) (replies ++ rest))

-- none before the first
pub replied_none : (old : Preprocessing) (replies : List Reply) → is_spent old ≡ false → replies ≡ [] → Replied old [] replies old
replied_none old replies unspent is = rw is (record {
  unspent = unspent;
  rules = refl;
  leads = λ state stands. (state, stands, λ later rest run. run);
})

-- one more
pub replied_more : (old : Preprocessing) (before : List Call) (call : Call) (given : List Reply) (answer : Reply) (now new : Preprocessing)
    → Replied old before given now → (calls : List Call) (replies : List Reply) → IsAnswered now call answer new
    → calls ≡ before ++ call ∷ [] → replies ≡ given ++ answer ∷ [] → Replied old calls replies new
replied_more old before call given answer now new r calls replies h cut is = rw (cut, is) (record {
  unspent = h.unspent;
  rules = h.rules ∙ r.rules;
  leads = λ state stands.
      let first = r.leads state stands in
      let one = h.leads first.0 first.1 in (
        one.0,
        one.1,
        λ later rest run. subst (λ (cs : List Call). RunFrom (rules_of old) state cs ((given ++ answer ∷ []) ++ rest))
            (sym (append_assoc before (call ∷ []) later))
            (subst (λ (rs : List Reply). RunFrom (rules_of old) state (before ++ call ∷ later) rs) (sym (append_assoc given (answer ∷ []) rest))
            (first.2 (call ∷ later) (answer ∷ rest) (subst (λ (rules : Rules). RunFrom rules first.0 (call ∷ later) (answer ∷ rest)) r.rules
            (one.2 later rest (subst (λ (rules : Rules). RunFrom rules one.0 later rest) (sym r.rules) run))))),
      );
})

-- all of them
pub replied_all : (old : Preprocessing) (calls same : List Call) (replies : List Reply) (now : Preprocessing) → Replied old same replies now
    → calls ≡ same → AreReplies old calls replies
replied_all old calls same replies now r e = λ state stands.
    let all = r.leads state stands in
    rw e (subst (λ (cs : List Call). RunFrom (rules_of old) state cs replies) (append-nil same)
    (subst (λ (rs : List Reply). RunFrom (rules_of old) state (same ++ []) rs) (append-nil replies) (all.2 [] [] (to_end.done all.0 [] refl))))
