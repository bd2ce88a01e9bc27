-- The items of a preprocessor, gathered one after another.
use Rattle.std.proofs.Common.{◌≡◌, ◌∙◌, ◌⊎◌, append_assoc, inl, inr, Bool, true, false, List, [], ◌∷◌, ◌++◌, refl, ap, sym, subst, Option, Some, None}
use Rattle.std.specs.Prelude.{Ok, Err, MatchBool}
use Rattle.std.proofs.lemmas.List.{append-nil}
use Rattle.std.proofs.lemmas.List.Elements.{All-nil, All-push}
use Rattle.pp_rs.specs.Collecting.{ItemsCome, AreItemsFrom, Reports, AreReported, HaveComeFrom, HaveCome, AreAll, AreAppended, AreAllAppended}
use Rattle.pp_rs.specs.Collecting.{AreNextItems, nothing, one_more, AreItemsToEnd, of_list, of_item, IsDrained}
use Rattle.pp_rs.specs.Comes.{State, Comes}
use Rattle.pp_macros.specs.Held.{ItemHoldsOrdinary}
use Rattle.pp_macros.specs.Item.{Item}
use Rattle.pp_rs.specs.Kept.{Preprocessing, Stands, is_spent, errors_left, error_place, asked_line, rules_of}
use Rattle.pp_rs.specs.Preprocessing.{Asks, outcome_of, is_refusal, ReportsAnswer, ReportsError, IsRefusedItem, IsGivenItem, IsNextItem}
use Rattle.pp_rs.specs.Preprocessing as error
use Rattle.pp_rs.specs.Collecting as report
use Rattle.pp_macros.specs.LexerErrors.{ErrorAt}
use Rattle.pp_lexer.specs.declared.rules.Rules.{Rules}
use Rattle.pp_lexer.specs.declared.token.Location.{Location}

-- one more item
items_more : (rules : Rules) (items : List Item) (item : Item) (asked : Option Location) (e f g : State) → ItemsCome rules e items f
    → Asks rules (Some item) asked → Comes f (outcome_of (Some item) asked) g → ItemsCome rules e (items ++ item ∷ []) g
items_more rules [] item asked e f g same asks comes = (asked, g, asks, subst (λ s. Comes s (outcome_of (Some item) asked) g) same comes, refl)
items_more rules (i ∷ items) item asked e f g (at, next, allowed, here, later) asks comes =
    (at, next, allowed, here, items_more rules items item asked next f g later asks comes)

module _ (rules : Rules) (state : State) (items : List Item) (now new : Preprocessing) (same : rules_of now ≡ rules) where
  -- one item more
  item_more : (item : Item) → is_spent now ≡ false → HaveComeFrom rules state items now → IsGivenItem now (Some item) new
      → HaveComeFrom rules state (items ++ item ∷ []) new
  item_more item ready h given =
      let next = given.item h.0 (h.2 ready) in
      let asks = subst (λ (rs : Rules). Asks rs (Some item) (asked_line new)) same given.asks in
      (next.after, items_more rules items item (asked_line new) state h.0 next.after h.1 asks next.emits, λ unspent. next.goes_on)

  -- memory for the next one was refused
  item_refused : is_spent new ≡ true → HaveComeFrom rules state items now → HaveComeFrom rules state items new
  item_refused spent h = (h.0, h.1, λ unspent. let bad : true ≡ false = sym spent ∙ unspent in cc)

  -- after the last one
  items_end : is_spent now ≡ false → HaveComeFrom rules state items now → IsGivenItem now None new → AreItemsFrom rules state items
  items_end ready h given = let next = given.item h.0 (h.2 ready) in (h.0, h.1, next.after, next.emits)

-- what items report, and then what others do
reports_then : (passes : Bool) (items others : List Item) (left after more : List ErrorAt) (place there last : Location)
    → Reports passes items left place after there → Reports passes others after there more last → Reports passes (items ++ others) left place more last
reports_then passes items others left after more place there last (report.none items1 left1 after1 place1 last1 e l p) h =
    rw (e, ← l, ← p) h
reports_then passes items others left after more place there last (report.passed items1 left1 ones after1 place1 last1 l r) h =
    report.passed (items ++ others) left ones more place last l (reports_then passes items others ones after more place there last r h)
reports_then passes items others left after more place there last (report.token first rest items1 left1 after1 place1 last1 r e) h =
    report.token first (rest ++ others) _ left more place last (reports_then passes rest others left after more place there last r h) (ap (λ i. i ++ others) e)
reports_then passes items others left after more place there last (report.of_lexer first at rest items1 ones left1 after1 place1 last1 l r e) h =
    report.of_lexer first at (rest ++ others) _ ones left more place last l (reports_then passes rest others ones after more at there last r h) (ap (λ i. i ++ others) e)
reports_then passes items others left after more place there last (report.of_its_own first rest items1 left1 after1 place1 last1 r e) h =
    report.of_its_own first (rest ++ others) _ left more place last (reports_then passes rest others left after more first.1 there last r h) (ap (λ i. i ++ others) e)

-- what one item reports, and what the end does
module _ (now new : Preprocessing) where
  reports_answer : (passes : Bool) (left : List ErrorAt) (item : Item) → ReportsAnswer (Some item) left (error_place now) new
      → Reports passes (item ∷ []) left (error_place now) (errors_left new) (error_place new)
  reports_answer passes left (Ok first) h = report.token first [] _ _ _ _ _ (report.none [] _ _ _ _ refl h.0 h.1) refl
  reports_answer passes left (Err fault) (error.of_lexer h) =
      report.of_lexer fault (error_place new) [] _ (errors_left new) _ _ _ _ h (report.none [] _ _ _ _ refl refl refl) refl
  reports_answer passes left (Err fault) (error.of_its_own p l) = report.of_its_own fault [] _ _ _ _ _ (report.none [] _ _ _ _ refl l p) refl

  reports_item : (item : Item) → ReportsError (Some item) now new → AreReported now (item ∷ []) new
  reports_item item h =
      let passes = (rules_of now).passes_dead_errors in
      report.passed _ _ h.left _ _ _ h.passes (reports_answer passes h.left item h.reports)

  reports_end : ReportsError None now new → AreReported now [] new
  reports_end h =
      report.passed [] _ h.left _ _ _ h.passes (report.none [] _ _ _ _ refl (h.reports.1 ∙ sym h.reports.0) h.reports.2)

-- what later items report is reported from the start
reported_more : (old now new : Preprocessing) (items more : List Item) → rules_of now ≡ rules_of old → AreReported old items now
    → AreReported now more new → AreReported old (items ++ more) new
reported_more old now new items more same h k =
    reports_then (rules_of old).passes_dead_errors items more _ _ _ _ _ _ h
    (subst (λ (rules : Rules). Reports rules.passes_dead_errors more (errors_left now) (error_place now) (errors_left new) (error_place new)) same k)

-- the items that were gathered, and the preprocessor after them
pub record Gathered (old : Preprocessing) (items : List Item) (now : Preprocessing) : Type 0 where
  pub spent : is_spent now ≡ is_spent old
  pub come : HaveCome old items now
  pub reported : AreReported old items now
  pub same : is_spent old ≡ true → now ≡ old
  pub by_next : AreNextItems old items now
  pub rules : rules_of now ≡ rules_of old

pub gathered_none : (old : Preprocessing) (items : List Item) → items ≡ [] → Gathered old items old
gathered_none old items e = record {
  spent = refl;
  come = record {
    none = λ spent. e;
    came = λ ready state stands. rw e (state, refl, λ unspent. stands);
    holds = rw e (All-nil ItemHoldsOrdinary);
    reports = λ unspent. report.none items _ _ _ _ e refl refl;
    by_next = of_list (nothing items old old e refl) refl;
  };
  reported = report.none items _ _ _ _ e refl refl;
  same = λ spent. refl;
  by_next = nothing items old old e refl;
  rules = refl;
}

-- an item comes only where memory was not refused before
ready_for : (spent : Bool) (item : Item) (A B : Type 0) → MatchBool spent (◌≡◌ {A = Option Item} (Some item) None × A) B → (spent ≡ false) × B
ready_for true item A B h = let bad = h.0 in cc
ready_for false item A B h = (refl, h)

module _ (now new : Preprocessing) (item : Item) (next : IsNextItem now (Some item) new) where
  ready : (is_spent now ≡ false) × (IsRefusedItem (Some item) new ⊎ IsGivenItem now (Some item) new)
  ready = ready_for (is_spent now) item (new ≡ now) (IsRefusedItem (Some item) new ⊎ IsGivenItem now (Some item) new) next.gives

  given_by : IsRefusedItem (Some item) new ⊎ IsGivenItem now (Some item) new → is_refusal (Some item) ≡ false → IsGivenItem now (Some item) new
  given_by (inl refused) reported = let bad : is_refusal (Some item) ≡ true = ap is_refusal refused.item in cc
  given_by (inr given) reported = given

  pub gathered_more : (old : Preprocessing) (items more : List Item) → Gathered old items now → is_refusal (Some item) ≡ false
      → more ≡ items ++ item ∷ [] → Gathered old more new
  gathered_more old items more g reported e =
      let given = given_by ready.1 reported in
      let fresh : is_spent old ≡ false = sym g.spent ∙ ready.0 in
      let all : AreReported old more new = rw e (reported_more old now new items (item ∷ []) g.rules g.reported (reports_item now new item given.reports)) in
      let chain : AreNextItems old more new = one_more item items more old now new g.by_next next e in
      let unspent : is_spent new ≡ is_spent old = given.spent ∙ sym fresh in
      record {
        spent = unspent;
        come = record {
          none = λ spent. let bad : true ≡ false = sym spent ∙ fresh in cc;
          came = λ start state stands. rw e (item_more (rules_of old) state items now new g.rules item ready.0 (g.come.came start state stands) given);
          holds = rw e (All-push ItemHoldsOrdinary items item g.come.holds given.holds);
          reports = λ unspent. all;
          by_next = of_list chain unspent;
        };
        reported = all;
        same = λ spent. let bad : true ≡ false = sym spent ∙ fresh in cc;
        by_next = chain;
        rules = next.rules ∙ g.rules;
      }

  refused_by : IsRefusedItem (Some item) new ⊎ IsGivenItem now (Some item) new → is_refusal (Some item) ≡ true → IsRefusedItem (Some item) new
  refused_by (inl refused) reported = refused
  refused_by (inr given) reported = let bad : true ≡ false = sym reported ∙ given.no_refusal in cc

  -- memory for an item was refused: those before it came
  pub come_before_refusal : (old : Preprocessing) (items : List Item) → Gathered old items now → is_refusal (Some item) ≡ true → HaveCome old items new
  come_before_refusal old items g reported =
      let refused = refused_by ready.1 reported in
      let spent : is_spent new ≡ true = refused.spent in
      record {
        none = g.come.none;
        came = λ start state stands. item_refused (rules_of old) state items now new g.rules spent (g.come.came start state stands);
        holds = g.come.holds;
        reports = λ unspent. let bad : true ≡ false = sym spent ∙ unspent in cc;
        by_next = of_item now g.by_next ready.0 (subst (λ answer. IsNextItem now answer new) refused.item next);
      }

module _ (old : Preprocessing) (items : List Item) (now new : Preprocessing) (g : Gathered old items now) (next : IsNextItem now None new) where
  -- after the end memory was refused before, and nothing has changed, or what was left came
  pub data Ends : Type 0 where
    spent_before : is_spent now ≡ true → new ≡ now → Ends
    ended : is_spent now ≡ false → IsGivenItem now None new → Ends

  ends_by : (spent : Bool) → is_spent now ≡ spent
      → MatchBool spent (◌≡◌ {A = Option Item} None None × (new ≡ now)) (IsRefusedItem None new ⊎ IsGivenItem now None new) → Ends
  ends_by true e h = spent_before e h.1
  ends_by false e (inl refused) = let bad = refused.item in cc
  ends_by false e (inr given) = ended e given

  items_by : (spent : Bool) → is_spent old ≡ spent → Ends → MatchBool spent (items ≡ []) ((state : State) → Stands old state → AreItemsFrom (rules_of old) state items)
  items_by true e h = g.come.none e
  items_by false e (spent_before spent same) = let bad : true ≡ false = sym spent ∙ g.spent ∙ e in cc
  items_by false e (ended ready given) = λ state stands. items_end (rules_of old) state items now new g.rules ready (g.come.came e state stands) given

  to_end : AreItemsToEnd old items new
  to_end = record { last = now; given = g.by_next; ended = next }

  all_by : Ends → AreAll old items new
  all_by (spent_before spent same) = record {
    items_of = items_by (is_spent old) refl (spent_before spent same);
    holds = g.come.holds;
    ended = next.less_left;
    spent = ap is_spent same ∙ g.spent;
    reports = rw same g.reported;
    reports_all = λ fresh. let bad : true ≡ false = sym spent ∙ g.spent ∙ fresh in cc;
    by_next = to_end;
  }
  all_by (ended ready given) = record {
    items_of = items_by (is_spent old) refl (ended ready given);
    holds = g.come.holds;
    ended = next.less_left;
    spent = given.spent ∙ sym ready ∙ g.spent;
    reports = subst (λ (all : List Item). AreReported old all new) (append-nil items)
        (reported_more old now new items [] g.rules g.reported (reports_end now new given.reports));
    reports_all = λ fresh. given.reports.reports.1;
    by_next = to_end;
  }

  -- all items were gathered
  pub gathered_all : AreAll old items new
  gathered_all = all_by (ends_by (is_spent now) refl next.gives)

-- items that were gathered, and put at the list's end
pub record Appended (old : Preprocessing) (before items : List Item) (now : Preprocessing) : Type 0 where
  pub more : List Item
  pub are_last : items ≡ before ++ more
  pub gathered : Gathered old more now

pub appended_none : (old : Preprocessing) (items : List Item) → Appended old items items old
appended_none old items = record { more = []; are_last = sym (append-nil items); gathered = gathered_none old [] refl }

pub appended_more : (old : Preprocessing) (before items all : List Item) (now new : Preprocessing) (item : Item) → IsNextItem now (Some item) new
    → Appended old before items now → is_refusal (Some item) ≡ false → all ≡ items ++ item ∷ [] → Appended old before all new
appended_more old before items all now new item next a reported e = record {
  more = a.more ++ item ∷ [];
  are_last = e ∙ ap (λ i. i ++ item ∷ []) a.are_last ∙ append_assoc before a.more (item ∷ []);
  gathered = gathered_more now new item next old a.more (a.more ++ item ∷ []) a.gathered reported refl;
}

-- memory for the list was refused
pub appended_now : (old : Preprocessing) (before items : List Item) (now : Preprocessing) → Appended old before items now → AreAppended old before items now
appended_now old before items now a = record { more = a.more; are_last = a.are_last; came = a.gathered.come }

-- memory for an item was refused
pub appended_before : (old : Preprocessing) (before items : List Item) (now new : Preprocessing) (item : Item) → IsNextItem now (Some item) new
    → Appended old before items now → is_refusal (Some item) ≡ true → AreAppended old before items new
appended_before old before items now new item next a reported = record {
  more = a.more;
  are_last = a.are_last;
  came = come_before_refusal now new item next old a.more a.gathered reported;
}

-- the end was given
pub appended_all : (old : Preprocessing) (before items : List Item) (now new : Preprocessing) → IsNextItem now None new
    → Appended old before items now → AreAllAppended old before items new
appended_all old before items now new next a = record { more = a.more; are_last = a.are_last; all = gathered_all old a.more now new a.gathered next }

-- Items that were dropped: each was given, or memory was refused to the last one.
pub data Dropped (old now : Preprocessing) : Type 0 where
  each : (items : List Item) → Gathered old items now → Dropped old now
  last_refused : (items : List Item) → AreNextItems old items now → is_spent old ≡ false → is_spent now ≡ true → Dropped old now

pub dropped_none : (old : Preprocessing) → Dropped old old
dropped_none old = each [] (gathered_none old [] refl)

module _ (old now new : Preprocessing) (item : Item) (next : IsNextItem now (Some item) new) where
  dropped_by : (items : List Item) (refused : Bool) → is_refusal (Some item) ≡ refused → Gathered old items now → Dropped old new
  dropped_by items false e g = each (items ++ (item ∷ [])) (gathered_more now new item next old items (items ++ (item ∷ [])) g e refl)
  dropped_by items true e g =
      let here = ready now new item next in
      last_refused (items ++ (item ∷ [])) (one_more item items (items ++ (item ∷ [])) old now new g.by_next next refl)
      (sym g.spent ∙ here.0) ((refused_by now new item next here.1 e).spent)

  pub dropped_more : Dropped old now → Dropped old new
  dropped_more (each items g) = dropped_by items (is_refusal (Some item)) refl g
  dropped_more (last_refused items by_next fresh spent) = let bad : true ≡ false = sym spent ∙ (ready now new item next).0 in cc

module _ (old now new : Preprocessing) (next : IsNextItem now None new) where
  -- where memory ran out before, nothing changes
  still_spent : is_spent now ≡ true → is_spent new ≡ true
  still_spent spent = ap is_spent (rw spent at next.gives).1 ∙ spent

  -- the end was given, and the items before it were dropped
  pub drained : Dropped old now → IsDrained old new
  drained (each items g) = record {
    items = items;
    by_next = record { last = now; given = g.by_next; ended = next };
    all = λ same. gathered_all old items now new g next;
  }
  drained (last_refused items by_next fresh spent) = record {
    items = items;
    by_next = record { last = now; given = by_next; ended = next };
    all = λ same. let bad : true ≡ false = sym (still_spent spent) ∙ same ∙ fresh in cc;
  }

  pub drained_reports : Dropped old now → is_spent new ≡ false → errors_left new ≡ []
  drained_reports (each items g) unspent =
      let all = gathered_all old items now new g next in
      all.reports_all (sym all.spent ∙ unspent)
  drained_reports (last_refused items by_next fresh spent) unspent = let bad : true ≡ false = sym (still_spent spent) ∙ unspent in cc
