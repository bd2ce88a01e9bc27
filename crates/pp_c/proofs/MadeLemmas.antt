-- Calls of the preprocessor, one after another.
use Rattle.std.proofs.Common.{◌≡◌, ◌∙◌, ℕ, List, [], ◌∷◌, ◌++◌, map, refl, ap, sym, subst, Option, Some, None, option_map}
use Rattle.std.specs.Prelude.{Err}
use Rattle.std.specs.List.{AllByRecursion as Each}
use Rattle.std.specs.Str.{chars}
use Rattle.pp_macros.specs.LexerErrors.{ErrorAt, lexer_errors_by}
use Rattle.pp_model.specs.Emitting.{answers_at, expansion_limit}
use Rattle.pp_model.specs.Run.{Call, next, items_by}
use Rattle.pp_model.specs.RunToEnd as run
use Rattle.pp_model.specs.RunToEnd.{RunsToEnd}
use Rattle.pp_model.specs.declared.call.Reply.{Reply}
use Rattle.pp_model.specs.declared.call.Reply.TheVariants as reply
use Rattle.pp_rs.specs.Comes.{State, Comes, start_by, with_added, with_included}
use Rattle.pp_rs.specs.Kept.{Preprocessing, Stands, errors_left, asked_line, rules_of}
use Rattle.pp_rs.specs.declared.rules.Rules.{Rules}
use Rattle.pp_rs.specs.Preprocessing.{outcome_of, Asks}
use Rattle.pp_rs.specs.Preprocessing as place
use Rattle.pp_rs.proofs.runs.ComesLemmas.{given_run}
use Rattle.pp_c.specs.Preprocessed.{Given, token, error, answered_outcome, replies_to_next, ErrorsStand, IsPossibleAnswer, AreAnswersBy}
use Rattle.pp_c.specs.Preprocessed as stand
use Rattle.pp_c.specs.inner.Making.{Made, GivesNext, item_of}
use Rattle.pp_c.specs.inner.Making as made

-- some calls and then others
pub made_then : (p q r : Preprocessing) (calls others : List Call) (answers later : List (Option Given)) → Made p calls answers q → Made q others later r
    → Made p (calls ++ others) (answers ++ later) r
made_then p q r calls others answers later (made.none p1 q1 c a ce ae e) h = rw (ce, ae, ← e) h
made_then p q r calls others answers later (made.added name content tokens p1 q1 r1 rest c a has w m e) h =
    made.added name content tokens p q1 r (rest ++ others) _ _ has w (made_then q1 q r rest others answers later m h) (ap (λ cs. cs ++ others) e)
made_then p q r calls others answers later (made.refused name content fault p1 r1 rest c a has m e) h =
    made.refused name content fault p r (rest ++ others) _ _ has (made_then p q r rest others answers later m h) (ap (λ cs. cs ++ others) e)
made_then p q r calls others answers later (made.included text p1 q1 r1 rest c a w m e) h =
    made.included text p q1 r (rest ++ others) _ _ w (made_then q1 q r rest others answers later m h) (ap (λ cs. cs ++ others) e)
made_then p q r calls others answers later (made.gave answer p1 q1 r1 rest c ones a g m e b) h =
    made.gave answer p q1 r (rest ++ others) _ (ones ++ later) _ g (made_then q1 q r rest others ones later m h) (ap (λ cs. cs ++ others) e) (ap (λ given. given ++ later) b)

-- the rules stay
pub made_rules : (p q : Preprocessing) (calls : List Call) (answers : List (Option Given)) → Made p calls answers q → rules_of q ≡ rules_of p
made_rules p q calls answers (made.none p1 q1 c a ce ae e) = ap rules_of e
made_rules p q calls answers (made.added name content tokens p1 q1 r1 rest c a has w m e) = made_rules q1 q rest answers m ∙ w.rules
made_rules p q calls answers (made.refused name content fault p1 r1 rest c a has m e) = made_rules p q rest answers m
made_rules p q calls answers (made.included text p1 q1 r1 rest c a w m e) = made_rules q1 q rest answers m ∙ w.rules
made_rules p q calls answers (made.gave answer p1 q1 r1 rest c others a g m e b) = made_rules q1 q rest others m ∙ g.rules

-- a run with these answers, by these rules
record HasRun (rules : Rules) (state : State) (calls : List Call) (answers : List (Option Given)) : Type 0 where
  pub replies : List Reply
  pub runs : RunsToEnd (answers_at expansion_limit) rules state calls replies
  pub gives : replies_to_next replies ≡ map answered_outcome answers

-- the outcome of an item that was given is that of its answer
outcome_is : (answer : Option Given) (p q : Preprocessing) → GivesNext p answer q → outcome_of (option_map item_of answer) (asked_line q) ≡ answered_outcome answer
outcome_is None p q g = refl
outcome_is (Some (token t)) p q g = refl
outcome_is (Some (error fault at None)) p q g = ap (λ asked. outcome_of (Some (Err fault)) asked) (sym g.placed.1)
outcome_is (Some (error fault at (Some line))) p q g = ap (λ asked. outcome_of (Some (Err fault)) asked) (sym g.placed.1)

run_gave : (rules : Rules) (answer : Option Given) (others : List (Option Given)) (p q : Preprocessing) (rest : List Call) (state : State)
    → Stands p state → GivesNext p answer q → ((after : State) → Stands q after → HasRun rules after rest others) → HasRun rules state (next ∷ rest) (answer ∷ others)
run_gave rules answer others p q rest state stands g go =
    let item = g.given.item state stands in
    let r = go item.after item.goes_on in
    let o = answered_outcome answer in
    record {
      replies = reply.Given o ∷ r.replies;
      runs = given_run rules o state item.after rest r.replies (subst (λ x. Comes state x item.after) (outcome_is answer p q g) item.emits) r.runs;
      gives = ap (λ os. o ∷ os) r.gives;
    }

run_made : (rules : Rules) (p q : Preprocessing) (calls : List Call) (answers : List (Option Given)) (state : State) → rules_of p ≡ rules → Stands p state
    → Made p calls answers q → HasRun rules state calls answers
run_made rules p q calls answers state same stands (made.none p1 q1 c a ce ae e) =
    rw (ce, ae) (record { replies = []; runs = run.done state [] refl; gives = refl })
run_made rules p q calls answers state same stands (made.added name content tokens p1 q1 r1 rest c a has w m e) =
    let r = run_made rules q1 q rest answers (with_added (chars name) tokens state) (w.rules ∙ same) (w.stands state stands) m in
    rw e (record {
      replies = reply.Added ∷ r.replies;
      runs = run.added name content tokens state rest r.replies _ (rw same at has) r.runs refl;
      gives = r.gives;
    })
run_made rules p q calls answers state same stands (made.refused name content fault p1 r1 rest c a has m e) =
    let r = run_made rules p q rest answers state same stands m in
    rw e (record {
      replies = reply.Refused fault ∷ r.replies;
      runs = run.refused name content fault state rest r.replies _ (rw same at has) r.runs refl;
      gives = r.gives;
    })
run_made rules p q calls answers state same stands (made.included text p1 q1 r1 rest c a w m e) =
    let there : Stands q1 (with_included (items_by rules text) state) = rw same at (w.stands state stands) in
    let r = run_made rules q1 q rest answers (with_included (items_by rules text) state) (w.rules ∙ same) there m in
    rw e (record {
      replies = reply.Included ∷ r.replies;
      runs = run.included text state rest r.replies _ (w.room state stands) r.runs refl;
      gives = r.gives;
    })
run_made rules p q calls answers state same stands (made.gave answer p1 q1 r1 rest c others a g m e b) =
    rw (e, b) (run_gave rules answer others p q1 rest state stands g (λ after there. run_made rules q1 q rest others after (g.rules ∙ same) there m))

-- where errors stand, and what directives hold
record AreReported (rules : Rules) (calls : List Call) (answers : List (Option Given)) (before : List ErrorAt) : Type 0 where
  pub left : List ErrorAt
  pub places : ErrorsStand rules calls answers before left
  pub holds : Each (IsPossibleAnswer rules) answers

reported_item : (rules : Rules) (answer : Option Given) (p q : Preprocessing) (calls others : List Call) (rest : List (Option Given)) → rules_of p ≡ rules → GivesNext p answer q
    → calls ≡ next ∷ others → AreReported rules others rest (errors_left q) → AreReported rules calls (answer ∷ rest) (errors_left p)
reported_item rules None p q calls others rest same gives e r =
    let passed = gives.given.reports.reports in
    record {
      left = r.left;
      places = stand.at_end calls others _ rest _ r.left e refl (rw (← passed.0, ← same) gives.given.reports.passes) (rw passed.1 at r.places);
      holds = (tt, r.holds);
    }
reported_item rules (Some (token t)) p q calls others rest same gives e r = record {
  left = r.left;
  places = stand.after_token t calls others _ rest _ (errors_left q) r.left e refl (rw (gives.given.reports.reports.0, ← same) gives.given.reports.passes) r.places;
  holds = (gives.given.holds, r.holds);
}
reported_item rules (Some (error fault at asked)) p q calls others rest same gives e r = record {
  left = r.left;
  places =
      elim gives.given.reports.reports [
        | place.of_lexer h ↦
            stand.of_lexer fault at asked calls others _ rest _ (errors_left q) r.left e refl (rw (gives.placed.0, ← h, ← same) gives.given.reports.passes) r.places
        | place.of_its_own here left ↦
            stand.of_its_own fault asked calls others _ rest _ (errors_left q) r.left e (rw (gives.placed.0, here) refl) (rw (left, ← same) gives.given.reports.passes) r.places
      ];
  holds = (subst (λ a. Asks rules (Some (Err fault)) a) (sym gives.placed.1) (subst (λ r. Asks r (Some (Err fault)) (asked_line q)) same gives.given.asks), r.holds);
}

reported : (rules : Rules) (p q : Preprocessing) (calls : List Call) (answers : List (Option Given)) → rules_of p ≡ rules → Made p calls answers q
    → AreReported rules calls answers (errors_left p)
reported rules p q calls answers same (made.none p1 q1 c a ce ae e) =
    rw (ce, ae) (record { left = errors_left p; places = stand.none [] [] (errors_left p) (errors_left p) refl refl refl; holds = tt })
reported rules p q calls answers same (made.added name content tokens p1 q1 r1 rest c a has w m e) =
    let r = rw w.errors at (reported rules q1 q rest answers (w.rules ∙ same) m) in
    record {
      left = r.left;
      places = stand.after_definition name content calls rest answers (errors_left p) r.left e r.places;
      holds = r.holds;
    }
reported rules p q calls answers same (made.refused name content fault p1 r1 rest c a has m e) =
    let r = reported rules p q rest answers same m in
    record {
      left = r.left;
      places = stand.after_definition name content calls rest answers (errors_left p) r.left e r.places;
      holds = r.holds;
    }
reported rules p q calls answers same (made.included text p1 q1 r1 rest c a w m e) =
    let r = reported rules q1 q rest answers (w.rules ∙ same) m in
    record {
      left = r.left;
      places = stand.after_text text calls rest answers (errors_left p) (errors_left q1) r.left e (rw same at w.errors) r.places;
      holds = r.holds;
    }
reported rules p q calls answers same (made.gave answer p1 q1 r1 rest c others a g m e b) =
    rw b (reported_item rules answer p q1 calls rest others same g e (reported rules q1 q rest others (g.rules ∙ same) m))

-- the answers of calls of a preprocessor that has just begun
pub answers_by : (rules : Rules) (source : List ℕ) (begun new : Preprocessing) (calls : List Call) (answers : List (Option Given))
    → Stands begun (start_by rules (items_by rules source)) → errors_left begun ≡ lexer_errors_by rules source
    → rules_of begun ≡ rules → Made begun calls answers new → AreAnswersBy rules source calls answers
answers_by rules source begun new calls answers stands errors same m =
    let r = run_made rules begun new calls answers (start_by rules (items_by rules source)) same stands m in
    let p = rw errors at (reported rules begun new calls answers same m) in
    record {
      replies = r.replies;
      run = r.runs;
      gives = r.gives;
      left = p.left;
      places = p.places;
      holds = p.holds;
    }
