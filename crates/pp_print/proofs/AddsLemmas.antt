-- What becomes of a preprocessor, where definitions are added to it one after another
use Rattle.std.proofs.Common.{◌≡◌, ◌<◌, ◌-◌, ◌^◌, ℕ, List, [], ◌∷◌, ◌++◌, ◌+◌, length, take, get_or, Result, Ok, refl, ap, sym, subst, ◌∙◌}
use Rattle.std.specs.Str.{chars}
use Rattle.std.proofs.lemmas.List.{take_more}
use Rattle.std.proofs.lemmas.List.Elements.{All-nil, All-cons, All-push, All-head}
use Rattle.pp_model.specs.Places.{Fault}
use Rattle.pp_rs.specs.Rules.{pp_rs}
use Rattle.pp_rs.specs.Adding.{IsAdded, refused, faulty, added}
use Rattle.pp_rs.specs.Comes.{State, with_added}
use Rattle.pp_rs.specs.Kept.{Preprocessing, rules_of}
use Rattle.pp_rs.proofs.runs.AddingLemmas.{tokens_by_pp_rs}
use Rattle.pp_print.specs.inner.Defining.{AreAdded}
use Rattle.pp_print.specs.Runs.{IsAccepted}
use Rattle.pp_print.specs.SourceRuns.{Definition, tokens_of, Adds, none, first}

adds_none : (e : State) → Adds e [] e
adds_none e = none e [] e refl refl

-- further definitions
adds_all : (ds others : List Definition) (e f g : State) → Adds e ds f → Adds f others g → Adds e (ds ++ others) g
adds_all ds others e f g (none e1 ds1 f1 p q) adds = subst (λ these. Adds e (these ++ others) g) (sym p) (subst (λ s. Adds s others g) q adds)
adds_all ds others e f g (first d tokens rest e1 ds1 f1 has more p) adds =
    first d tokens (rest ++ others) e (ds ++ others) g has (adds_all rest others (with_added (chars d.0.now) tokens e) f g more adds)
    (ap (λ these. these ++ others) p)

-- a definition that a call answers with no error is added
pub added_one : (d : Definition) (old new : Preprocessing) (answer : Result (Unit {0}) Fault) (done : Unit {0}) → answer ≡ Ok done
    → rules_of old ≡ pp_rs → length d.1.now < 2 ^ 32 - 1 → IsAdded old d.0.now d.1.now answer new → AreAdded old (d ∷ []) new
added_one d old new answer done e usual short (refused given same) = cc
added_one d old new answer done e usual short (faulty fault has given same) = cc
added_one d old new answer done e usual short (added tokens has given h) =
    let is : tokens_of d ≡ Ok tokens = tokens_by_pp_rs old d.1.now usual ∙ has in
    let after = λ (state : State). with_added (chars d.0.now) tokens state in
    record {
      accepted = All-cons IsAccepted d [] (record { short = short; tokens = rw is refl }) (All-nil IsAccepted);
      stands = λ state stands. (after state, first d tokens [] state (d ∷ []) (after state) is (adds_none (after state)) refl, h.stands state stands);
      spent = h.spent;
      rules = h.rules;
    }

-- none are added before the first
pub added_none : (p : Preprocessing) → AreAdded p [] p
added_none p = record {
  accepted = All-nil IsAccepted;
  stands = λ state stands. (state, adds_none state, stands);
  spent = refl;
  rules = refl;
}

-- one more after others
added_more : (ds : List Definition) (d : Definition) (old mid new : Preprocessing) → AreAdded old ds mid → AreAdded mid (d ∷ []) new
    → AreAdded old (ds ++ (d ∷ [])) new
added_more ds d old mid new a b = record {
  accepted = All-push IsAccepted ds d a.accepted (All-head IsAccepted d [] b.accepted);
  stands = λ state stands.
      let before = a.stands state stands in
      let after = b.stands before.0 before.2 in
      (after.0, adds_all ds (d ∷ []) state before.0 after.0 before.1 after.1, after.2);
  spent = b.spent ∙ a.spent;
  rules = b.rules ∙ a.rules;
}

-- and so one after another of a list
pub added_next : (ds : List Definition) (i : ℕ) (other : Definition) (old mid new : Preprocessing) → i < length ds → AreAdded old (take i ds) mid
    → AreAdded mid (get_or ds i other ∷ []) new → AreAdded old (take (i + 1) ds) new
added_next ds i other old mid new within a b = rw (take_more ds i other within) (added_more (take i ds) (get_or ds i other) old mid new a b)
