-- An added definition and the first item after it, as a run.
use Rattle.std.proofs.Common.{◌≡◌, ◌∙◌, ◌⊎◌, inl, inr, ℕ, Bool, true, false, List, [], ◌∷◌, refl, ap, sym, subst, Option, None}
use Rattle.std.specs.Prelude.{Ok, Err, MatchBool, if◌then◌else◌}
use Rattle.std.specs.Str.{chars}
use Rattle.pp_lexer.specs.Rules.{pp_rs}
use Rattle.pp_lexer.specs.PreprocessorError.{out_of_memory}
use Rattle.pp_model.specs.Run as run
use Rattle.pp_model.specs.Emitting.{answers_at, expansion_limit}
use Rattle.pp_model.specs.Run.{IsRun, add_define, next, items_of, ends_run}
use Rattle.pp_model.specs.RunToEnd as to_end
use Rattle.pp_model.specs.RunToEnd.{RunsToEnd, IsRunToEndBy}
use Rattle.pp_model.specs.declared.call.Reply.{Reply}
use Rattle.pp_model.proofs.onward.RunsBeginLemmas.{run_to_end_begins}
use Rattle.pp_rs.proofs.runs.ComesLemmas.{given_run}
use Rattle.pp_model.specs.declared.call.Reply.TheVariants.{Added, Refused, Given}
use Rattle.uses.proofs.Item.{Fault, Item}
use Rattle.pp_rs.specs.Adding.{IsAdded, refused, faulty, added}
use Rattle.pp_rs.specs.Comes.{State, Comes, start, with_added}
use Rattle.pp_rs.specs.Kept.{Preprocessing, Stands, is_spent, asked_line, rules_of}
use Rattle.pp_rs.specs.Preprocessing.{is_refusal, outcome_of, IsNextItem}
use Rattle.pp_rs.proofs.AskedLemmas.{none_asked, quiet_by_pp_rs}
use Rattle.pp_rs.proofs.runs.AddingLemmas.{tokens_by_pp_rs}

unspent : (spent : Bool) (A B : Type 0) → spent ≡ false → MatchBool spent A B → B
unspent true A B e h = cc
unspent false A B e h = h

-- what comes next is the reply
comes_run : (item : Option Item) (e f : State) → Comes e (outcome_of item None) f
    → RunsToEnd (answers_at expansion_limit) pp_rs e (next ∷ []) (Given (outcome_of item None) ∷ [])
comes_run item e f comes = given_run pp_rs (outcome_of item None) e f [] [] comes (to_end.done f [] refl)

neither : (b : Bool) → ◌≡◌ {A = List Reply} (if b then [] else []) []
neither true = refl
neither false = refl

module _ (old now : Preprocessing) (name content : List ℕ) (usual : rules_of old ≡ pp_rs) where
  pub item_run : (text : List ℕ) (new : Preprocessing) (item : Option Item) → is_spent old ≡ false → Stands old (start (items_of text))
      → IsAdded old name content (Ok tt) now → IsNextItem now item new → is_refusal item ≡ false
      → IsRun text (add_define name content ∷ next ∷ []) (Added ∷ Given (outcome_of item None) ∷ [])
  item_run text new item ready stands (refused given same) follows plain = cc
  item_run text new item ready stands (faulty fault has given same) follows plain = cc
  item_run text new item ready stands (added tokens has given h) follows plain =
      elim (unspent (is_spent now) _ _ (h.spent ∙ ready) follows.gives) [
        | inl wants ↦ (let bad : true ≡ false = sym (ap is_refusal wants.item) ∙ plain in cc)
        | inr gives ↦ (let emitted = gives.item _ (h.stands _ stands) in
            let asked = none_asked (rules_of now) item (asked_line new) (quiet_by_pp_rs (rules_of now) (h.rules ∙ usual)) gives.asks in
            let state = with_added (chars name) tokens (start (items_of text)) in
            let comes = subst (λ a. Comes state (outcome_of item a) emitted.after) asked emitted.emits in
            let calls = add_define name content ∷ next ∷ [] in
            let all = Added ∷ Given (outcome_of item None) ∷ [] in
            let whole : IsRunToEndBy pp_rs text calls all =
            to_end.added name content tokens _ _ _ _ (tokens_by_pp_rs old content usual ∙ has) (comes_run item state emitted.after comes) refl in
            subst (λ (rs : List Reply). IsRun text calls (Added ∷ Given (outcome_of item None) ∷ rs)) (neither (ends_run (Given (outcome_of item None))))
            (run_to_end_begins pp_rs text calls all whole))
      ]

  pub refused_run : (fault : Fault) → IsAdded old name content (Err fault) now
      → (fault ≡ out_of_memory) ⊎ ((text : List ℕ) → IsRun text (add_define name content ∷ []) (Refused fault ∷ []))
  refused_run fault (refused given same) = inl cc
  refused_run fault (faulty other has given same) =
      let this : other ≡ fault = cc in
      inr (λ text. run.refused name content fault _ [] [] _ (rw this at (tokens_by_pp_rs old content usual ∙ has)) (run.done _ [] refl) refl)
  refused_run fault (added tokens has given h) = cc
