-- A call of `next` that asks for a word of plain text first.
use Rattle.std.proofs.Common.{◌≡◌, ◌∙◌, ◌⊎◌, inl, inr, ◌<◌, ◌≤◌, Bool, true, false, List, refl, sym, subst, Option, Some, None, Ok, Err, IfOk, IfErr, arith}
use Rattle.pp_lexer.specs.PreprocessorError.{out_of_memory}
use Rattle.pp_lexer.specs.declared.rules.Rules.{Rules}
use Rattle.pp_lexer.specs.declared.token.Location.{Location}
use Rattle.pp_lexer.specs.declared.token.Token.{Token}
use Rattle.pp_macros.specs.Item.{Item}
use Rattle.pp_macros.specs.LexerErrors.{ErrorAt, PassesErrors}
use Rattle.pp_rs.specs.Kept.{Preprocessing, is_spent, most_items, errors_left, error_place, asked_line, rules_of, item_text}
use Rattle.pp_rs.specs.inner.NextWord.{IsPassed}
use Rattle.pp_rs.specs.Preprocessing.{Asks, IsNextItem, IsRefusedItem, IsGivenItem, IsLessLeft, ReportsAnswer, ReportsError}
use Rattle.pp_rs.proofs.runs.PassedErrorsLemmas.{passes_then}
use Rattle.std.specs.Prelude.{IfSome}
use Rattle.pp_model.specs.ItemCall.{text_of}
use Rattle.pp_model.specs.declared.read.Taken.{Taken}

-- what is passed goes by the same rules
passes_over : (old mid : Preprocessing) (before after : List ErrorAt) → rules_of mid ≡ rules_of old
    → PassesErrors (rules_of mid).passes_dead_errors before after → PassesErrors (rules_of old).passes_dead_errors before after
passes_over old mid before after same h = subst (λ (rules : Rules). PassesErrors rules.passes_dead_errors before after) same h

-- what is reported once nothing was is reported from the start
reports_over : (old mid new : Preprocessing) (answer : Option Item) → PassesErrors (rules_of old).passes_dead_errors (errors_left old) (errors_left mid)
    → error_place mid ≡ error_place old → rules_of mid ≡ rules_of old → ReportsError answer mid new → ReportsError answer old new
reports_over old mid new answer passed place same h = record {
  left = h.left;
  passes = passes_then (rules_of old).passes_dead_errors _ _ h.left passed (passes_over old mid _ h.left same h.passes);
  reports = subst (λ (at : Location). ReportsAnswer answer h.left at new) place h.reports;
}

-- memory didn't both last and run out
pub never_both : {Z : Type 0} (spent : Bool) → spent ≡ false → spent ≡ true → Z
never_both spent fresh out = cc

-- so is less left
pub less_over : (old mid new : Preprocessing) (answer : Option Item) → most_items mid ≤ most_items old → IsLessLeft answer mid new → IsLessLeft answer old new
less_over old mid new (Some item) fewer less = omega (arith, fewer, less)
less_over old mid new None fewer less = less

-- what comes once nothing was given comes from the start
pub passed_next : (old mid new : Preprocessing) (answer : Option Item) → is_spent old ≡ false → IsPassed old mid → IsNextItem mid answer new → IsNextItem old answer new
passed_next old mid new answer fresh p next =
    record {
      gives = rw fresh (gives (rw (p.spent, fresh) at next.gives));
      less_left = less_over old mid new answer p.no_more_left next.less_left;
      rules = next.rules ∙ p.rules;
    }
  where
    gives : IsRefusedItem answer new ⊎ IsGivenItem mid answer new → IsRefusedItem answer new ⊎ IsGivenItem old answer new
    gives (inl refused) = inl refused
    gives (inr given) = inr (record {
      item = λ state stands.
          let between = p.item state stands in
          let emitted = given.item between.between between.stands in
          record {
            after = emitted.after;
            emits = between.comes _ _ emitted.emits;
            text = subst (λ (x : Taken). IfSome (text_of x) (λ text. item_text new ≡ text)) (sym (between.same _ _ emitted.emits)) emitted.text;
            call = emitted.call ∙ sym (between.calls _ _ emitted.emits);
            goes_on = emitted.goes_on;
          };
      no_refusal = given.no_refusal;
      asks = subst (λ (rules : Rules). Asks rules answer (asked_line new)) p.rules given.asks;
      holds = given.holds;
      reports = reports_over old mid new answer p.errors p.place p.rules given.reports;
      spent = given.spent;
    })

-- memory for a token that was to come runs out
pub word_refused : (old mid new : Preprocessing) (token : Token) → is_spent old ≡ false → IsNextItem old (Some (Ok token)) mid → new ≡ record mid { spent = true }
    → IsNextItem old (Some (Err out_of_memory)) new
unfolding is_spent most_items rules_of
word_refused old mid new token fresh next is =
    rw is (record {
      gives = rw fresh (inl (record { item = refl; spent = refl }));
      less_left = omega (arith, next.less_left);
      rules = next.rules;
    })

-- the item of a word that is next
pub word_comes : (old mid new : Preprocessing) (token : Token) (item : Item) → is_spent old ≡ false → IsNextItem old (Some (Ok token)) mid
    → IfOk item (λ given. (given ≡ token) × (new ≡ mid)) → IfErr item (λ e. (e ≡ out_of_memory) × (new ≡ record mid { spent = true }))
    → IsNextItem old (Some item) new
word_comes old mid new token (Ok given) fresh next of_token refused = rw (of_token.0, of_token.1) next
word_comes old mid new token (Err e) fresh next of_token refused = rw refused.0 (word_refused old mid new token fresh next refused.1)

-- what is passed after pauses is passed from the start
pub passed_again : (old mid new : Preprocessing) → IsPassed old mid → IsPassed mid new → IsPassed old new
passed_again old mid new p q = record {
  item = λ state stands.
      let first = p.item state stands in
      let second = q.item first.between first.stands in
      record {
        between = second.between;
        stands = second.stands;
        comes = λ o f c. first.comes o f (second.comes o f c);
        same = λ o f c. first.same o f (second.comes o f c) ∙ second.same o f c;
        calls = λ o f c. first.calls o f (second.comes o f c) ∙ second.calls o f c;
      };
  spent = q.spent ∙ p.spent;
  errors = passes_then (rules_of old).passes_dead_errors _ _ _ p.errors (passes_over old mid _ _ p.rules q.errors);
  place = q.place ∙ p.place;
  no_more_left = omega (arith, p.no_more_left, q.no_more_left);
  rules = q.rules ∙ p.rules;
}

-- memory runs out where something is left
pub refused_next : (old new : Preprocessing) → is_spent old ≡ false → is_spent new ≡ true → 0 < most_items old → rules_of new ≡ rules_of old
    → IsNextItem old (Some (Err out_of_memory)) new
unfolding is_spent most_items
refused_next old new fresh spent some same = record {
  gives = rw fresh (inl (record { item = refl; spent = spent }));
  less_left = rw spent some;
  rules = same;
}
