-- The tokens that were read of a preprocessor, one after another.
use Rattle.std.proofs.Common.{◌≡◌, ◌∙◌, ◌⊎◌, inl, inr, Bool, true, false, List, [], ◌∷◌, ◌++◌, refl, subst, Option, None, Some}
use Rattle.std.specs.Prelude.{Ok, Err, MatchBool}
use Rattle.pp_lexer.specs.PreprocessorError.{out_of_memory}
use Rattle.pp_lexer.specs.Rules.{pp_rs}
use Rattle.pp_lexer.specs.declared.token.Token.{Token}
use Rattle.pp_model.specs.declared.outcome.Outcome.TheVariants as outcome
use Rattle.pp_rs.specs.Comes.{State, Comes, Gives, nothing, first, IsRunFrom}
use Rattle.pp_rs.specs.Kept.{Preprocessing, Stands, is_spent, asked_line, rules_of}
use Rattle.pp_rs.specs.Preprocessing.{IsNextItem, IsGivenItem, outcome_of}
use Rattle.pp_rs.proofs.AskedLemmas.{none_asked, quiet_by_pp_rs}
use Rattle.uses.proofs.Item.{Fault, Item}

-- these tokens came, and memory hasn't run out; the rules stay
pub record HaveRead (old now : Preprocessing) (tokens : List Token) : Type 0 where
  pub unspent : is_spent now ≡ false
  pub rules : rules_of now ≡ rules_of old
  pub came : (state : State) → Stands old state → (after : State) × Gives state tokens after × Stands now after

pub none_read : (pp : Preprocessing) → is_spent pp ≡ false → HaveRead pp pp []
none_read pp unspent = record { unspent = unspent; rules = refl; came = λ state stands. (state, nothing [] state state refl refl, stands) }

gives_more : (state after last : State) (tokens : List Token) (token : Token) → Gives state tokens after
    → Comes after (outcome.Token token) last → Gives state (tokens ++ token ∷ []) last
gives_more state after last tokens token (nothing _ _ _ e same) comes =
    rw e (first token [] (token ∷ []) state last last (rw (← same) comes) (nothing [] last last refl refl) refl)
gives_more state after last tokens token (first head rest _ _ next _ comes gives e) more =
    rw e (first head (rest ++ token ∷ []) (head ∷ (rest ++ token ∷ [])) state next last comes (gives_more next after last rest token gives more) refl)

unspent_gives : (spent : Bool) (A B : Type 0) → spent ≡ false → MatchBool spent A B → B
unspent_gives true A B e h = cc
unspent_gives false A B e h = h

module _ (old now new : Preprocessing) (tokens : List Token) (read : HaveRead old now tokens) where
  given : (answer : Option Item) → IsNextItem now answer new → (answer ≡ Some (Err out_of_memory)) ⊎ IsGivenItem now answer new
  given answer next = elim (unspent_gives (is_spent now) _ _ read.unspent next.gives) [ inl refused ↦ inl refused.item | inr g ↦ inr g ]

  pub token_read : (token : Token) → IsNextItem now (Some (Ok token)) new → HaveRead old new (tokens ++ token ∷ [])
  token_read token next = elim (given (Some (Ok token)) next) [
    | inl refused ↦ cc
    | inr g ↦ record {
      unspent = g.spent;
      rules = next.rules ∙ read.rules;
      came = λ state stands. (let h = read.came state stands in let e = g.item h.0 h.2 in
          (e.after, gives_more state h.0 e.after tokens token h.1 e.emits, e.goes_on));
    }
  ]

  -- an error came, by pp-rs's rules
  pub error_read : (fault : Fault) → IsNextItem now (Some (Err fault)) new → rules_of old ≡ pp_rs
      → (fault ≡ out_of_memory) ⊎ ((state : State) → Stands old state → IsRunFrom state tokens (outcome.Fault fault))
  error_read fault next usual = elim (given (Some (Err fault)) next) [
    | inl refused ↦ (let same : fault ≡ out_of_memory = cc in inl same)
    | inr g ↦ inr (λ state stands.
        let h = read.came state stands in
        let e = g.item h.0 h.2 in
        let quiet = quiet_by_pp_rs (rules_of now) (read.rules ∙ usual) in
        let asked = none_asked (rules_of now) (Some (Err fault)) (asked_line new) quiet g.asks in
        record {
          before = h.0;
          gives = h.1;
          after = e.after;
          ends = subst (λ a. Comes h.0 (outcome_of (Some (Err fault)) a) e.after) asked e.emits;
        })
  ]

  pub end_read : IsNextItem now None new → (state : State) → Stands old state → IsRunFrom state tokens outcome.End
  end_read next state stands = elim (given None next) [
    | inl refused ↦ cc
    | inr g ↦ (let h = read.came state stands in let e = g.item h.0 h.2 in
        record { before = h.0; gives = h.1; after = e.after; ends = e.emits })
  ]
