-- What the next item of a preprocessor says of the states that it stands for.
use Rattle.std.proofs.Common.{◌≡◌, ◌∙◌, ◌≢◌, Bool, true, false, subst, Option, Some, None, Ok, Err, inl, inr}
use Rattle.std.specs.Prelude.{MatchBool, Result}
use Rattle.pp_model.specs.Places.{Fault}
use Rattle.pp_model.specs.declared.outcome.Outcome.TheVariants as outcome
use Rattle.pp_rs.specs.Comes.{State, Comes}
use Rattle.pp_rs.specs.Kept.{Preprocessing, Stands, is_spent, asked_line, rules_of}
use Rattle.pp_rs.specs.Preprocessing.{IsGivenItem, IsNextItem, is_refusal, outcome_of}
use Rattle.pp_rs.specs.declared.token.PreprocessorError.TheVariants.{OutOfMemory}
use Rattle.pp_rs.specs.declared.token.Token.{Token}
use Rattle.pp_rs.specs.Giving.{AreGiven}
use Rattle.pp_rs.specs.Rules.{pp_rs}
use Rattle.pp_rs.specs.declared.pp.token_ref.TokenRef.{TokenRef}
use Rattle.pp_rs.proofs.AskedLemmas.{none_asked}
use Rattle.pp_rs.proofs.runs.GivingLemmas.{given_rules}

unspent : (spent : Bool) (A B : Type 0) → spent ≡ false → MatchBool spent A B → B
unspent true A B e h = cc
unspent false A B e h = h

-- pp-rs's rules stay while tokens are given
pub usual_after : {S : Type 0} (takes : S → TokenRef → S → Type 0) (old : Preprocessing) (before : S) (new : Preprocessing) (after : S)
    → AreGiven takes old before new after → rules_of old ≡ pp_rs → rules_of new ≡ pp_rs
usual_after takes old before new after given usual = given_rules takes old before new after given ∙ usual

-- and with the next item
pub usual_next : (old : Preprocessing) (answer : Option (Result Token Fault)) (new : Preprocessing) → IsNextItem old answer new → rules_of old ≡ pp_rs → rules_of new ≡ pp_rs
usual_next old answer new next usual = next.rules ∙ usual

module _ (old new : Preprocessing) (ready : is_spent old ≡ false) where
  -- a token is given, and is no refusal of memory
  given_token : (t : Token) → IsNextItem old (Some (Ok t)) new → IsGivenItem old (Some (Ok t)) new
  given_token t h = elim (unspent (is_spent old) _ _ ready h.gives) [ inl refused ↦ let e = refused.item in cc | inr given ↦ given ]

  -- it came next, and the preprocessor stands for the state after it
  pub next_token : (t : Token) → IsNextItem old (Some (Ok t)) new → (state : State) → Stands old state → (after : State)
      × Comes state (outcome.Token t) after × Stands new after
  next_token t h state stands = let item = (given_token t h).item state stands in (item.after, item.emits, item.goes_on)

  -- an error came next, unless memory was refused, by rules that ask for no texts
  pub next_error : (fault : Fault) → IsNextItem old (Some (Err fault)) new → fault.0 ≢ OutOfMemory → (rules_of old).asks_includes ≡ false
      → (state : State) → Stands old state → (after : State) × Comes state (outcome.Fault fault) after
  next_error fault h wanted quiet state stands = elim (unspent (is_spent old) _ _ ready h.gives) [
    | inl refused ↦ absurd
        (wanted (let e = refused.item in cc))
    | inr given ↦
        let item = given.item state stands in
        let asked = none_asked (rules_of old) (Some (Err fault)) (asked_line new) quiet given.asks in
        (item.after, subst (λ a. Comes state (outcome_of (Some (Err fault)) a) item.after) asked item.emits)
  ]

  pub no_refusal : (fault : Fault) → IsNextItem old (Some (Err fault)) new → fault.0 ≢ OutOfMemory → is_refusal (Some (Err fault)) ≡ false
  no_refusal fault h wanted = elim (unspent (is_spent old) _ _ ready h.gives) [
    | inl refused ↦ absurd
        (wanted (let e = refused.item in cc))
    | inr given ↦ given.no_refusal
  ]

  -- the end came next
  pub next_none : IsNextItem old None new → (state : State) → Stands old state → (after : State) × Comes state outcome.End after
  next_none h state stands = elim (unspent (is_spent old) _ _ ready h.gives) [
    | inl refused ↦ let e = refused.item in
        cc
    | inr given ↦ let item = given.item state stands in (item.after, item.emits)
  ]
