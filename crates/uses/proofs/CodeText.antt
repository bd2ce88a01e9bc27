-- The ordinary tokens among items that are read one after another.
use Rattle.std.proofs.Common.{◌≡◌, ◌∙◌, ◌<◌, ◌+◌, ℕ, zero, suc, false, List, [], ◌∷◌, ◌++◌, All, IsTrue, length, take, get_or, refl, ap, sym, subst, None, Some, arith}
use Rattle.std.specs.Prelude.{Result, Ok, Err, is_err, IfOk, MatchResult}
use Rattle.std.specs.List.{filter, find}
use Rattle.std.specs.Result.{ok_prefix}
use Rattle.std.proofs.lemmas.List.{take_more}
use Rattle.std.proofs.lemmas.List.Elements.{filter-append, filter_passes}
use Rattle.pp_lexer.specs.Rules.{pp_rs}
use Rattle.pp_lexer.specs.TokenValue.{is_ordinary}
use Rattle.pp_lexer.specs.declared.rules.Rules.{Rules}
use Rattle.pp_lexer.specs.declared.token.Token.{Token}
use Rattle.pp_model.specs.declared.outcome.Outcome.TheVariants as outcome
use Rattle.uses.proofs.Item.{Fault, Item}
use Rattle.pp_rs.specs.Collecting.{ItemsCome, AreItemsFrom, AreItemsOf}
use Rattle.pp_rs.specs.Comes.{State, Comes, nothing, first, IsRunFrom}
use Rattle.pp_rs.specs.Kept.{Preprocessing, Stands, is_spent, rules_of}
use Rattle.pp_rs.specs.Preprocessing.{outcome_of}
use Rattle.pp_rs.proofs.AskedLemmas.{none_asked, quiet_by_pp_rs}

-- the tokens that are no directives
abbrev pub code_of : List Token → List Token
code_of tokens = filter (λ (t : Token). is_ordinary t.value) tokens

-- of so many items each is a token, and these are the ordinary ones
pub record Kept (all : List Item) (count : ℕ) (tokens : List Token) : Type 0 where
  pub whole : find is_err (take count all) ≡ None
  pub kept : tokens ≡ code_of (ok_prefix (take count all))

with_token : (items : List Item) (token : Token) → find is_err items ≡ None
    → (find is_err (items ++ Ok token ∷ []) ≡ None) × (ok_prefix (items ++ Ok token ∷ []) ≡ ok_prefix items ++ token ∷ [])
with_token [] token e = (refl, refl)
with_token (Ok t ∷ items) token e = let h = with_token items token e in (h.0, ap (λ ts. t ∷ ts) h.1)
with_token (Err f ∷ items) token e = cc

-- one token more
pub kept_more : (all : List Item) (count : ℕ) (tokens more : List Token) (token : Token) → Kept all count tokens → count < length all
    → Ok token ≡ get_or all count (Ok token) → more ≡ tokens ++ code_of (token ∷ []) → Kept all (count + 1) more
kept_more all count tokens more token k within is pushed =
    let front : take (count + 1) all ≡ take count all ++ Ok token ∷ [] = take_more all count (Ok token) within ∙ ap (λ i. take count all ++ i ∷ []) (sym is) in
    let h = with_token (take count all) token k.whole in
    record {
      whole = ap (find is_err) front ∙ h.0;
      kept = pushed ∙ ap (λ ts. ts ++ code_of (token ∷ [])) k.kept
          ∙ sym (filter-append (λ (t : Token). is_ordinary t.value) (ok_prefix (take count all)) (token ∷ []))
          ∙ ap code_of (sym h.1) ∙ ap (λ items. code_of (ok_prefix items)) (sym front);
    }

pub kept_ordinary : (all : List Item) (count : ℕ) (tokens : List Token) → Kept all count tokens → All (λ (t : Token). IsTrue (is_ordinary t.value)) tokens
kept_ordinary all count tokens k = rw k.kept (λ i d within. filter_passes (λ (t : Token). is_ordinary t.value) (ok_prefix (take count all)) i d within)

-- an error after them is the first
pub error_there : (all : List Item) (count : ℕ) (fault : Fault) → find is_err (take count all) ≡ None → count < length all
    → Err fault ≡ get_or all count (Err fault) → find is_err all ≡ Some (Err fault)
error_there [] count fault e within is = absurd (omega (arith, within))
error_there (Ok t ∷ all) zero fault e within is = cc
error_there (Err f ∷ all) zero fault e within is = let same : f ≡ fault = cc in ap (λ x. Some (Err x)) same
error_there (Ok t ∷ all) (suc count) fault e within is = error_there all count fault e (omega (arith, within)) is
error_there (Err f ∷ all) (suc count) fault e within is = cc

-- of items that come, and then the end, the tokens come before the first error, and then that error or the end
run_to_error : (rules : Rules) (items : List Item) (e f g : State) → rules.asks_includes ≡ false → ItemsCome rules e items f → Comes f outcome.End g
    → IsRunFrom e (ok_prefix items) (outcome_of (find is_err items) None)
run_to_error rules [] e f g quiet same ends = record {
  before = e;
  gives = nothing [] e e refl refl;
  after = g;
  ends = subst (λ s. Comes s outcome.End g) same ends;
}
run_to_error rules (Ok token ∷ items) e f g quiet (asked, next, asks, comes, later) ends =
    let run = run_to_error rules items next f g quiet later ends in
    record {
      before = run.before;
      gives = first token (ok_prefix items) (token ∷ ok_prefix items) e next run.before comes run.gives refl;
      after = run.after;
      ends = run.ends;
    }
run_to_error rules (Err fault ∷ items) e f g quiet (asked, next, asks, comes, later) ends = record {
  before = e;
  gives = nothing [] e e refl refl;
  after = next;
  ends = subst (λ a. Comes e (outcome_of (Some (Err fault)) a) next) (none_asked rules (Some (Err fault)) asked quiet asks) comes;
}

-- all that a preprocessor gives is a run from its state
module _ (pp : Preprocessing) (items : List Item) (state : State) (unspent : is_spent pp ≡ false) (usual : rules_of pp ≡ pp_rs) (stands : Stands pp state)
    (all : AreItemsOf pp items) where
  items_run : IsRunFrom state (ok_prefix items) (outcome_of (find is_err items) None)
  items_run =
      let from : (s : State) → Stands pp s → AreItemsFrom (rules_of pp) s items = rw unspent at all in
      let (last, come, after, ends) = from state stands in
      run_to_error (rules_of pp) items state last after (quiet_by_pp_rs (rules_of pp) usual) come ends

  pub run_ends : find is_err items ≡ None → IsRunFrom state (ok_prefix items) outcome.End
  run_ends e = subst (λ x. IsRunFrom state (ok_prefix items) (outcome_of x None)) e items_run

  pub run_fails : (fault : Fault) → find is_err items ≡ Some (Err fault) → IsRunFrom state (ok_prefix items) (outcome.Fault fault)
  run_fails fault e = subst (λ x. IsRunFrom state (ok_prefix items) (outcome_of x None)) e items_run

-- what follows of a value, where something is known of the error too
pub if_ok_then : {X Y : Type 0} (r : Result X Y) (P Q : X → Type 0) (R : Y → Type 0) → ((x : X) → P x → Q x) → MatchResult r P R → IfOk r Q
if_ok_then (Ok x) P Q R f h = f x h
if_ok_then (Err e) P Q R f h = tt
