-- What came of a source while its `#include` lines were answered.
use Rattle.std.proofs.Common.{◌≡◌, ◌∙◌, inl, inr, ℕ, ◌<◌, Bool, true, false, List, [], ◌∷◌, ◌++◌, Contains, length, get_or, refl, ap, sym, subst, Option, None, Some, arith}
use Rattle.std.proofs.lemmas.Grind.{common_steps}
use Rattle.std.specs.Prelude.{Ok, Err, MatchBool, IfSome}
use Rattle.pp_lexer.specs.declared.token.Location.{Location}
use Rattle.pp_lexer.specs.declared.rules.Rules.{Rules}
use Rattle.pp_lexer.specs.declared.token.Token.{Token}
use Rattle.pp_model.specs.ItemCall.{text_of}
use Rattle.pp_model.specs.Painting.{item_of}
use Rattle.pp_model.specs.Run.{items_by}
use Rattle.pp_model.specs.declared.outcome.IncludeLine.{IncludeLine}
use Rattle.pp_model.specs.declared.outcome.Outcome.TheVariants as outcome
use Rattle.pp_model.specs.declared.read.Taken.{Taken}
use Rattle.pp_model.specs.declared.read.Taken.TheVariants as taken
use Rattle.pp_rs.specs.Comes.{State, Comes, start_by, with_included}
use Rattle.pp_rs.specs.Including.{IsTriedInclude, IsWithIncluded, refused, too_deep, included, too_long, short}
use Rattle.pp_rs.specs.Kept.{Preprocessing, Stands, is_spent, asked_line, item_text, rules_of}
use Rattle.pp_rs.specs.Preprocessing.{IsNextItem, IsGivenItem, outcome_of, is_refusal}
use Rattle.uses.specs.Includes.{Files, HasCome, nothing, token, file, Includes, IsNamed, IsQuotedOn, IsWhole}
use Rattle.uses.proofs.Item.{Fault, Item}

lacks : (c : ℕ) (xs : List ℕ) → ((i : ℕ) → i < length xs → get_or xs i 0 ≡ c → ⊥) → Contains xs c → ⊥
lacks c xs differs (k, within, is) = differs k within (grind (arith, common_steps))

-- the parts of a line that is split twice
pub quoted : (line before rest name after : List ℕ)
    → (line ≡ before ++ (34 ∷ rest)) × ((i : ℕ) → i < length before → get_or before i 0 ≡ 34 → ⊥)
    → (rest ≡ name ++ (34 ∷ after)) × ((i : ℕ) → i < length name → get_or name i 0 ≡ 34 → ⊥)
    → IsQuotedOn line name
quoted line before rest name after (whole, opens) (inner, closes) = record {
  before = before;
  after = after;
  whole = whole ∙ ap (λ r. before ++ (34 ∷ r)) inner;
  opens = lacks 34 before opens;
  closes = lacks 34 name closes;
}

-- these texts were read and these tokens came, and memory hasn't run out
pub record SoFar (files : Files) (rules : Rules) (source : List ℕ) (pp : Preprocessing) (read : List (List ℕ))
    (tokens : List Token) : Type 0 where
  pub unspent : is_spent pp ≡ false
  pub by : rules_of pp ≡ rules
  pub state : State
  pub came : HasCome files rules source read tokens state
  pub stands : Stands pp state

pub none_came : (files : Files) (rules : Rules) (source : List ℕ) (pp : Preprocessing) → is_spent pp ≡ false → rules_of pp ≡ rules
    → Stands pp (start_by rules (items_by rules source)) → SoFar files rules source pp (source ∷ []) []
none_came files rules source pp unspent by stands =
    record { unspent = unspent; by = by; state = start_by rules (items_by rules source); came = nothing; stands = stands }

unspent_gives : (spent : Bool) (A B : Type 0) → spent ≡ false → MatchBool spent A B → B
unspent_gives true A B e h = cc
unspent_gives false A B e h = h

-- an `#include` line is in the text of its place
text_there : (t : Taken) (line : IncludeLine) (number : ℕ) → outcome.Include line ≡ item_of t → IfSome (text_of t) (λ text. number ≡ text)
    → text_of t ≡ Some number
text_there (taken.Token read) line number e is = cc
text_there (taken.Fault fault) line number e is = ap Some (sym is)
text_there taken.End line number e is = cc

module _ (files : Files) (rules : Rules) (source : List ℕ) (now new : Preprocessing) (read : List (List ℕ)) (tokens : List Token)
    (h : SoFar files rules source now read tokens) where
  given : (answer : Option Item) → IsNextItem now answer new → is_refusal answer ≡ false → IsGivenItem now answer new
  given answer next plain = elim (unspent_gives (is_spent now) _ _ h.unspent next.gives) [
    | inl r ↦ (let bad : true ≡ false = sym (ap is_refusal r.item) ∙ plain in cc)
    | inr g ↦ g
  ]

  pub token_came : (one : Token) → IsNextItem now (Some (Ok one)) new → SoFar files rules source new read (tokens ++ one ∷ [])
  token_came one next =
      let g = given (Some (Ok one)) next refl in
      let e = g.item h.state h.stands in
      record {
        unspent = g.spent;
        by = next.rules ∙ h.by;
        state = e.after;
        came = token read tokens one h.state e.after h.came e.emits;
        stands = e.goes_on;
      }

  -- the file is read next for which this item asks
  answered : (fault : Fault) (name text : List ℕ) (last : Preprocessing) (rest : Location) (asked : Option Location) (after : State)
      (comes : Comes h.state (outcome_of (Some (Err fault)) asked) after)
      → asked ≡ Some rest → IfSome (text_of comes.taken) (λ t. item_text new ≡ t) → Stands new after
      → IsNamed read (item_text new) rest name → files name ≡ Some text → rules_of new ≡ rules → is_spent new ≡ false
      → IsWithIncluded text new last → SoFar files rules source last (read ++ text ∷ []) tokens
  answered fault name text last rest None after comes e is goes named found by unspent with = cc
  answered fault name text last rest (Some there) after comes e is goes named found by unspent with =
      let same : there ≡ rest = cc in
      let line : IncludeLine = record { word = fault.1; rest = there } in
      record {
        unspent = with.spent ∙ unspent;
        by = with.rules ∙ by;
        state = with_included (items_by rules text) after;
        came = file read tokens line (item_text new) name text h.state after h.came comes (text_there comes.taken line (item_text new) comes.is is)
            (subst (λ r. IsNamed read (item_text new) r name) (sym same) named) found (with.room after goes);
        stands = subst (λ r. Stands last (with_included (items_by r text) after)) by (with.stands after goes);
      }

  with_text : (text : List ℕ) (last : Preprocessing) → IsTriedInclude new text (Ok tt) last → IsWithIncluded text new last
  with_text text last (too_long long e same) = cc
  with_text text last (short fits (refused e same)) = cc
  with_text text last (short fits (too_deep full e same)) = cc
  with_text text last (short fits (included e with)) = with

  pub file_came : (fault : Fault) (last : Preprocessing) (more : List (List ℕ)) → IsNextItem now (Some (Err fault)) new
      → is_refusal (Some (Err fault)) ≡ false → Includes files new read last more → SoFar files rules source last more tokens
  file_came fault last more next plain i =
      let g = given (Some (Err fault)) next plain in
      let e = g.item h.state h.stands in
      rw i.pushed (answered fault i.name i.text last i.asked.rest (asked_line new) e.after e.emits i.asked.asks e.text e.goes_on i.asked.named i.found
      (next.rules ∙ h.by) g.spent (with_text i.text last i.included))

  pub all_came : IsNextItem now None new → IsWhole files rules source tokens
  all_came next =
      let e = (given None next refl).item h.state h.stands in
      record { read = read; state = h.state; came = h.came; after = e.after; ends = e.emits }
