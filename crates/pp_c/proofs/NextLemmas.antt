-- One call of `next`, of `add_define` and of `include`.
use Rattle.std.proofs.Common.{◌≡◌, ◌∙◌, ℕ, inl, inr, Bool, true, false, List, [], ◌∷◌, refl, ap, sym, Option, Some, None, Ok, Err}
use Rattle.std.specs.Prelude.{MatchBool, option_map, is_some}
use Rattle.pp_macros.specs.Item.{Item, is_out_of_memory}
use Rattle.pp_model.specs.Places.{Fault}
use Rattle.pp_model.specs.Run.{include, items_by, content_tokens}
use Rattle.pp_rs.specs.Adding.{IsAdded, refused, faulty, added}
use Rattle.pp_rs.specs.Including.{IsIncluded, IsWithIncluded}
use Rattle.pp_rs.specs.Including as including
use Rattle.pp_rs.specs.Kept.{Preprocessing, is_spent, error_place, asked_line, rules_of}
use Rattle.pp_rs.specs.Location.{nowhere}
use Rattle.pp_rs.specs.Preprocessing.{is_refusal, Asks, IsGivenItem, IsNextItem}
use Rattle.pp_rs.specs.PreprocessorError.{out_of_memory}
use Rattle.pp_rs.specs.declared.rules.Rules.{Rules}
use Rattle.pp_rs.specs.declared.token.Location.{Location}
use Rattle.pp_rs.specs.declared.token.Token.{Token}
use Rattle.pp_c.specs.Calls.{name_in, content_in, is_text, entering, with_answer, with_fault, answered_in}
use Rattle.pp_c.specs.Numbers.{error_number}
use Rattle.pp_c.specs.Preprocessed.{token, error, asks}
use Rattle.pp_c.specs.inner.Making.{item_of, given_of, GivesNext, AddsOne}
use Rattle.pp_c.specs.inner.Making as made
use Rattle.pp_c.specs.declared.items.Definition.{Definition}

unspent : (spent : Bool) (A B : Type 0) → spent ≡ false → MatchBool spent A B → B
unspent true A B e h = cc
unspent false A B e h = h

module _ (old new : Preprocessing) (ready : is_spent old ≡ false) where
  given_by : (answer : Option Item) → is_refusal answer ≡ false → IsNextItem old answer new → IsGivenItem old answer new
  given_by answer reported h = elim (unspent (is_spent old) _ _ ready h.gives) [
    | inl wants ↦ (let bad : true ≡ false = sym (ap is_refusal wants.item) ∙ reported in cc)
    | inr given ↦ given
  ]

  pub next_token : (t : Token) → IsNextItem old (Some (Ok t)) new → GivesNext old (Some (token t)) new
  next_token t h = record { given = given_by (Some (Ok t)) refl h; placed = tt; rules = h.rules }

  pub next_end : IsNextItem old None new → GivesNext old None new
  next_end h = record { given = given_by None refl h; placed = tt; rules = h.rules }

  pub next_error : (fault : Fault) → is_out_of_memory fault.0 ≡ false → IsNextItem old (Some (Err fault)) new
      → GivesNext old (Some (error fault (error_place new) (asked_line new))) new
  next_error fault reported h = record { given = given_by (Some (Err fault)) reported h; placed = (refl, refl); rules = h.rules }

  pub next_item : (item : Item) → is_refusal (Some item) ≡ false → IsNextItem old (Some item) new → GivesNext old (Some (given_of item (error_place new) (asked_line new))) new
  next_item (Ok t) reported h = next_token t h
  next_item (Err fault) reported h = next_error fault reported h

-- only an error asks for a text
pub asks_of : (rules : Rules) (item : Item) (at : Location) (asked : Option Location) → Asks rules (option_map item_of (Some (given_of item at asked))) asked
    → is_some asked ≡ asks (given_of item at asked)
asks_of rules (Ok t) at None h = refl
asks_of rules (Ok t) at (Some rest) h = let bad : false ≡ true = h.1 in cc
asks_of rules (Err fault) at None h = refl
asks_of rules (Err fault) at (Some rest) h = refl

module _ (words : List ℕ) (definition after : Definition) (name content : List ℕ) (old new : Preprocessing)
    (is_name : name ≡ name_in words definition) (is_content : content ≡ content_in words definition) where
  pub adds_added : IsAdded old name content (Ok tt) new → after ≡ with_answer definition 0 nowhere → AddsOne false words definition after old new
  adds_added (refused given same) e = cc
  adds_added (faulty fault has given same) e = cc
  adds_added (added tokens has given h) e =
      record {
        made = made.added name content tokens old new new [] _ [] has h (made.none new new [] [] refl refl refl) (rw (is_name, is_content));
        spent = h.spent;
        written = e ∙ ap (with_fault definition) (sym has ∙ ap (λ c. content_tokens (items_by (rules_of old) c)) is_content);
      }

  pub adds_refused : (fault : Fault) → is_out_of_memory fault.0 ≡ false → IsAdded old name content (Err fault) new
      → after ≡ with_answer definition (error_number fault.0) fault.1 → AddsOne false words definition after old new
  adds_refused fault reported (refused given same) e =
      let wanted : fault ≡ out_of_memory = cc in
      let bad : true ≡ false = sym (ap (λ (f : Fault). is_out_of_memory f.0) wanted) ∙ reported in
      cc
  adds_refused fault reported (faulty other has given same) e =
      let this : other ≡ fault = cc in
      let it : content_tokens (items_by (rules_of old) content) ≡ Err fault = has ∙ ap (λ (f : Fault). Err f) this in
      record {
        made = made.refused name content fault old new [] _ [] it (made.none old new [] [] refl refl same) (rw (is_name, is_content));
        spent = ap is_spent same;
        written = e ∙ ap (with_fault definition) (sym it ∙ ap (λ c. content_tokens (items_by (rules_of old) c)) is_content);
      }
  adds_refused fault reported (added tokens has given h) e = cc

module _ (words : List ℕ) (definition after : Definition) (text : List ℕ) (old new : Preprocessing)
    (is_text_here : is_text true definition ≡ true) (is_content : text ≡ content_in words definition) where
  -- the call and the reply of a text
  entering_is : entering true words definition ≡ include (content_in words definition)
  entering_is = rw is_text_here refl

  answered_is : answered_in true (rules_of old) words definition ≡ with_answer definition 0 nowhere
  answered_is = rw is_text_here refl

  pub adds_included : IsIncluded old text (Ok tt) new → after ≡ with_answer definition 0 nowhere → AddsOne true words definition after old new
  adds_included (including.refused given same) e = cc
  adds_included (including.too_deep full given same) e = cc
  adds_included (including.included given h) e = record {
    made = made.included text old new new [] _ [] h (made.none new new [] [] refl refl refl) (ap (λ call. call ∷ []) (entering_is ∙ ap include (sym is_content)));
    spent = h.spent;
    written = e ∙ sym answered_is;
  }
