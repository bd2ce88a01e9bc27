-- The values of items, places aside.
use Rattle.std.proofs.Common.{◌≡◌, List, [], ◌∷◌, map, refl, ap, Ok, Err, Bool, false, length, arith}
use Rattle.std.specs.Bool.{Decides}
use Rattle.std.specs.List.{zip, list_all}
use Rattle.std.proofs.lemmas.Bool.Decides.{Decides-and, Decides-like}
use Rattle.pp_lexer.specs.Spelling.{values_of}
use Rattle.pp_lexer.specs.contracts.token.TokenValuePartialEq.TheImpl.{eq-value as value_eq}
use Rattle.pp_lexer.specs.declared.token.Token.{Token}
use Rattle.pp_lexer.specs.declared.token.TokenValue.{TokenValue}
use Rattle.pp_lexer.proofs.values.EqualityLemmas.{value_decides}
use Rattle.pp_macros.specs.Item.{Item}
use Rattle.pp_rs.specs.inner.ItemValues.{value_of_item}

-- the items are tokens with these values
abbrev pub HaveValues : List Item → List TokenValue → Type 0
HaveValues items values = map value_of_item items ≡ map Ok values

-- whether the item is a token with the value
abbrev pub item_has : Item → TokenValue → Bool
item_has (Ok token) value = value_eq.it token.value value
item_has (Err fault) value = false

pub item_has_decides : (item : Item) (value : TokenValue) → Decides (item_has item value) (value_of_item item ≡ Ok value)
item_has_decides (Ok token) value = Decides-like _ (λ e. ap Ok e) (λ e. cc) (value_decides token.value value)
item_has_decides (Err fault) value = (λ e. cc, λ e. cc)

-- whether each item has the value of the token beside it
abbrev pub have_each : List Item → List Token → Bool
have_each items tokens = list_all (λ (p : Item × Token). item_has p.0 p.1.value) (zip items tokens)

have_each_decides : (items : List Item) (tokens : List Token) → length items ≡ length tokens
    → Decides (have_each items tokens) (HaveValues items (values_of tokens))
have_each_decides [] [] e = (λ _. refl, λ _. refl)
have_each_decides (i ∷ items) [] e = absurd (omega arith)
have_each_decides [] (t ∷ tokens) e = absurd (omega arith)
have_each_decides (i ∷ items) (t ∷ tokens) e =
    Decides-like _ (λ p. cc) (λ same. (cc, cc)) (Decides-and _ _ (item_has_decides i t.value) (have_each_decides items tokens (omega arith)))

-- the same of a test that comes to that
pub have_each_tested : (r : Bool) (items : List Item) (tokens : List Token) → length items ≡ length tokens → r ≡ have_each items tokens
    → Decides r (HaveValues items (values_of tokens))
have_each_tested r items tokens n e = rw e (have_each_decides items tokens n)

-- items that are tokens have their values
pub values_are : (tokens : List Token) → HaveValues (map Ok tokens) (values_of tokens)
values_are [] = refl
values_are (token ∷ tokens) = ap (λ vs. Ok token.value ∷ vs) (values_are tokens)

-- and items with these values are tokens
pub record AreTokens (items : List Item) (values : List TokenValue) : Type 0 where
  pub tokens : List Token
  pub is : items ≡ map Ok tokens
  pub are : values_of tokens ≡ values

pub tokens_are : (items : List Item) (values : List TokenValue) → HaveValues items values → AreTokens items values
tokens_are [] [] e = record { tokens = []; is = refl; are = refl }
tokens_are [] (v ∷ values) e = cc
tokens_are (Ok token ∷ items) [] e = cc
tokens_are (Ok token ∷ items) (v ∷ values) e =
    let here : token.value ≡ v = cc in
    let there : map value_of_item items ≡ map Ok values = cc in
    let later = tokens_are items values there in
    record { tokens = token ∷ later.tokens; is = ap (λ i. Ok token ∷ i) later.is; are = rw here (ap (λ vs. v ∷ vs) later.are) }
tokens_are (Err fault ∷ items) [] e = cc
tokens_are (Err fault ∷ items) (v ∷ values) e = cc
