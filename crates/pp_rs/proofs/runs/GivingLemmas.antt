-- Tokens that are given to a sink.
use Rattle.std.proofs.Common.{◌≡◌, ◌∙◌, ◌<◌, ◌≤◌, Bool, true, false, refl, ap, sym, Option, Some, None, Ok, Err, IsTrue, ◌⊎◌, inl, inr, arith, ℕ}
use Rattle.std.proofs.lemmas.Result.{on_ok_weaker}
use Rattle.std.specs.Prelude.{IfSome, OnErr, OnOk, Result}
use Rattle.pp_lexer.specs.PreprocessorError.{out_of_memory}
use Rattle.pp_lexer.specs.TokenValue.{is_ordinary}
use Rattle.pp_lexer.specs.declared.lexer.plain_item.PlainItem.{PlainItem}
use Rattle.pp_lexer.specs.declared.token.Token.{Token}
use Rattle.pp_directives.specs.WordTokens.{word_token}
use Rattle.pp_macros.specs.Item.{Item}
use Rattle.pp_rs.specs.Giving.{AreGiven, ComesUnlessFull, GivesTokens, is_ordinary_token, nothing, one_more}
use Rattle.pp_rs.specs.Kept.{Preprocessing, is_spent, most_items, call_place, item_text, origin_of, rules_of}
use Rattle.pp_model.specs.declared.splice.CallPlace.{CallPlace}
use Rattle.pp_model.specs.declared.splice.Origin.{Origin}
use Rattle.pp_rs.specs.inner.NextWord.{IsPassed, IsWord}
use Rattle.pp_rs.specs.Preprocessing.{IsLessLeft, IsNextItem}
use Rattle.pp_rs.specs.TokenRefs.{value_of, token_of}
use Rattle.pp_rs.specs.declared.pp.token_ref.TokenRef.{TokenRef}
use Rattle.pp_rs.specs.declared.pp.token_ref.ValueRef.{ValueRef}
use Rattle.pp_rs.specs.declared.pp.token_ref.ValueRef.TheVariants as value
use Rattle.pp_rs.specs.inner.GivingOn.{IsGiving, IsRefusedAfter, TakesToken}
use Rattle.pp_rs.proofs.runs.NextLemmas.{next_none}
use Rattle.pp_rs.proofs.runs.NextWordLemmas.{less_over, passed_next, passed_again, refused_next}
use Rattle.pp_rs.proofs.runs.PassedLemmas.{passed_nothing}

-- an origin with the text and the call of the last item
pub origin_is : (o : Origin) (p : Preprocessing) → item_text p ≡ o.text → call_place p ≡ o.call → origin_of p ≡ o
origin_is o p text call = ap (λ (t : ℕ). record { text = t; call = call_place p }) text ∙ ap (λ (c : Option CallPlace). record { text = o.text; call = c }) call

-- a token reference refers to an ordinary token
value_ordinary : (v : ValueRef) → IsTrue (is_ordinary (value_of v))
value_ordinary (value.Ident name) = refl
value_ordinary _ = refl

pub refers_to_ordinary : (t : TokenRef) → IsTrue (is_ordinary (token_of t).value)
refers_to_ordinary t = value_ordinary t.value

-- what a sink took, if memory didn't run out
pub took_token : {S A E : Type 0} (takes : S → TokenRef → S → Type 0) (token : Token) (origin : Origin) (old new : S) (r : Result A E) (reference : TokenRef)
    → token_of reference ≡ token → reference.origin ≡ origin → OnOk r (takes old reference new) → OnOk r (TakesToken takes token origin old new)
took_token takes token origin old new r reference refers comes taken =
    on_ok_weaker {P = takes old reference new} {Q = TakesToken takes token origin old new} r
    (λ took. record { reference = reference; refers = refers; comes = comes; taken = took }) taken

-- memory didn't run out for a token that was given
pub token_unspent : (old new : Preprocessing) (token : Token) → is_spent old ≡ false → IsNextItem old (Some (Ok token)) new → is_spent new ≡ false
token_unspent old new token fresh next = elim (rw fresh at next.gives) [ inl refused ↦ let e = refused.item in cc | inr given ↦ given.spent ]

-- the end, which stays, comes whether the sink is full or not
unless_full : (full : Bool) (p : Preprocessing) → IsNextItem p None p → ComesUnlessFull full p None p
unless_full true p next = (refl, refl)
unless_full false p next = next

less_if_some : (answer : Option Item) (old new : Preprocessing) → IsLessLeft answer old new → IfSome answer (λ item. most_items new < most_items old)
less_if_some None old new h = tt
less_if_some (Some item) old new h = h

pub on_err : {A E P : Type 0} (r : Result A E) → P → OnErr r P
on_err (Ok x) p = tt
on_err (Err x) p = p

module _ {S : Type 0} (takes : S → TokenRef → S → Type 0) where
  -- memory didn't run out before the last
  pub given_unspent : (old : Preprocessing) (before : S) (new : Preprocessing) (after : S) → AreGiven takes old before new after → is_spent old ≡ false
      → is_spent new ≡ false
  given_unspent old before new after (nothing p sink e f) fresh = ap is_spent e ∙ fresh
  given_unspent old before new after (one_more token now p between sink given next line taken) fresh =
      token_unspent now new (token_of token) (given_unspent old before now between given fresh) next

  -- tokens that are given keep the rules
  pub given_rules : (old : Preprocessing) (before : S) (new : Preprocessing) (after : S) → AreGiven takes old before new after → rules_of new ≡ rules_of old
  given_rules old before new after (nothing p sink e f) = ap rules_of e
  given_rules old before new after (one_more token now p between sink given next line taken) = next.rules ∙ given_rules old before now between given

  -- no more is left once tokens were given
  given_left : (old : Preprocessing) (before : S) (new : Preprocessing) (after : S) → AreGiven takes old before new after → most_items new ≤ most_items old
  given_left old before new after (nothing p sink e f) = omega (arith, ap most_items e)
  given_left old before new after (one_more token now p between sink given next line taken) =
      omega (arith, given_left old before now between given, next.less_left)

module _ {S : Type 0} (takes : S → TokenRef → S → Type 0) (is_full : S → Bool) where
  pub giving_starts : (p : Preprocessing) (sink : S) → IsGiving takes is_full p sink p sink
  giving_starts p sink = record { last = p; given = nothing p sink refl refl; passed = passed_nothing p; stops = λ e. refl }

  module _ (start now : Preprocessing) (first sink : S) (g : IsGiving takes is_full start first now sink) where
    -- pauses are passed
    pub giving_passes : is_full sink ≡ false → (new : Preprocessing) → IsPassed now new → IsGiving takes is_full start first new sink
    giving_passes wants new passed = record {
      last = g.last;
      given = g.given;
      passed = passed_again g.last now new g.passed passed;
      stops = λ e. cc;
    }

    module _ (fresh : is_spent now ≡ false) where
      next_from_last : (answer : Option Item) (new : Preprocessing) → IsNextItem now answer new → IsNextItem g.last answer new
      next_from_last answer new next = passed_next g.last now new answer (sym g.passed.spent ∙ fresh) g.passed next

      -- a token is given
      pub giving_takes : (token : TokenRef) (new : Preprocessing) (after : S) → IsNextItem now (Some (Ok (token_of token))) new
          → token.origin ≡ origin_of new → takes sink token after → IsGiving takes is_full start first new after
      giving_takes token new after next line taken = record {
        last = new;
        given = one_more token g.last new sink after g.given (next_from_last (Some (Ok (token_of token))) new next) line taken;
        passed = passed_nothing new;
        stops = λ e. refl;
      }

      -- a word is given
      pub giving_word : (word : PlainItem) (new : Preprocessing) (token : TokenRef) (after : S) → IsWord now word new
          → token_of token ≡ word_token word → token.origin ≡ record { text = new.source.text; call = None } → takes sink token after
          → IsGiving takes is_full start first new after
      giving_word word new token after is refers outside taken =
          giving_takes token new after (rw refers is.next) (outside ∙ sym (origin_is (record { text = new.source.text; call = None }) new is.text is.call)) taken

module _ {S : Type 0} (takes : S → TokenRef → S → Type 0) (refuses : S → S → Type 0) (is_full : S → Bool) where
  module _ (start now : Preprocessing) (first sink : S) (g : IsGiving takes is_full start first now sink) where
    -- the sink is full
    pub giving_full : is_full sink ≡ true → GivesTokens takes refuses is_full start first None now sink
    giving_full full = record {
      last = g.last;
      taken = sink;
      given = g.given;
      next = rw full (refl, g.stops full);
      no_token = refl;
      sink = λ _. refl;
      refused = inl refl;
      less_left = tt;
    }

    module _ (wants : is_full sink ≡ false) (fresh : is_spent now ≡ false) where
      -- memory runs out
      pub giving_refused : 0 < most_items now → (after : S) → (after ≡ sink) ⊎ refuses sink after → IsRefusedAfter takes refuses is_full start first after
      giving_refused some after refused = record {
        last = g.last;
        taken = sink;
        given = g.given;
        wants = wants;
        refused = refused;
        unspent = sym g.passed.spent ∙ fresh;
        some_left = omega (arith, g.passed.no_more_left, some);
      }

      -- no more tokens come
      pub giving_ends : (answer : Option Item) (new : Preprocessing) → IsNextItem now answer new → is_ordinary_token answer ≡ false
          → GivesTokens takes refuses is_full start first answer new sink
      giving_ends answer new next none =
          let from_last = next_from_last takes is_full start now first sink g fresh answer new next in
          record {
            last = g.last;
            taken = sink;
            given = g.given;
            next = rw wants from_last;
            no_token = none;
            sink = λ _. refl;
            refused = inl refl;
            less_left = less_if_some answer start new (less_over start g.last new answer (given_left takes start first g.last sink g.given) from_last.less_left);
          }

  -- memory ran out
  pub giving_stops : (start new : Preprocessing) (first after : S) → IsRefusedAfter takes refuses is_full start first after → is_spent new ≡ true
      → rules_of new ≡ rules_of start → GivesTokens takes refuses is_full start first (Some (Err out_of_memory)) new after
  giving_stops start new first after r spent same =
      let next = refused_next r.last new r.unspent spent r.some_left (same ∙ sym (given_rules takes start first r.last r.taken r.given)) in
      record {
        last = r.last;
        taken = r.taken;
        given = r.given;
        next = rw r.wants next;
        no_token = refl;
        sink = λ e. cc;
        refused = r.refused;
        less_left = less_over start r.last new (Some (Err out_of_memory)) (given_left takes start first r.last r.taken r.given) next.less_left;
      }

  -- memory had run out before
  pub giving_nothing : (p : Preprocessing) (sink : S) → is_spent p ≡ true → GivesTokens takes refuses is_full p sink None p sink
  unfolding is_spent
  giving_nothing p sink spent = record {
    last = p;
    taken = sink;
    given = nothing p sink refl refl;
    next = unless_full (is_full sink) p (next_none p spent);
    no_token = refl;
    sink = λ _. refl;
    refused = inl refl;
    less_left = tt;
  }
