-- The answers by their numbers.
use Rattle.std.proofs.Common.{◌≡◌, ◌≢◌, ◌<◌, ◌⊎◌, inl, inr, ◌∙◌, ℕ, zero, suc, Bool, true, false, List, Option, Some, None, is_some, Any, Result, Ok, Err, IfOk, IsOk, refl, ap, arith}
use Rattle.std.specs.Prelude.{IsTrue}
use denote.Enum.Declared.{tag_of}
use Rattle.pp_c.specs.Calls.{is_text}
use Rattle.pp_c.specs.Preprocessed.{Given, HasAskedItems}
use Rattle.pp_c.specs.inner.Making.{IsAsked}
use Rattle.pp_c.specs.declared.items.Definition.{Definition}
use Rattle.pp_c.specs.contracts.status.Status.{the_type}
use Rattle.pp_c.specs.declared.status.Refusal.{Refusal}
use Rattle.pp_c.specs.declared.status.Status.{Status}
use Rattle.pp_c.specs.declared.status.Status.TheVariants.{
  Done,
  TooSmall,
  NotUtf8,
  TooLong,
  BadDefinition,
  OutOfMemory,
  OverBudget,
  Partial,
  BadOptions,
  Include,
  TooDeep,
  Closed,
}
use Rattle.pp_c.specs.declared.status.End.{End}
use Rattle.pp_c.specs.declared.status.End.TheVariants as where_to

-- the answer with a number
abbrev pub numbered : ℕ → Status
numbered zero = Done
numbered (suc zero) = TooSmall
numbered (suc (suc zero)) = NotUtf8
numbered (suc (suc (suc zero))) = TooLong
numbered (suc (suc (suc (suc zero)))) = BadDefinition
numbered (suc (suc (suc (suc (suc zero))))) = OutOfMemory
numbered (suc (suc (suc (suc (suc (suc zero)))))) = OverBudget
numbered (suc (suc (suc (suc (suc (suc (suc zero))))))) = Partial
numbered (suc (suc (suc (suc (suc (suc (suc (suc zero)))))))) = BadOptions
numbered (suc (suc (suc (suc (suc (suc (suc (suc (suc zero))))))))) = Include
numbered (suc (suc (suc (suc (suc (suc (suc (suc (suc (suc zero)))))))))) = TooDeep
numbered (suc (suc (suc (suc (suc (suc (suc (suc (suc (suc (suc n))))))))))) = Closed

numbered_by : (status : Status) → status ≡ numbered (tag_of the_type status)
numbered_by Done = refl
numbered_by TooSmall = refl
numbered_by NotUtf8 = refl
numbered_by TooLong = refl
numbered_by BadDefinition = refl
numbered_by OutOfMemory = refl
numbered_by OverBudget = refl
numbered_by Partial = refl
numbered_by BadOptions = refl
numbered_by Include = refl
numbered_by TooDeep = refl
numbered_by Closed = refl

-- an answer is the one with its number
pub by_number : (status : Status) (n : ℕ) → tag_of the_type status ≡ n → status ≡ numbered n
by_number status n e = numbered_by status ∙ ap numbered e

-- the answers with which a call may end that doesn't ask for texts, or does
pub answers_by : (Asking : Type 0) (status : Status) → status ≢ BadOptions → status ≢ Closed → (status ≡ Include → Asking) → (status ≡ TooDeep → Asking)
    → (tag_of the_type status < 8) ⊎ (Asking × ((tag_of the_type status ≡ 9) ⊎ (tag_of the_type status ≡ 10)))
answers_by Asking Done good calls include deep = inl (omega arith)
answers_by Asking TooSmall good calls include deep = inl (omega arith)
answers_by Asking NotUtf8 good calls include deep = inl (omega arith)
answers_by Asking TooLong good calls include deep = inl (omega arith)
answers_by Asking BadDefinition good calls include deep = inl (omega arith)
answers_by Asking OutOfMemory good calls include deep = inl (omega arith)
answers_by Asking OverBudget good calls include deep = inl (omega arith)
answers_by Asking Partial good calls include deep = inl (omega arith)
answers_by Asking BadOptions good calls include deep = absurd (good refl)
answers_by Asking Include good calls include deep = inr (include refl, inl refl)
answers_by Asking TooDeep good calls include deep = inr (deep refl, inr refl)
answers_by Asking Closed good calls include deep = absurd (calls refl)

-- those of the lexer
pub answers_of_lexer : (status : Status) → status ≢ BadOptions → status ≢ Closed → status ≢ Partial → status ≢ Include → status ≢ OverBudget → status ≢ TooDeep
    → tag_of the_type status < 6
answers_of_lexer Done good calls whole unasked in_time shallow = omega arith
answers_of_lexer TooSmall good calls whole unasked in_time shallow = omega arith
answers_of_lexer NotUtf8 good calls whole unasked in_time shallow = omega arith
answers_of_lexer TooLong good calls whole unasked in_time shallow = omega arith
answers_of_lexer BadDefinition good calls whole unasked in_time shallow = omega arith
answers_of_lexer OutOfMemory good calls whole unasked in_time shallow = omega arith
answers_of_lexer OverBudget good calls whole unasked in_time shallow = absurd (in_time refl)
answers_of_lexer Partial good calls whole unasked in_time shallow = absurd (whole refl)
answers_of_lexer BadOptions good calls whole unasked in_time shallow = absurd (good refl)
answers_of_lexer Include good calls whole unasked in_time shallow = absurd (unasked refl)
answers_of_lexer TooDeep good calls whole unasked in_time shallow = absurd (shallow refl)
answers_of_lexer Closed good calls whole unasked in_time shallow = absurd (calls refl)

-- where the items end, and what holds then
pub record HowEnded (P : End → Type 0) (answer : ℕ) : Type 0 where
  pub end : End
  pub holds : P end
  pub done : answer ≡ 0 → end ≡ where_to.All
  pub partial : answer ≡ 7 → end ≡ where_to.Front
  pub asking : answer ≡ 9 → end ≡ where_to.Include

module _ (end : Result End Refusal) (status : Status) (done : status ≡ Done → end ≡ Ok where_to.All) (partial : status ≡ Partial → end ≡ Ok where_to.Front)
    (asking : status ≡ Include → end ≡ Ok where_to.Include) (too_small : status ≡ TooSmall → IsOk end) where
  ok_by : (s : Status) → status ≡ s → HasAskedItems (tag_of the_type s) → IsOk end
  ok_by Done e h = rw (done e) refl
  ok_by TooSmall e h = too_small e
  ok_by Partial e h = rw (partial e) refl
  ok_by Include e h = rw (asking e) refl
  ok_by NotUtf8 e h = absurd (omega (arith, h))
  ok_by TooLong e h = absurd (omega (arith, h))
  ok_by BadDefinition e h = absurd (omega (arith, h))
  ok_by OutOfMemory e h = absurd (omega (arith, h))
  ok_by OverBudget e h = absurd (omega (arith, h))
  ok_by BadOptions e h = absurd (omega (arith, h))
  ok_by TooDeep e h = absurd (omega (arith, h))
  ok_by Closed e h = absurd (omega (arith, h))

  -- with items the call ended well
  pub ok_if_items : HasAskedItems (tag_of the_type status) → IsOk end
  ok_if_items h = ok_by status refl h

  -- a value that is known
  value_is : (value known : End) → end ≡ Ok value → end ≡ Ok known → value ≡ known
  value_is value known e f = cc

  ended_by : {P : End → Type 0} (e : Result End Refusal) → end ≡ e → IfOk e P → IsOk e → HowEnded P (tag_of the_type status)
  ended_by (Ok value) same holds ok = record {
    end = value;
    holds = holds;
    done = λ n. value_is value where_to.All same (done (by_number status 0 n));
    partial = λ n. value_is value where_to.Front same (partial (by_number status 7 n));
    asking = λ n. value_is value where_to.Include same (asking (by_number status 9 n));
  }
  ended_by (Err refusal) same holds ok = cc

  pub how_ended : {P : End → Type 0} → IfOk end P → HasAskedItems (tag_of the_type status) → HowEnded P (tag_of the_type status)
  how_ended holds h = ended_by end refl holds (ok_if_items h)

-- only a call that takes texts ends at a line that asks, or has a text
pub asks_for_texts : (passes : Option ℕ) (given : List Given) → IsAsked passes where_to.Include given → IsTrue (is_some passes)
asks_for_texts None given h = absurd h
asks_for_texts (Some lines) given h = refl

pub has_texts : (texts : Bool) (definitions : List Definition) → Any (λ definition. is_text texts definition ≡ true) definitions → IsTrue texts
has_texts true definitions h = refl
has_texts false definitions h = let bad : false ≡ true = h.4 in cc
