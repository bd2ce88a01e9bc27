-- What a call of a stream for items answers.
use Rattle.std.proofs.Common.{◌≡◌, ◌≢◌, ◌⊎◌, ◌∙◌, ℕ, inl, inr, true, List, Option, Some, None, Result, Ok, Err, IfOk, IfErr, refl, sym, ap, arith}
use Rattle.std.specs.Prelude.{IfSome}
use denote.Enum.Declared.{tag_of}
use Rattle.pp_c.specs.Entries.{Entry}
use Rattle.pp_c.specs.Preprocessed.{Given, HasAskedItems}
use Rattle.pp_c.specs.Streams.{Streaming, GivesNothing, shortage_number}
use Rattle.pp_c.specs.contracts.status.Status.{the_type}
use Rattle.pp_c.specs.declared.output.Output.{Output}
use Rattle.pp_c.specs.declared.status.End.{End}
use Rattle.pp_c.specs.declared.status.Refusal.{Refusal}
use Rattle.pp_c.specs.declared.status.Refusal.TheVariants as refusal
use Rattle.pp_c.specs.declared.status.Shortage.{Shortage}
use Rattle.pp_c.specs.declared.status.Shortage.TheVariants.{Memory, Budget}
use Rattle.pp_c.specs.declared.status.Status.{Status}
use Rattle.pp_c.specs.declared.status.Status.TheVariants.{
  Done,
  TooSmall,
  NotUtf8,
  TooLong,
  BadDefinition,
  OutOfMemory,
  OverBudget,
  Partial,
  BadOptions,
  Include,
  TooDeep,
  Closed,
}
use Rattle.pp_c.specs.inner.Batches.{EndsBatch, ended, cut, IsShort, StopsAt, at_end, at_line, enough, full, no_room, too_large}
use Rattle.pp_c.specs.inner.Refusing.{refusal_for}
use Rattle.pp_c.specs.inner.Taking.{Takes}
use Rattle.pp_c.proofs.StatusLemmas.{by_number}

-- what may run out
short_of : (shortage : Shortage) → (refusal_for shortage ≡ refusal.OutOfMemory) ⊎ (refusal_for shortage ≡ refusal.OverBudget)
short_of Memory = inl refl
short_of Budget = inr refl

budget_of : (shortage : Shortage) → refusal_for shortage ≡ refusal.OverBudget → shortage ≡ Budget
budget_of Memory e = let bad : refusal.OutOfMemory ≡ refusal.OverBudget = e in cc
budget_of Budget e = refl

-- a batch ends only if nothing had run out
ready_of : (most : ℕ) (end : End) (old new : Streaming) (first output : Output) → EndsBatch most end old first new output → old.ran_out ≡ None
ready_of most end old new first output (ended h before ready bounded) = before
ready_of most end old new first output (cut number shortage e some h before short bounded) = before

-- with these answers there is room, and with that one there is not
pub with_room : {R : Type 0} (status : Status) → ((status ≡ Done) ⊎ (status ≡ Partial) ⊎ (status ≡ Include) → R)
    → (tag_of the_type status ≡ 0) ⊎ (tag_of the_type status ≡ 7) ⊎ (tag_of the_type status ≡ 9) → R
with_room status room (inl e) = room (inl (by_number status 0 e))
with_room status room (inr (inl e)) = room (inr (inl (by_number status 7 e)))
with_room status room (inr (inr e)) = room (inr (inr (by_number status 9 e)))

-- the memory is the caller's
pub record SameMemory (first output : Output) : Type 0 where
  pub items : output.items.ghost_name ≡ first.items.ghost_name
  pub texts : output.texts.ghost_name ≡ first.texts.ghost_name

same_by : (first output : Output) (entries : List Entry) → Takes first entries output → SameMemory first output
same_by first output entries takes = record { items = takes.same_items; texts = takes.same_texts }

same_at : (most : ℕ) (first : Output) (given : List Given) (waiting : Option Given) (output : Output) (end : End) → StopsAt most first given waiting output end
    → SameMemory first output
same_at most first given waiting output end (at_end e less quiet none h takes) = same_by first output _ takes
same_at most first given waiting output end (at_line e less line none h takes) = same_by first output _ takes
same_at most first given waiting output end (enough e all quiet none h takes) = same_by first output _ takes
same_at most first given waiting output end (full e some less quiet over none h takes) = same_by first output _ takes
same_at most first given waiting output end (no_room following e some less quiet over waits h takes) = same_by first output _ takes
same_at most first given waiting output end (too_large item e none over waits takes) = same_by first output _ takes

pub same_memory : (most : ℕ) (end : End) (old new : Streaming) (first output : Output) → EndsBatch most end old first new output → SameMemory first output
same_memory most end old new first output (ended h before ready bounded) = same_at most first h.given new.waiting output end h.stops
same_memory most end old new first output (cut number shortage e some h before short bounded) = same_by first output _ h.given.takes

module _ (end : Result End Refusal) (status : Status) (out_of_memory : (status ≡ OutOfMemory → end ≡ Err refusal.OutOfMemory) × (end ≡ Err refusal.OutOfMemory → status ≡ OutOfMemory))
    (over_budget : (status ≡ OverBudget → end ≡ Err refusal.OverBudget) × (end ≡ Err refusal.OverBudget → status ≡ OverBudget)) where
  number_of_shortage : (shortage : Shortage) → end ≡ Err (refusal_for shortage) → tag_of the_type status ≡ shortage_number shortage
  number_of_shortage Memory e = ap (tag_of the_type) (out_of_memory.1 e)
  number_of_shortage Budget e = ap (tag_of the_type) (over_budget.1 e)

  module _ (most : ℕ) (old new : Streaming) (first output : Output) (given : IfOk end (λ e. EndsBatch most e old first new output))
      (short : IfErr end (λ r. IsShort r old new)) where
    -- the cause of a refusal
    short_by : (r : Refusal) → end ≡ Err r → IsShort r old new
    short_by r e = rw e at short

    ready_by : (e : End) → end ≡ Ok e → old.ran_out ≡ None
    ready_by e same = ready_of most e old new first output (rw same at given)

    before_by : (e : Result End Refusal) → end ≡ e → (known : Shortage) → old.ran_out ≡ Some known → (tag_of the_type status ≡ shortage_number known) × (new ≡ old)
    before_by (Ok e) same known was = let none : old.ran_out ≡ None = ready_by e same in cc
    before_by (Err r) same known was =
        let h = short_by r same in let it = h.before known was in
        (number_of_shortage known (same ∙ ap (λ (x : Refusal). Err x) (h.is ∙ ap refusal_for it.0)), it.1)

    ran_out_by : (known : Option Shortage) → old.ran_out ≡ known → IfSome known (λ shortage. (tag_of the_type status ≡ shortage_number shortage) × (new ≡ old))
    ran_out_by None was = tt
    ran_out_by (Some known) was = before_by end refl known was

    -- what ran out before is answered again
    pub again : IfSome old.ran_out (λ shortage. (tag_of the_type status ≡ shortage_number shortage) × (new ≡ old))
    again = ran_out_by old.ran_out refl

    nothing_by : (r : Refusal) → end ≡ Err r → GivesNothing (tag_of the_type status) old new
    nothing_by r same = let h = short_by r same in record {
      shortage = h.shortage;
      ran_out = h.ran_out;
      number = number_of_shortage h.shortage (same ∙ ap (λ (x : Refusal). Err x) h.is);
      stays = λ log made. record {
        are = rw h.waiting made.are;
        last = made.last;
        reached = rw h.waiting made.reached;
        goes_on = λ none. (let ran : new.ran_out ≡ Some h.shortage = h.ran_out in cc);
      };
      waiting = h.waiting;
      bounded = h.bounded;
    }

    -- with these answers nothing was given
    pub gives_nothing : (tag_of the_type status ≡ 5) ⊎ (tag_of the_type status ≡ 6) → GivesNothing (tag_of the_type status) old new
    gives_nothing (inl five) = nothing_by refusal.OutOfMemory (out_of_memory.0 (by_number status 5 five))
    gives_nothing (inr six) = nothing_by refusal.OverBudget (over_budget.0 (by_number status 6 six))

    -- a budget runs out only if there is one
    pub has_budget : tag_of the_type status ≡ 6 → old.ran_out ≡ None → old.is_bounded ≡ true
    has_budget six ready =
        let h = short_by refusal.OverBudget (over_budget.0 (by_number status 6 six)) in
        h.within ready (budget_of h.shortage (sym h.is))

    other_by : (r : Refusal) → r ≢ refusal.OutOfMemory → r ≢ refusal.OverBudget → end ≡ Err r → ⊥
    other_by r memory budget same = let h = short_by r same in elim (short_of h.shortage) [
      | inl e ↦ memory (h.is ∙ e)
      | inr e ↦ budget (h.is ∙ e)
    ]

    module _ (not_utf8 : status ≡ NotUtf8 → end ≡ Err refusal.NotUtf8) (too_long : status ≡ TooLong → end ≡ Err refusal.TooLong)
        (bad_definition : status ≡ BadDefinition → end ≡ Err refusal.BadDefinition) (too_deep : status ≡ TooDeep → end ≡ Err refusal.TooDeep)
        (good : status ≢ BadOptions) (no_stream : status ≢ Closed) where
      answer_by : (s : Status) → status ≡ s → HasAskedItems (tag_of the_type s) ⊎ (tag_of the_type s ≡ 5) ⊎ (tag_of the_type s ≡ 6)
      answer_by Done e = inl (inl (inl (omega arith)))
      answer_by TooSmall e = inl (inl (inl (omega arith)))
      answer_by NotUtf8 e = absurd (other_by refusal.NotUtf8 (λ n. cc) (λ n. cc) (not_utf8 e))
      answer_by TooLong e = absurd (other_by refusal.TooLong (λ n. cc) (λ n. cc) (too_long e))
      answer_by BadDefinition e = absurd (other_by refusal.BadDefinition (λ n. cc) (λ n. cc) (bad_definition e))
      answer_by OutOfMemory e = inr (inl refl)
      answer_by OverBudget e = inr (inr refl)
      answer_by Partial e = inl (inl (inr refl))
      answer_by BadOptions e = absurd (good e)
      answer_by Include e = inl (inr refl)
      answer_by TooDeep e = absurd (other_by refusal.TooDeep (λ n. cc) (λ n. cc) (too_deep e))
      answer_by Closed e = absurd (no_stream e)

      -- the answers of a stream for items
      pub answers_of_stream : HasAskedItems (tag_of the_type status) ⊎ (tag_of the_type status ≡ 5) ⊎ (tag_of the_type status ≡ 6)
      answers_of_stream = answer_by status refl
