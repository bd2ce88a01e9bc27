-- Why a call gives no items.
use Rattle.std.proofs.Common.{◌≡◌, ℕ, ◌<◌, List, length, get_or, Result, Ok, Err, IsErrAnd, Any, ap}
use Rattle.std.proofs.lemmas.List.{get_or_default}
use Rattle.pp_c.specs.declared.status.Refusal.{Refusal}
use Rattle.pp_c.specs.declared.status.Refusal.TheVariants.{NotUtf8, TooLong, BadDefinition, OutOfMemory, OverBudget, TooDeep}
use Rattle.pp_c.specs.inner.Refusing.{IsAddingRefusal}

-- a result whose error is known
pub err_result : {T E : Type 0} (result : Result T E) (error : E) → IsErrAnd result (λ e. e ≡ error) → result ≡ Err error
err_result (Ok value) error h = absurd h
err_result (Err other) error h = ap Err h

-- one element shows that there is one
pub any_at : {X : Type 0} (P : X → Type 0) (xs : List X) (i : ℕ) (d : X) → i < length xs → P (get_or xs i d) → Any P xs
any_at P xs i d within h = (i, get_or xs i d, within, get_or_default xs i _ d within, h)

-- a cause in one definition is a cause in all of them
pub refusal_of_all : {X : Type 0} (Long Outside Text : X → Type 0) (xs : List X) (i : ℕ) (d : X) (refusal : Refusal) → i < length xs
    → IsAddingRefusal refusal (Long (get_or xs i d)) (Outside (get_or xs i d)) (Text (get_or xs i d)) → IsAddingRefusal refusal (Any Long xs) (Any Outside xs) (Any Text xs)
refusal_of_all Long Outside Text xs i d NotUtf8 within h = absurd h
refusal_of_all Long Outside Text xs i d TooLong within h = any_at Long xs i d within h
refusal_of_all Long Outside Text xs i d BadDefinition within h = any_at Outside xs i d within h
refusal_of_all Long Outside Text xs i d OutOfMemory within h = tt
refusal_of_all Long Outside Text xs i d OverBudget within h = absurd h
refusal_of_all Long Outside Text xs i d TooDeep within h = any_at Text xs i d within h
