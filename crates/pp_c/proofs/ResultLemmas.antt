-- What holds if a result is `Ok`.
use Rattle.std.proofs.Common.{◌≡◌, Result, Ok, Err, OnOk, IfOk, IsOk, refl, ap, subst}
use Rattle.std.specs.Result.{result_and}

-- one fact of the value for another
pub if_ok_then : {T E : Type 0} {P Q : T → Type 0} (result : Result T E) → ((value : T) → P value → Q value) → IfOk result P → IfOk result Q
if_ok_then (Ok value) f h = f value h
if_ok_then (Err error) f h = h

-- what holds of a value that is known
pub if_ok_at : {T E : Type 0} (P : T → Type 0) (result : Result T E) (value : T) → result ≡ Ok value → IfOk result P → P value
if_ok_at P (Ok other) value e h = let same : other ≡ value = cc in subst P same h
if_ok_at P (Err error) value e h = cc

-- what holds then, if it is
pub if_ok : {T E P : Type 0} (result : Result T E) → IsOk result → OnOk result P → P
if_ok (Ok value) ok h = h
if_ok (Err error) ok h = cc

-- a result whose value is replaced
pub and_ok : {T E U : Type 0} (result : Result T E) (other : U) → IsOk (result_and result (Ok other)) → IsOk result
and_ok (Ok value) other h = refl
and_ok (Err error) other h = h

pub and_err : {T E U : Type 0} (result : Result T E) (other : U) (error : E) → result_and result (Ok other) ≡ Err error → result ≡ Err error
and_err (Ok value) other error h = cc
and_err (Err e) other error h = let same : e ≡ error = cc in ap Err same

pub err_and : {T E U : Type 0} (result : Result T E) (other : U) (error : E) → result ≡ Err error → result_and result (Ok other) ≡ Err error
err_and (Ok value) other error h = cc
err_and (Err e) other error h = let same : e ≡ error = cc in ap Err same

pub and_value : {T E U : Type 0} (result : Result T E) (other value : U) → result_and result (Ok other) ≡ Ok value → value ≡ other
and_value (Ok v) other value h = cc
and_value (Err e) other value h = cc
