-- What holds of a result.
use Rattle.std.proofs.Common.{Result, Ok, Err, IfOk}

pub ok_more : {X E : Type 0} (P Q : X → Type 0) (result : Result X E) → ((x : X) → P x → Q x) → IfOk result P → IfOk result Q
ok_more P Q (Ok x) more h = more x h
ok_more P Q (Err e) more h = tt
