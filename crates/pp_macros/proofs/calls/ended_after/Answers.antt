use Rattle.std.proofs.Common.{refl}
use Rattle.pp_macros.proofs.taking.RunLemmas.{place_last}
use Rattle.pp_macros.proofs.calls.ended_after.Goals as goal

pub returns-in-Some : goal.returns-in-Some
returns-in-Some c =
    rw (c.place.ensures, place_last c.args.paren c.args.tokens.now c.in-Some.read.now (c.in-Some.ensures {u = tt}).value) refl
