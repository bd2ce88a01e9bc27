use Rattle.std.proofs.Common.{refl}
use Rattle.pp_c.proofs.CallLemmas.{includes_text}
use Rattle.pp_c.proofs.stream.state.State.include.Goals as goal
use Rattle.pp_c.proofs.stream.state.State.include.Goals.{in-Ok, in-Err-TooDeep, in-Err-TooLong}

pub returns-clause-includes : goal.returns-clause-includes
returns-clause-includes c = elim c.match-include.branch [
  | in-Ok w ↦ rw (w.result-is, ← c.self.view_is, ← (c.in_ok-text.ensures {u = tt}).same)
      (includes_text _ _ c.in_default.is refl refl refl _ (w.in-Ok.ensures {u = tt}))
  | in-Err-TooDeep w ↦ rw w.result-is tt
  | in-Err-TooLong w ↦ rw w.result-is tt
]
