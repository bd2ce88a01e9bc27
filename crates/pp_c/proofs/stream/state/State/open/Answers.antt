use Rattle.std.proofs.Common.{refl}
use Rattle.pp_c.proofs.StreamLemmas.{nothing_made}
use Rattle.pp_c.proofs.stream.state.State.open.Goals as goal

pub returns-clause-opened : goal.returns-clause-opened
returns-clause-opened c =
    let same = c.in_ok-set_budget.ensures {u = tt} in
    let begun = c.with_rules-pp.ensures in
    record {
      made = rw (← (c.in_ok-source.ensures {u = tt}).same) (nothing_made _ _ _ (rw same begun.stands) (rw same begun.errors) (rw same begun.rules) refl);
      goes_on = (refl, refl);
      bounded = c.is_some.ensures;
    }
