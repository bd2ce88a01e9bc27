use Rattle.std.proofs.Common.{refl, sym}
use Rattle.pp_reference.specs.inner.Seen.{none, some}
use Rattle.pp_reference.proofs.expander.Expander.take_paren.Goals as goal

pub returns-in-None-clause-takes : goal.returns-in-None-clause-takes
returns-in-None-clause-takes g c =
    none c.in_ok-found.found _ _ _ _ c.in_ok-found.ensures.takes (sym c.in-None.ensures) refl refl

pub returns-in-Some-clause-takes : goal.returns-in-Some-clause-takes
returns-in-Some-clause-takes g c =
    some c.in_ok-found.found c.in-Some.paren _ _ _ c.in_ok-found.ensures.takes (sym c.in-Some.ensures) refl
