use Rattle.std.proofs.Common.{◌∙◌, sym, refl}
use Rattle.pp_rs.specs.Kept.{call_place}
use Rattle.pp_rs.proofs.pp.preprocessor.Preprocessor.call_place.Goals as goal

pub returns-in-Some : goal.returns-in-Some
unfolding call_place
returns-in-Some c = rw (← c.self.view_is, sym c.call.ensures ∙ c.in-Some.is) refl

pub returns-in-None : goal.returns-in-None
unfolding call_place
returns-in-None c = rw (← c.self.view_is, sym c.call.ensures ∙ c.in-None.is) c.item_call.ensures
