use Rattle.std.proofs.Common.{◌∙◌, ap, List}
use Rattle.pp_model.specs.Names.{Name}
use Rattle.pp_model.specs.Painting.{taken_among}
use Rattle.pp_reference.proofs.expander.Expander.take.Goals as goal

pub returns-in-Ok-clause-takes : goal.returns-in-Ok-clause-takes
returns-in-Ok-clause-takes g c = record {
  first = c.in_ok-taken.taken;
  fetches = c.in_ok-taken.ensures.fetches;
  paints = c.taken_among.ensures ∙ ap (λ (names : List Name). taken_among names c.in_ok-taken.taken) (c.deref.ensures.value ∙ c.in-Ok.ensures);
}
