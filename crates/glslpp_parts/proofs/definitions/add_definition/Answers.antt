use Rattle.glslpp_parts.proofs.definitions.add_definition.Goals as goal

pub returns-in_ok-add-in-Ok : goal.returns-in_ok-add-in-Ok
returns-in_ok-add-in-Ok c = record {
  added = c.in-Ok.ensures;
  taken_in = c.in_ok-add-in-Ok.ensures;
}
