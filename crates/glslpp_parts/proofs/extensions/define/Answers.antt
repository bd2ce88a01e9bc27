use Rattle.glslpp_parts.proofs.extensions.define.Goals.{in-Ok, in-Err}
use Rattle.glslpp_parts.proofs.extensions.define.Goals as goal

pub returns : goal.returns
returns c = elim c.match-add_define.branch [
  | in-Ok w ↦ rw w.result-is w.in-Ok.ensures
  | in-Err w ↦ rw w.result-is tt
]
