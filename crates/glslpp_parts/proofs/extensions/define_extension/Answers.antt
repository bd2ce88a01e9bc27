use Rattle.std.proofs.Common.{◌∙◌, sym}
use Rattle.glslpp_parts.proofs.extensions.define_extension.Goals as goal

pub returns-in_ok-define-in-Some : goal.returns-in_ok-define-in-Some
returns-in_ok-define-in-Some c = record {
  name = c.in-Some.name.now;
  on = c.in-Some.ensures;
  known_name = sym c.is_known.ensures ∙ c.if-is_known.true;
  added = c.in_ok-define-in-Some.ensures;
}
