use Rattle.std.proofs.Common.{refl}
use Rattle.pp_rs.specs.Sentences.{sentence_of}
use Rattle.glslpp_parts.proofs.explainer.Explainer.explained.Goals as goal

pub returns-in-Some : goal.returns-in-Some
returns-in-Some c = c.diagnostic_of.ensures.cause refl (sentence_of c.args.error.now)
