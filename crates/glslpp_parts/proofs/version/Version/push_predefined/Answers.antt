use Rattle.std.proofs.Common.{◌∙◌, ap}
use Rattle.std.specs.Prelude.{codes}
use Rattle.std.proofs.lemmas.List.{map-append}
use Rattle.glslpp_parts.specs.Version.{said, said_of, as_one, is_es, has_high_precision, has_core, is_compatible}
use Rattle.glslpp_parts.proofs.PredefinedLemmas.{as_one-same, appended}
use Rattle.glslpp_parts.proofs.version.Version.push_predefined.Goals as goal

pub returns : goal.returns
returns c =
    appended (said c.args.names.now.items) _ _ _ _ (said c.push_if-4.new.names.items) _ (as_one (is_es c.args.self) (codes "GL_ES"))
    (as_one (has_high_precision c.args.self) (codes "GL_FRAGMENT_PRECISION_HIGH")) (as_one (has_core c.args.self) (codes "GL_core_profile"))
    (as_one (is_compatible c.args.self) (codes "GL_compatibility_profile"))
    (ap said c.in_ok-push.ensures.items ∙ map-append said_of c.args.names.now.items _)
    (as_one-same _ _ _ _ _ c.in_ok-push_if.ensures c.is_es.ensures)
    (as_one-same _ _ _ _ _ c.in_ok-push_if-2.ensures c.has_high_precision.ensures)
    (as_one-same _ _ _ _ _ c.in_ok-push_if-3.ensures c.has_core.ensures)
    (as_one-same _ _ _ _ _ c.in_ok-push_if-4.ensures c.is_compatible.ensures)
