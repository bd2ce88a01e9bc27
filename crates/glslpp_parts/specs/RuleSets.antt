-- The rules by which `glslpp` reads a source (docs/RULES.md, "GLSL's rules").
use Rattle.std.specs.Prelude.{unwrap_or}
use Rattle.pp_lexer.specs.Rules.{pp_rs, glsl, with_includes}
use Rattle.pp_lexer.specs.declared.rules.Profile.TheVariants.{Core}
use Rattle.pp_lexer.specs.declared.rules.Rules.{Rules}
use Rattle.glslpp_parts.specs.declared.rule_set.RuleSet.{RuleSet}
use Rattle.glslpp_parts.specs.declared.rule_set.RuleSet.TheVariants.{Glsl, PpRs}
use Rattle.glslpp_parts.specs.declared.version.Version.{Version}

-- GLSL's rules for the version of the source, with includes, or pp-rs's. A version that names no profile has that of
-- the desktop.
abbrev pub rules_for : RuleSet → Version → Rules
rules_for Glsl version = with_includes (glsl version.number (unwrap_or version.profile Core))
rules_for PpRs version = pp_rs
