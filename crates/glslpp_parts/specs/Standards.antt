-- The words for versions of GLSL after `-std=`.
use Rattle.std.specs.Prelude.{◌≡◌, ℕ, Bool, false, not, IsTrue, Option, Some, None, is_none, List, [], ◌++◌, codes}
use Rattle.std.specs.Prelude.{nat_eq, if◌then◌else◌}
use Rattle.std.specs.List.{starts_with}
use Rattle.std.specs.Fmt.{decimal}
use Rattle.pp_lexer.specs.declared.rules.Profile.{Profile}
use Rattle.pp_lexer.specs.declared.rules.Profile.TheVariants.{Es, Core, Compatibility}
use Rattle.glslpp_parts.specs.declared.directive_check.Edition.{Edition}
use Rattle.glslpp_parts.specs.declared.directive_check.Edition.TheVariants as edition
use Rattle.glslpp_parts.specs.declared.version.Version.{Version}
use Rattle.glslpp_parts.specs.Editions.{edition_of}
use Rattle.glslpp_parts.specs.Version.{names_es}

-- `-std=VERSION` as a long option
abbrev pub lengthened : List ℕ → List ℕ
lengthened word = if starts_with nat_eq word (codes "-std=") then codes "-" ++ word else word

abbrev pub profile_word : Option Profile → List ℕ
profile_word None = []
profile_word (Some Es) = codes "es"
profile_word (Some Core) = codes "core"
profile_word (Some Compatibility) = codes "compatibility"

-- the number of a version, and its profile
abbrev pub standard_word : Version → List ℕ
standard_word v = decimal v.number ++ profile_word v.profile

-- whether a version of such an edition may have this profile in its `#version`
abbrev pub has_profile : Edition → Option Profile → Bool
has_profile edition.WithoutProfiles profile = is_none profile
has_profile edition.Es profile = names_es profile
has_profile edition.Desktop profile = not (names_es profile)
has_profile edition.Unknown profile = false

-- the word is that of a version of GLSL
pub record IsStandard (word : List ℕ) (v : Version) : Type 0 where
  pub named : word ≡ standard_word v
  pub known : IsTrue (has_profile (edition_of v.number) v.profile)
