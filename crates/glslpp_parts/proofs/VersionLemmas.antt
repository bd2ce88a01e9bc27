-- The words of a `#version`, which have ASCII alone, and the profile that one of them names.
use Rattle.std.proofs.Common.{◌≡◌, ◌∙◌, List, [], ◌∷◌, refl, sym, ap}
use Rattle.std.specs.Prelude.{codes, MatchOption, Option, Some, None}
use Rattle.std.specs.Str.{chars}
use Rattle.pp_lexer.specs.declared.rules.Profile.{Profile}
use Rattle.glslpp_parts.specs.Version.{Read, profile_of}

pub chars-version : chars (codes "version") ≡ codes "version"
unfolding chars
chars-version = refl

pub chars-es : chars (codes "es") ≡ codes "es"
unfolding chars
chars-es = refl

pub chars-core : chars (codes "core") ≡ codes "core"
unfolding chars
chars-core = refl

pub chars-compatibility : chars (codes "compatibility") ≡ codes "compatibility"
unfolding chars
chars-compatibility = refl

-- the profile that what was read names is that of the first of what is left
pub told_profile : (read : Option Read) (all rest : List Read) (profile : Option Profile) → MatchOption read (all ≡ []) (λ first. all ≡ first ∷ rest)
    → MatchOption read (profile ≡ None) (λ first. (reads : List Read) → profile ≡ profile_of (first ∷ reads)) → profile ≡ profile_of all
told_profile None all rest profile left told = told ∙ ap profile_of (sym left)
told_profile (Some first) all rest profile left told = told rest ∙ ap profile_of (sym left)
