-- The versions of GLSL, and the profiles that each has: GLSL ES 3.20, section 3.4, and GLSL 4.60, section 3.3.
use Rattle.std.specs.Prelude.{ℕ, Bool, List, [], ◌∷◌, nat_eq, if◌then◌else◌}
use Rattle.std.specs.List.{list_any}
use Rattle.glslpp_parts.specs.declared.directive_check.Edition.{Edition}
use Rattle.glslpp_parts.specs.declared.directive_check.Edition.TheVariants.{WithoutProfiles, Es, Desktop, Unknown}

abbrev pub is_among : ℕ → List ℕ → Bool
is_among number numbers = list_any (nat_eq number) numbers

abbrev pub edition_of : ℕ → Edition
edition_of number =
    if is_among number (100 ∷ 110 ∷ 120 ∷ 130 ∷ 140 ∷ []) then WithoutProfiles
    else if is_among number (300 ∷ 310 ∷ 320 ∷ []) then Es
    else if is_among number (150 ∷ 330 ∷ 400 ∷ 410 ∷ 420 ∷ 430 ∷ 440 ∷ 450 ∷ 460 ∷ []) then Desktop
    else Unknown
