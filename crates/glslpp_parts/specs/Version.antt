-- The version that the first tokens of a source name: GLSL ES 3.20, section 3.4.
use Rattle.std.specs.Prelude.{ℕ, Bool, true, false, not, ◌&&◌, ◌||◌, ◌==◌, nat_le, List, [], ◌∷◌, ◌++◌, map, Option}
use Rattle.std.specs.Prelude.{Some, None, Result, Ok, codes, nat_eq, if◌then◌else◌, unwrap_or, option_map}
use Rattle.std.specs.Cmp.Lexicographic.{pointwise}
use Rattle.pp_lexer.specs.declared.lexer.item.TokenValue.{TokenValue as LexerTokenValue}
use Rattle.pp_lexer.specs.declared.lexer.item.TokenValue.TheVariants.{Hash, NewLine, Ident, Integer}
use Rattle.pp_lexer.specs.declared.rules.Profile.{Profile}
use Rattle.pp_lexer.specs.declared.rules.Profile.TheVariants.{Es, Core, Compatibility}
use Rattle.pp_lexer.specs.declared.token.PreprocessorError.{PreprocessorError}
use Rattle.glslpp_parts.specs.declared.changes.Change.{Change}
use Rattle.glslpp_parts.specs.declared.changes.Change.TheVariants.{Define, DefineCall, Undefine}
use Rattle.glslpp_parts.specs.declared.version.Version.{Version}

-- what a lexer reads: a value, or an error
abbrev pub Read : Type 0
Read = Result LexerTokenValue PreprocessorError

abbrev pub is_newline : Read → Bool
is_newline (Ok NewLine) = true
is_newline read = false

abbrev pub is_hash : Read → Bool
is_hash (Ok Hash) = true
is_hash read = false

-- a name of these characters
abbrev pub is_word : List ℕ → Read → Bool
is_word word (Ok (Ident name)) = pointwise nat_eq name word
is_word word read = false

abbrev pub number_of : Read → Option ℕ
number_of (Ok (Integer i)) = Some i.value
number_of read = None

-- what is left after newlines are passed over
abbrev pub after_newlines : List Read → List Read
after_newlines [] = []
after_newlines (read ∷ reads) = if is_newline read then after_newlines reads else read ∷ reads

-- the profile that the next word names, if it is one of GLSL
abbrev pub profile_of : List Read → Option Profile
profile_of [] = None
profile_of (read ∷ reads) =
    if is_word (codes "es") read then Some Es
    else if is_word (codes "core") read then Some Core
    else if is_word (codes "compatibility") read then Some Compatibility
    else None

-- a number, and then the profile
abbrev pub numbered : List Read → Option Version
numbered [] = None
numbered (read ∷ reads) = option_map (λ n. record { number = n; profile = profile_of reads }) (number_of read)

-- the version, if the word `version` is first
abbrev pub after_hash : List Read → Option Version
after_hash [] = None
after_hash (read ∷ reads) = if is_word (codes "version") read then numbered reads else None

-- the version, if the `#` of a `#version` is first
abbrev pub version_line : List Read → Option Version
version_line [] = None
version_line (read ∷ reads) = if is_hash read then after_hash reads else None

-- the version that the first line that isn't empty names, and otherwise this one
abbrev pub version_of : Version → List Read → Version
version_of otherwise reads = unwrap_or (version_line (after_newlines reads)) otherwise

-- the version of a source that names none: GLSL ES 3.20, section 3.4
abbrev pub default_version : Version
default_version = record { number = 100; profile = None }

abbrev pub names_es : Option Profile → Bool
names_es (Some Es) = true
names_es profile = false

abbrev pub names_compatibility : Option Profile → Bool
names_compatibility (Some Compatibility) = true
names_compatibility profile = false

-- GLSL ES: the profile is `es`, or the number is 100
abbrev pub is_es : Version → Bool
is_es v = names_es v.profile || (v.number == 100)

abbrev pub has_high_precision : Version → Bool
has_high_precision v = is_es v || nat_le 130 v.number

abbrev pub has_core : Version → Bool
has_core v = not (is_es v) && nat_le 150 v.number

abbrev pub is_compatible : Version → Bool
is_compatible v = names_compatibility v.profile && nat_le 150 v.number

abbrev pub said_of : Change → List ℕ × Option (List ℕ)
said_of (Define name content) = (name.now, Some content.now)
said_of (DefineCall name parameters content) = (name.now ++ parameters.now, Some content.now)
said_of (Undefine name) = (name.now, None)

-- the changes as texts: a name with its content, or a name that is undefined
abbrev pub said : List Change → List (List ℕ × Option (List ℕ))
said changes = map said_of changes

-- a name with the content 1, if the name is defined
abbrev pub as_one : Bool → List ℕ → List (List ℕ × Option (List ℕ))
as_one is_defined name = if is_defined then (name, Some (codes "1")) ∷ [] else []

-- the names that GLSL defines in a version whose number has these digits (docs/GLSLPP.md, Predefined names)
abbrev pub predefined : Version → List ℕ → List (List ℕ × Option (List ℕ))
predefined v digits =
    ((codes "__VERSION__", Some digits) ∷ [])
    ++ as_one (is_es v) (codes "GL_ES")
    ++ as_one (has_high_precision v) (codes "GL_FRAGMENT_PRECISION_HIGH")
    ++ as_one (has_core v) (codes "GL_core_profile")
    ++ as_one (is_compatible v) (codes "GL_compatibility_profile")
