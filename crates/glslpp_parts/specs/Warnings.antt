-- The warnings that the command line asks for.
use Rattle.std.specs.Prelude.{ℕ, Bool, not, is_some, ◌&&◌, unwrap_or, true, false, List}
use Rattle.std.specs.Prelude.{[], ◌∷◌, ◌++◌, Option, Some, None, codes, nat_eq, if◌then◌else◌}
use Rattle.std.specs.Cmp.Lexicographic.{pointwise}
use Rattle.std.specs.List.{list_any}
use Rattle.glslpp_parts.specs.declared.diagnostic.Severity.{Severity}
use Rattle.glslpp_parts.specs.declared.diagnostic.Severity.TheVariants.{Error, Warning as warning_severity}
use Rattle.glslpp_parts.specs.declared.warning.Warning.{Warning}
use Rattle.glslpp_parts.specs.declared.warning.Warning.TheVariants.{UnusedMacros, Guard, Comment, ExtraTokens}
use Rattle.glslpp_parts.specs.declared.warning.Warning.TheVariants.{Space, Conflict, Reserved, Undef}
use Rattle.glslpp_parts.specs.declared.warning.Warnings.{Warnings}

-- the name of a kind of warning after `-W`
abbrev pub name_of : Warning → List ℕ
name_of UnusedMacros = codes "unused-macros"
name_of Guard = codes "guard"
name_of Comment = codes "comment"
name_of ExtraTokens = codes "extra-tokens"
name_of Space = codes "space"
name_of Conflict = codes "conflict"
name_of Reserved = codes "reserved"
name_of Undef = codes "undef"

abbrev pub no_warnings : Warnings
no_warnings = record {
  unused_macros = false;
  guard = false;
  comment = false;
  extra_tokens = false;
  space = false;
  conflict = false;
  reserved = false;
  undef = false;
  are_errors = false;
}

abbrev pub is_on : Warnings → Warning → Bool
is_on warnings UnusedMacros = warnings.unused_macros
is_on warnings Guard = warnings.guard
is_on warnings Comment = warnings.comment
is_on warnings ExtraTokens = warnings.extra_tokens
is_on warnings Space = warnings.space
is_on warnings Conflict = warnings.conflict
is_on warnings Reserved = warnings.reserved
is_on warnings Undef = warnings.undef

-- what a word after `-W` says of a name: that it is on or, with `no-`, that it is off
abbrev pub mention : List ℕ → List ℕ → Option Bool
mention name word = if pointwise nat_eq word name then Some true
    else if pointwise nat_eq word (codes "no-" ++ name) then Some false else None

abbrev pub later : Option Bool → Option Bool → Option Bool
later None before = before
later (Some is) before = Some is

-- what the last of the words that speaks of a name says of it
abbrev pub said : List ℕ → List (List ℕ) → Option Bool
said name [] = None
said name (word ∷ words) = later (said name words) (mention name word)

-- what `-W` takes: the names of the kinds, and `error` and `all`
abbrev pub names : List (List ℕ)
names = codes "unused-macros" ∷ codes "guard" ∷ codes "comment" ∷ codes "extra-tokens" ∷ codes "space"
    ∷ codes "conflict" ∷ codes "reserved" ∷ codes "undef" ∷ codes "error" ∷ codes "all" ∷ []

-- a word that says something of one of these
abbrev pub is_known : List ℕ → Bool
is_known word = list_any (λ name. is_some (mention name word)) names

-- whether a kind is on: by the last word that names it, and otherwise by `all`; none is if all are to be silent
abbrev pub is_asked : List (List ℕ) → Bool → Warning → Bool
is_asked words is_silent kind =
    not is_silent && unwrap_or (said (name_of kind) words) (unwrap_or (said (codes "all") words) false)

-- whether warnings are errors
abbrev pub are_errors : List (List ℕ) → Bool → Bool
are_errors words is_silent = not is_silent && unwrap_or (said (codes "error") words) false

-- the warnings that these words after `-W` ask for
abbrev pub warnings_of : List (List ℕ) → Bool → Warnings
warnings_of words is_silent = record {
  unused_macros = is_asked words is_silent UnusedMacros;
  guard = is_asked words is_silent Guard;
  comment = is_asked words is_silent Comment;
  extra_tokens = is_asked words is_silent ExtraTokens;
  space = is_asked words is_silent Space;
  conflict = is_asked words is_silent Conflict;
  reserved = is_asked words is_silent Reserved;
  undef = is_asked words is_silent Undef;
  are_errors = are_errors words is_silent;
}

-- how grave warnings are
abbrev pub severity_of : Warnings → Severity
severity_of warnings = if warnings.are_errors then Error else warning_severity

-- the message of a warning, with the option that turns it on
abbrev pub marked : List ℕ → Warning → List ℕ
marked text warning = text ++ codes " [-W" ++ name_of warning ++ codes "]"
