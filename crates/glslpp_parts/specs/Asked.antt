-- What the command line asks for, by what `clap` found in it.
use Rattle.std.specs.Prelude.{◌≡◌, ℕ, Bool, true, false, Option, None, Some, List, [], ◌∷◌, codes, if◌then◌else◌}
use Rattle.std.specs.Prelude.{map, nat_eq, option_map}
use Rattle.std.specs.Cmp.Lexicographic.{pointwise}
use Rattle.std.specs.Option.{option_map_or}
use Rattle.clap.specs.Matches.{matched_of, one_text, raw_values}
use Rattle.clap.specs.declared.parser.matches.Found.{Found}
use Rattle.clap.specs.Words.{first_value}
use Rattle.glslpp_parts.specs.declared.arguments.Colours.{Colours}
use Rattle.glslpp_parts.specs.declared.arguments.Colours.TheVariants.{Auto, Always, Never}
use Rattle.glslpp_parts.specs.declared.arguments.Form.{Form}
use Rattle.glslpp_parts.specs.declared.dependency_options.Dependencies.{Dependencies}
use Rattle.glslpp_parts.specs.declared.rule_set.RuleSet.{RuleSet}
use Rattle.glslpp_parts.specs.declared.rule_set.RuleSet.TheVariants.{PpRs}
use Rattle.glslpp_parts.specs.declared.warning.Warnings.{Warnings}
use Rattle.glslpp_parts.specs.Warnings.{warnings_of}
use Rattle.glslpp_parts.specs.declared.arguments.Form.TheVariants.{Lines, Compact, Tokens, Directives, Definitions}

-- the words that an argument was given, in order
abbrev pub words_of : Found → List ℕ → List (List ℕ)
words_of found id = option_map_or raw_values (matched_of found id) []

-- whether a flag was given, which `clap` keeps as the text `true`
pub record IsFlag (found : Found) (id : List ℕ) (flag : Bool) : Type 0 where
  pub given : one_text found id ≡ Some (codes "true") → flag ≡ true
  pub other : one_text found id ≡ Some (codes "false") → flag ≡ false
  pub none : one_text found id ≡ None → flag ≡ false

-- the form of the flags for tokens, for directives and for runs of tokens; of several that are given, the first counts
abbrev pub form_of : Bool → Bool → Bool → Bool → Form
form_of definitions tokens directives compact =
    if definitions then Definitions else if tokens then Tokens else if directives then Directives
    else if compact then Compact else Lines

-- the form that the flags say
pub record IsForm (found : Found) (form : Form) : Type 0 where
  pub definitions : Bool
  pub tokens : Bool
  pub directives : Bool
  pub compact : Bool
  pub are_definitions : IsFlag found (codes "definitions") definitions
  pub are_tokens : IsFlag found (codes "tokens") tokens
  pub are_directives : IsFlag found (codes "directives") directives
  pub is_compact : IsFlag found (codes "compact") compact
  pub is : form ≡ form_of definitions tokens directives compact

-- whether an option's value is this one
pub record IsAsked (found : Found) (id value : List ℕ) (is : Bool) : Type 0 where
  pub given : first_value found id ≡ Some value → is ≡ true
  pub other : is ≡ true → first_value found id ≡ Some value

-- the most errors that are reported: 20, if no number is given
pub record IsLimit (found : Found) (most : ℕ) : Type 0 where
  pub none : one_text found (codes "max-errors") ≡ None → most ≡ 20

-- the steps that a source may take: 100 million, if no number is given
pub record IsBudget (found : Found) (steps : Option ℕ) : Type 0 where
  pub none : one_text found (codes "budget") ≡ None → steps ≡ Some 100000000

-- whose rules sources are read by, as the value of `--rules` says: GLSL's, unless pp-rs's are asked for
pub record IsRuleSet (found : Found) (rule_set : RuleSet) : Type 0 where
  pub pp_rs : first_value found (codes "rules") ≡ Some (codes "pp-rs") → rule_set ≡ PpRs
  pub other : rule_set ≡ PpRs → first_value found (codes "rules") ≡ Some (codes "pp-rs")

-- whether messages have colours, as the value of `--color` says
pub record AreColours (found : Found) (colours : Colours) : Type 0 where
  pub always : first_value found (codes "color") ≡ Some (codes "always") → colours ≡ Always
  pub never : first_value found (codes "color") ≡ Some (codes "never") → colours ≡ Never
  pub none : first_value found (codes "color") ≡ None → colours ≡ Auto

-- the warnings that the words after `-W` ask for, if `-w` isn't given
pub record AreWarnings (found : Found) (warnings : Warnings) : Type 0 where
  pub silent : Bool
  pub is_silent : IsFlag found (codes "silent") silent
  pub are : warnings ≡ warnings_of (words_of found (codes "warning")) silent

-- what is asked for of the files that an output depends on
pub record AreDependencies (found : Found) (asked : Dependencies) : Type 0 where
  pub are_output : IsFlag found (codes "dependencies") asked.are_output
  pub are_written : IsFlag found (codes "write-dependencies") asked.are_written
  pub file : option_map (λ name. name.now) asked.file ≡ first_value found (codes "dependency-file")
  pub targets : map (λ target. target.now) asked.targets.items ≡ words_of found (codes "target")
  pub quoted : map (λ target. target.now) asked.quoted_targets.items ≡ words_of found (codes "quoted-target")
  pub have_targets : IsFlag found (codes "phony-targets") asked.have_targets

-- the file that a name says to write to; `-` says the standard output
abbrev pub written_file : List ℕ → Option (List ℕ)
written_file name = if pointwise nat_eq name (codes "-") then None else Some name

-- the files, or `-` for the standard input if none is named
abbrev pub files_or_input : List (List ℕ) → List (List ℕ)
files_or_input [] = codes "-" ∷ []
files_or_input (file ∷ files) = file ∷ files
