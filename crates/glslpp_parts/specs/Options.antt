-- The options of the command line, as `clap` is told of them.
use Rattle.std.specs.Prelude.{ℕ, List, [], ◌∷◌, ◌++◌, Option, Some, None, codes, map}
use Rattle.clap.specs.Words.{Rule, app_of}
use Rattle.clap.specs.declared.builder.action.ArgAction.{ArgAction}
use Rattle.clap.specs.declared.builder.action.ArgAction.TheVariants.{Set, SetTrue, Append}
use Rattle.clap.specs.declared.builder.command.Command.{Command}

-- an option: the id by which the program asks for it, its letter and its long name on the command line, and what a use
-- does: it gives the value, gives one more value, or sets a flag
pub record Known : Type 0 where
  pub id : List ℕ
  pub letter : Option ℕ
  pub long : Option (List ℕ)
  pub action : Option ArgAction

abbrev pub known_of : Rule → Known
known_of rule = record { id = rule.id; letter = rule.short; long = rule.long; action = rule.action }

-- the options that a command has so far, in order
abbrev pub options_of : Command → List Known
options_of command = map known_of (app_of command).top.rules

abbrev pub lettered : List ℕ → ℕ → ArgAction → Known
lettered id letter action = record { id = id; letter = Some letter; long = None; action = Some action }

-- a flag with a long name, which is its id too
abbrev pub named : List ℕ → Known
named id = record { id = id; letter = None; long = Some id; action = Some SetTrue }

-- an option with a value and a long name, which is its id too
abbrev pub long_valued : List ℕ → Known
long_valued id = record { id = id; letter = None; long = Some id; action = Some Set }

-- an option that may be repeated
abbrev pub long_listed : List ℕ → Known
long_listed id = record { id = id; letter = None; long = Some id; action = Some Append }

abbrev pub nameless : List ℕ → ArgAction → Known
nameless id action = record { id = id; letter = None; long = None; action = Some action }

-- `-D`, `-U` and `-o`
abbrev pub value_options : List Known
value_options = lettered (codes "define") 68 Append ∷ lettered (codes "undefine") 85 Append
    ∷ lettered (codes "output") 111 Set ∷ []

-- `--rules`, `--std` and `--extension`
abbrev pub language_options : List Known
language_options = long_valued (codes "rules") ∷ long_valued (codes "std") ∷ long_listed (codes "extension") ∷ []

-- `-P`, `--tokens`, `--directives` and `--definitions`
abbrev pub forms : List Known
forms = lettered (codes "compact") 80 SetTrue ∷ named (codes "tokens") ∷ named (codes "directives")
    ∷ named (codes "definitions") ∷ []

-- `-I`, `--include` and `--line-names`
abbrev pub include_options : List Known
include_options = lettered (codes "folder") 73 Append ∷ long_listed (codes "include") ∷ named (codes "line-names") ∷ []

-- `-M`, `-MD`, `-MF`, `-MT`, `-MQ` and `-MP`, by their long names
abbrev pub dependency_options : List Known
dependency_options = named (codes "dependencies") ∷ named (codes "write-dependencies")
    ∷ long_valued (codes "dependency-file") ∷ long_listed (codes "target") ∷ long_listed (codes "quoted-target")
    ∷ named (codes "phony-targets") ∷ []

-- `--first-error`, `--undef`, `--budget` and `--html`
abbrev pub general_options : List Known
general_options = named (codes "first-error") ∷ named (codes "undef") ∷ long_valued (codes "budget")
    ∷ named (codes "html") ∷ []

-- `--max-errors`, `--error-format`, `--color` and `--stdin-name`
abbrev pub message_options : List Known
message_options = long_valued (codes "max-errors") ∷ long_valued (codes "error-format")
    ∷ long_valued (codes "color") ∷ long_valued (codes "stdin-name") ∷ []

-- `-W` and `-w`
abbrev pub warning_options : List Known
warning_options = lettered (codes "warning") 87 Append ∷ lettered (codes "silent") 119 SetTrue ∷ []

-- those of other preprocessors: `-E` and `-S`
abbrev pub foreign : List Known
foreign = lettered (codes "only") 69 SetTrue ∷ lettered (codes "stage") 83 Append ∷ []

-- all of them, and the files
abbrev pub options : List Known
options = language_options ++ value_options ++ forms ++ include_options ++ dependency_options ++ general_options
    ++ message_options ++ warning_options ++ foreign ++ nameless (codes "files") Append ∷ []
