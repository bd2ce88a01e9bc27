-- The definitions before a source that `-D` and `-U` leave, and the lines before it.
use Rattle.std.specs.Prelude.{ℕ, Bool, false, List, [], ◌∷◌, ◌++◌, if◌then◌else◌, nat_eq, codes}
use Rattle.std.specs.Cmp.Lexicographic.{pointwise}
use Rattle.std.specs.List.{flat_map, list_any}
use Rattle.glslpp_parts.specs.declared.changes.Change.{Change}
use Rattle.glslpp_parts.specs.declared.changes.Change.TheVariants.{Define, DefineCall, Undefine}
use Rattle.std.specs.Borrow.{Bor}

-- a name with its content
abbrev pub Definition : Type 0
Definition = Bor (List ℕ) × Bor (List ℕ)

-- a `-U` of this name
abbrev pub takes_back : List ℕ → Change → Bool
takes_back name (Define other content) = false
takes_back name (DefineCall other parameters content) = false
takes_back name (Undefine other) = pointwise nat_eq other.now name

-- a `-D`, unless a later `-U` has its name
abbrev pub kept_of : Change → List Change → List Definition
kept_of (Define name content) later = if list_any (takes_back name.now) later then [] else (name, content) ∷ []
kept_of (DefineCall name parameters content) later = []
kept_of (Undefine name) later = []

-- each `-D` without parameters whose name no later `-U` has, in order
abbrev pub kept : List Change → List Definition
kept [] = []
kept (change ∷ later) = kept_of change later ++ kept later

-- the line that a `-D` with parameters is, unless a later `-U` has its name
abbrev pub define_line : Change → List Change → List ℕ
define_line (Define name content) later = []
define_line (DefineCall name parameters content) later =
    if list_any (takes_back name.now) later then []
    else codes "#define " ++ name.now ++ parameters.now ++ codes " " ++ content.now ++ codes "\n"
define_line (Undefine name) later = []

-- the lines of each `-D` with parameters whose name no later `-U` has, in order
abbrev pub define_lines : List Change → List ℕ
define_lines [] = []
define_lines (change ∷ later) = define_line change later ++ define_lines later

-- the line that includes a file
abbrev pub inclusion_line : List ℕ → List ℕ
inclusion_line file = codes "#include \"" ++ file ++ codes "\"\n"

-- the lines of the `-D`s with parameters, and then one for each file
abbrev pub lines_before : List Change → List (List ℕ) → List ℕ
lines_before changes files = define_lines changes ++ flat_map inclusion_line files
