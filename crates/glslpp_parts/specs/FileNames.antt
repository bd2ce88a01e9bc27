-- Names of files: their folders, other suffixes, and how they stand in rules for Make.
use Rattle.std.specs.Prelude.{◌≡◌, ℕ, Bool, ◌||◌, if◌then◌else◌, List, [], ◌∷◌, ◌++◌, codes, nat_eq, slice_index}
use Rattle.std.specs.Prelude.{unwrap_or}
use Rattle.std.specs.Cmp.Lexicographic.{pointwise}
use Rattle.std.specs.List.{flat_map, list_any}
use Rattle.std.specs.Path.{path_file_stem, path_parent}
use Rattle.glslpp_parts.specs.declared.include_line.Header.{Header}

-- the folder that a file is in; that in which the program runs has no name
abbrev pub folder_of : List ℕ → List ℕ
folder_of file = unwrap_or (path_parent file) []

-- one of these names
abbrev pub is_among : List ℕ → List (List ℕ) → Bool
is_among name names = list_any (λ other. pointwise nat_eq other name) names

-- the names that aren't among those before them, each once
abbrev pub new_among : List (List ℕ) → List (List ℕ) → List (List ℕ)
new_among before [] = []
new_among before (name ∷ names) =
    if is_among name before then new_among before names else name ∷ new_among (before ++ name ∷ []) names

-- with one name more at the end, unless it is there
abbrev pub IsWithName : List ℕ → List (List ℕ) → List (List ℕ) → Type 0
IsWithName name old new = new ≡ (if is_among name old then old else old ++ name ∷ [])

-- the folder of the file that includes another by a quoted name
abbrev pub own_folder : Header → List ℕ → List (List ℕ)
own_folder header includer = if header.is_quoted then folder_of includer ∷ [] else []

-- Where a file is looked for that is included: by a name that begins with `/` there alone, and otherwise in its own
-- folder and then in these, each once.
abbrev pub folders_for : Header → List ℕ → List (List ℕ) → List (List ℕ)
folders_for header includer folders =
    if nat_eq (slice_index header.name.now 0) 47 then [] ∷ []
    else own_folder header includer ++ new_among (own_folder header includer) folders

-- how a folder is named in messages
abbrev pub shown_folder : List ℕ → List ℕ
shown_folder [] = codes "."
shown_folder (c ∷ cs) = c ∷ cs

-- a folder after another one
abbrev pub listed_folder : List ℕ → List ℕ
listed_folder folder = codes ", `" ++ shown_folder folder ++ codes "`"

-- in which folders a file was looked for
abbrev pub looked_in : List (List ℕ) → List ℕ
looked_in [] = codes ": no folder is given by `-I`"
looked_in (first ∷ others) = codes " in `" ++ shown_folder first ++ codes "`" ++ flat_map listed_folder others

-- what is said of a file that isn't found: by a name that begins with `/` it was looked for there alone
abbrev pub not_found : List ℕ → List (List ℕ) → List ℕ
not_found name folders =
    codes "`" ++ name ++ codes "` isn't found" ++ (if nat_eq (slice_index name 0) 47 then [] else looked_in folders)

-- the name of a source without its folder, and with this in place of its suffix
abbrev pub with_suffix : List ℕ → List ℕ → List ℕ
with_suffix source suffix = unwrap_or (path_file_stem source) source ++ suffix

-- a space or a tab
abbrev pub is_blank : ℕ → Bool
is_blank c = nat_eq c 32 || nat_eq c 9

-- What Make wants before a character that follows these backslashes: as many again and one more before a blank, one
-- before a `#`, and a `$` before a `$` (GNU make, sections 4.4 and 6.1).
abbrev pub escape_of : List ℕ → ℕ → List ℕ
escape_of backslashes c =
    if is_blank c then backslashes ++ 92 ∷ [] else if nat_eq c 35 then 92 ∷ [] else if nat_eq c 36 then 36 ∷ [] else []

-- the backslashes that are directly before what follows a character
abbrev pub backslashes_after : List ℕ → ℕ → List ℕ
backslashes_after before c = if nat_eq c 92 then before ++ 92 ∷ [] else []

-- what follows these backslashes, as it stands in a rule
abbrev pub escaped_after : List ℕ → List ℕ → List ℕ
escaped_after before [] = []
escaped_after before (c ∷ cs) = escape_of before c ++ c ∷ escaped_after (backslashes_after before c) cs

-- a name as it stands in a rule
abbrev pub escaped : List ℕ → List ℕ
escaped name = escaped_after [] name
