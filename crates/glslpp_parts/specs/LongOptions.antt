-- Options of gcc with one dash and a word, and the long names by which they are asked for.
use Rattle.std.specs.Prelude.{ℕ, Bool, ◌||◌, if◌then◌else◌, Option, Some, None, List, [], ◌∷◌, ◌++◌, codes, drop}
use Rattle.std.specs.Prelude.{nat_eq}
use Rattle.std.specs.Cmp.Lexicographic.{pointwise}
use Rattle.std.specs.List.{starts_with}

abbrev pub is_same_word : List ℕ → List ℕ → Bool
is_same_word word other = pointwise nat_eq word other

-- the long name of a word that is such an option
abbrev pub long_name : List ℕ → Option (List ℕ)
long_name word =
    if is_same_word word (codes "-M") || is_same_word word (codes "-MM") then Some (codes "--dependencies")
    else if is_same_word word (codes "-MD") || is_same_word word (codes "-MMD") then Some (codes "--write-dependencies")
    else if is_same_word word (codes "-MP") then Some (codes "--phony-targets")
    else if is_same_word word (codes "-MF") then Some (codes "--dependency-file")
    else if is_same_word word (codes "-MT") then Some (codes "--target")
    else if is_same_word word (codes "-MQ") then Some (codes "--quoted-target")
    else if is_same_word word (codes "-include") then Some (codes "--include")
    else if is_same_word word (codes "-dM") then Some (codes "--definitions")
    else None

-- the long name of such an option whose value directly follows it, and the value
abbrev pub long_name_with_value : List ℕ → Option (List ℕ × List ℕ)
long_name_with_value word =
    if starts_with nat_eq word (codes "-MF") then Some (codes "--dependency-file", drop 3 word)
    else if starts_with nat_eq word (codes "-MT") then Some (codes "--target", drop 3 word)
    else if starts_with nat_eq word (codes "-MQ") then Some (codes "--quoted-target", drop 3 word)
    else None

-- a word that is such an option, by its long name
abbrev pub by_long_name : List ℕ → List ℕ
by_long_name word = alone (long_name word)
  where
    with_value : Option (List ℕ × List ℕ) → List ℕ
    with_value (Some found) = found.0 ++ codes "=" ++ found.1
    with_value None = word

    alone : Option (List ℕ) → List ℕ
    alone (Some name) = name
    alone None = with_value (long_name_with_value word)

-- the words of a command line with this for each up to `--`, after which there are no options
abbrev pub each_option : (List ℕ → List ℕ) → List (List ℕ) → List (List ℕ)
each_option f [] = []
each_option f (word ∷ words) = if is_same_word word (codes "--") then word ∷ words else f word ∷ each_option f words
