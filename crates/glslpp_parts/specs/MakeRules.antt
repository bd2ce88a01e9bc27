-- Rules for Make: targets, a colon, and the files on which they depend (GNU make, section 4.2).
use Rattle.std.specs.Prelude.{ℕ, Bool, if◌then◌else◌, List, [], ◌∷◌, ◌++◌, codes}
use Rattle.std.specs.List.{flat_map}
use Rattle.glslpp_parts.specs.FileNames.{escaped}

-- words with a space between each two
abbrev pub spaced_words : List (List ℕ) → List ℕ
spaced_words [] = []
spaced_words (first ∷ others) = first ++ flat_map (λ other. codes " " ++ other) others

-- a name on one more line of a rule: the line before ends in a `\`
abbrev pub continued_name : List ℕ → List ℕ
continued_name name = codes " \\\n  " ++ escaped name

-- the first file is on the line of the targets, and each other on one more
abbrev pub prerequisites : List (List ℕ) → List ℕ
prerequisites [] = []
prerequisites (first ∷ others) = codes " " ++ escaped first ++ flat_map continued_name others

-- a rule that doesn't say on what the file depends
abbrev pub empty_rule : List ℕ → List ℕ
empty_rule file = escaped file ++ codes ":\n"

-- an empty rule for each file but the first
abbrev pub empty_rules : List (List ℕ) → List ℕ
empty_rules [] = []
empty_rules (first ∷ others) = flat_map empty_rule others

-- the rule by which these targets depend on the files, and the empty rules if they are asked for
abbrev pub rule : List (List ℕ) → List (List ℕ) → Bool → List ℕ
rule targets files is_with_empty_rules =
    spaced_words targets ++ codes ":" ++ prerequisites files ++ codes "\n"
    ++ (if is_with_empty_rules then empty_rules files else [])
