-- Marks of names. Each name has one of 64, so a name whose mark is missing is none of those that are marked.
use Rattle.std.specs.Prelude.{◌≡◌, ◌+◌, ◌*◌, ◌-◌, ◌%◌, ◌^◌, ◌==◌, ℕ, Bool, true, List, [], ◌∷◌, length}
use Rattle.std.specs.Prelude.{bit_and, slice_index_or}
use Rattle.std.specs.List.{list_all}
use Rattle.std.specs.Str.{encode_utf8_all}
use Rattle.pp_model.specs.Names.{Name}

-- the number of the mark of a name with these bytes
abbrev pub number_by_bytes : List ℕ → ℕ
number_by_bytes [] = 0
number_by_bytes (b ∷ bytes) =
    (length (b ∷ bytes) + b * 5 + slice_index_or (b ∷ bytes) (length (b ∷ bytes) - 1) 0 * 3) % 64

-- the number of the mark of a name; no contract depends on which function it is
unfoldable pub mark_number : Name → ℕ
mark_number name = number_by_bytes (encode_utf8_all name)

-- the mark of a name, as a bit
abbrev pub mark_of : Name → ℕ
mark_of name = 2 ^ mark_number name

-- whether the mark of the name is among the marks
abbrev pub has_mark : ℕ → Name → Bool
has_mark marks name = bit_and marks (mark_of name) == mark_of name

-- the marks of all these names are among the marks
abbrev pub AreMarked : ℕ → List Name → Type 0
AreMarked marks names = list_all (has_mark marks) names ≡ true
