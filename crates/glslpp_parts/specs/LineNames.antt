-- `#line` lines with names of files, and the texts that are read in place of those with names.
use Rattle.std.specs.Prelude.{◌≡◌, ◌⊎◌, ⊤, ℕ, ◌+◌, ◌^◌, Bool, true, false, ◌&&◌, not, ◌==◌, if◌then◌else◌, nat_eq}
use Rattle.std.specs.Prelude.{nat_lt, Option, Some, None, option_map, unwrap_or, List, [], ◌∷◌, codes, drop, length}
use Rattle.std.specs.Prelude.{slice_index, take}
use Rattle.std.specs.Char.{is_ascii_digit, is_ascii_whitespace}
use Rattle.std.specs.List.{after_first, before_first, starts_with}
use Rattle.std.specs.Option.{option_and_then}
use Rattle.std.specs.Str.{trim_start}
use Rattle.std.specs.Str.Parse.{digits_value}
use Rattle.glslpp_parts.specs.declared.line_names.LineMark.{LineMark}

-- what follows the white space with which a text begins, and a word
abbrev pub past_word : List ℕ → List ℕ → Option (List ℕ)
past_word text word =
    if starts_with nat_eq (trim_start text) word then Some (drop (length word) (trim_start text)) else None

-- a text that begins with white space
abbrev pub if_spaced : List ℕ → Option (List ℕ)
if_spaced text = if is_ascii_whitespace (slice_index text 0) then Some text else None

-- what follows the word of a `#line` line: `#` and `line` may have white space before them, and some follows
abbrev pub line_rest : List ℕ → Option (List ℕ)
line_rest line =
    option_and_then (λ rest. option_and_then if_spaced (past_word rest (codes "line"))) (past_word line (codes "#"))

-- how much of a name is before the `"` that ends it; one after a `\` doesn't
abbrev pub name_length : Bool → List ℕ → Option ℕ
name_length is_escaped [] = None
name_length true (c ∷ cs) = option_map (λ n. n + 1) (name_length false cs)
name_length false (c ∷ cs) =
    if nat_eq c 34 then Some 0 else option_map (λ n. n + 1) (name_length (nat_eq c 92) cs)

-- the name that begins at the first `"`, in its quotes
abbrev pub quoted_name : List ℕ → Option (List ℕ)
quoted_name rest =
    option_map (λ n. 34 ∷ take (n + 1) (after_first (λ c. nat_eq c 34) rest))
    (name_length false (after_first (λ c. nat_eq c 34) rest))

-- the digits with which a text begins, and what follows them
abbrev pub leading_digits : List ℕ → List ℕ
leading_digits text = before_first (λ c. not (is_ascii_digit c)) text

abbrev pub past_digits : List ℕ → List ℕ
past_digits text = drop (length (leading_digits text)) text

-- the number that digits write, if there are some and it fits in 32 bits
abbrev pub number_in : List ℕ → Option ℕ
number_in digits =
    if nat_lt 0 (length digits) && nat_lt (digits_value 10 digits) (2 ^ 32) then Some (digits_value 10 digits) else None

-- a `#line` of a text: the line that it is on, its number, and what follows that
pub record Numbering : Type 0 where
  pub line : ℕ
  pub number : ℕ
  pub label : List ℕ

-- what follows the number of a `#line`: a name in its quotes, or the digits of another number
abbrev pub own_label : List ℕ → List ℕ
own_label rest = unwrap_or (quoted_name rest) (leading_digits (trim_start (past_digits (trim_start rest))))

-- this label, or the one before if it is empty
abbrev pub label_or : List ℕ → List ℕ → List ℕ
label_or before own = if length own == 0 then before else own

-- a `#line` on this line, after one with this label, and with this number; its word has this behind it
abbrev pub numbering_with : ℕ → List ℕ → List ℕ → ℕ → Numbering
numbering_with at before rest n = record { line = at; number = n; label = label_or before (own_label rest) }

-- what follows the word of a `#line` has first a number in digits
abbrev pub numbering_in : ℕ → List ℕ → List ℕ → Option Numbering
numbering_in at before rest = option_map (numbering_with at before rest) (number_in (leading_digits (trim_start rest)))

-- the `#line` that the line with this number is, after one with this label
abbrev pub line_numbering : List ℕ → ℕ → List ℕ → Option Numbering
line_numbering line at before = option_and_then (numbering_in at before) (line_rest line)

-- what is kept of it
abbrev pub numbering_of : LineMark → Numbering
numbering_of mark = record { line = mark.line; number = mark.number; label = mark.label.now }

-- the text with blanks in place of some of its bytes, and so of the same length
abbrev pub IsBlanked : List ℕ → List ℕ → Type 0
IsBlanked [] [] = ⊤
IsBlanked [] (y ∷ ys) = ⊥
IsBlanked (x ∷ xs) [] = ⊥
IsBlanked (x ∷ xs) (y ∷ ys) = ((y ≡ x) ⊎ (y ≡ 32)) × IsBlanked xs ys
