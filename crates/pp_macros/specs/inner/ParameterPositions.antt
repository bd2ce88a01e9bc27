-- Where the parameters of a macro are, in its list of parameters and in its body.
use Rattle.std.specs.Prelude.{◌≡◌, ℕ, List, Option, Some, None, position, take, string_bytes}
use Rattle.std.specs.Map.{lookup}
use Rattle.std.specs.Str.{chars}
use Rattle.std.specs.declared.string.String.{String}
use Rattle.pp_model.specs.Names.{Name, is_same_name}

-- the first of both that is there
abbrev pub or_else : Option ℕ → Option ℕ → Option ℕ
or_else (Some k) other = Some k
or_else None other = other

-- each name that isn't among the first few parameters is found at its position
abbrev pub FindsOthers : ℕ → {Z : Type 0} → List (String Z × ℕ) → List Name → Type 0
FindsOthers few {Z} entries parameters = (name : Name)
    → or_else (position (is_same_name name) (take few parameters))
    (lookup (λ (key : String Z). is_same_name name (chars (string_bytes key))) entries)
    ≡ position (is_same_name name) parameters
