-- The arguments of the command line: `NAME=CONTENT`
use Rattle.std.specs.Prelude.{◌≡◌, ℕ, List, ◌∷◌, ◌++◌, Contains}

-- the argument is the name, the separator and the content, and the name doesn't hold the separator
pub record IsCutAtFirst (separator : ℕ) (word name content : List ℕ) : Type 0 where
  pub whole : word ≡ name ++ separator ∷ content
  pub first : ¬ (Contains name separator)
