-- A reader together with how many characters it has taken.
use Rattle.std.specs.Prelude.{◌≡◌, ℕ, ◌+◌, Bool, List}
use Rattle.pp_lexer.specs.Longest.{longest}
use Rattle.pp_lexer.specs.Reading.{Reading, letters, advanced}

pub record Scan : Type 0 where
  pub reading : Reading
  pub taken : ℕ

-- the characters to come
abbrev pub upcoming : Scan → List ℕ
upcoming s = letters s.reading.rest

-- the reader that many characters further on
abbrev pub further : ℕ → Scan → Scan
further n s = record { reading = advanced n s.reading; taken = s.taken + n }

-- the longest front that is in the set is taken
abbrev pub Takes : (List ℕ → Bool) → Scan → Scan → Type 0
Takes P old new = new ≡ further (longest P (upcoming old)) old
