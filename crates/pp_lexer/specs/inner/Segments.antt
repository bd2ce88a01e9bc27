-- Parts of a segment, under names of their own.
use Rattle.std.specs.Prelude.{ℕ, Bool, ◌==◌}

-- a carriage return, the mark of a comment: the phases leave no other
abbrev pub is_mark : ℕ → Bool
is_mark c = c == 13
