-- Answers and faults.
use Rattle.std.specs.Prelude.{Result, Ok, Err}

infixl 10 ◌>>=◌
-- what `next` gives for an answer; a fault stays as it is
abbrev pub ◌>>=◌ : {A B E : Type 0} → Result A E → (A → Result B E) → Result B E
(Ok answer) >>= next = next answer
(Err kind) >>= next = Err kind
