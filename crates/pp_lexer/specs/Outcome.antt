-- What begins at a place of a text: a token's value, or an error.
use Rattle.std.specs.Prelude.{◌≡◌, ℕ, Bool, true, false, ◌⊎◌, Result, Ok, Err, IsErr}
use Rattle.std.specs.declared.alloc.AllocError.{AllocError}
use Rattle.pp_lexer.specs.declared.lexer.item.TokenValue.{TokenValue}
use Rattle.pp_lexer.specs.declared.token.PreprocessorError.{PreprocessorError}
use Rattle.pp_lexer.specs.LexerToken.{holds_memory}

-- a value, or the error in its place
abbrev pub Answer : Type 0
Answer = Result TokenValue PreprocessorError

-- the value or the error, and the number of characters that it takes
pub record Outcome : Type 0 where
  pub value : Answer
  pub taken : ℕ

-- identifiers and floats hold a text and take memory; nothing else does
abbrev pub takes_memory : Answer → Bool
takes_memory (Ok value) = holds_memory value
takes_memory (Err error) = false

-- the answer is given; or it takes memory, and the allocation failed
abbrev pub IsGiven : Result Answer AllocError → Answer → Type 0
IsGiven given answer = (given ≡ Ok answer) ⊎ (IsErr given × (takes_memory answer ≡ true))
