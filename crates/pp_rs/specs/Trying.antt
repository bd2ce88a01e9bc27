-- One call of `try_add_define` (docs/RULES.md, "Calls").
use Rattle.std.specs.Prelude.{◌≡◌, ℕ, ◌-◌, ◌^◌, ◌<◌, ◌≤◌, List, ◌++◌, codes, length, Result, Ok, Err}
use Rattle.pp_lexer.specs.PlacedErrors.{placed, placed_sentence}
use Rattle.pp_macros.specs.Item.{Fault}
use Rattle.pp_rs.specs.Adding.{IsAdded}
use Rattle.pp_rs.specs.Kept.{Preprocessing}
use Rattle.pp_rs.specs.declared.pp.trying.AddError.{AddError}
use Rattle.pp_rs.specs.declared.pp.trying.AddError.TheVariants.{TooLong, Refused}

-- the answer of `add_define`, with its error as one value
abbrev pub tried : Result (Unit {0}) Fault → Result (Unit {0}) AddError
tried (Ok added) = Ok added
tried (Err fault) = Err (Refused (placed fault))

-- What a call returns, and the preprocessor after it.
pub data IsTried (old : Preprocessing) (name content : List ℕ) (answer : Result (Unit {0}) AddError)
    (new : Preprocessing) : Type 0 where
  -- the content is too long, and nothing changes
  too_long : 2 ^ 32 - 1 ≤ length content
      → answer ≡ Err TooLong
      → new ≡ old
      → IsTried old name content answer new
  -- otherwise the call does what `add_define` does
  short : (added : Result (Unit {0}) Fault)
      → length content < 2 ^ 32 - 1
      → IsAdded old name content added new
      → answer ≡ tried added
      → IsTried old name content answer new

-- the message of an error, as UTF-8
abbrev pub add_sentence : AddError → List ℕ
add_sentence TooLong = codes "the content is too long"
add_sentence (Refused e) = codes "in the content: " ++ placed_sentence e
