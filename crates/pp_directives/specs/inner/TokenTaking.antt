-- Taking the next token of a source.
use Rattle.std.specs.Prelude.{◌≡◌, false, Option, Result, IfOk}
use Rattle.pp_lexer.specs.Lexed.{comments_before}
use Rattle.pp_lexer.specs.declared.lexer.item.Token.{Token as LexerToken}
use Rattle.pp_macros.specs.declared.halt.Halt.{Halt}
use Rattle.pp_macros.specs.inner.LineReading.{Meets, TakesItems, FaultTakesSome, IsShownOrLast, LeavesSome}
use Rattle.pp_macros.specs.inner.LineReading.{RefusedWithin, next_token}
use Rattle.pp_macros.specs.inner.SourceLexed.{SourceLexed, unreported_at, EndKeepsPlaces}
use Rattle.pp_macros.specs.inner.Unreported.{Reports}

-- the next token was taken, or the end was met
pub record TakesToken (old : SourceLexed) (result : Result (Option LexerToken) Halt) (new : SourceLexed) : Type 0 where
  pub is : Meets (λ t. t) result (next_token old.rest)
  pub takes : TakesItems 1 1 old result new
  pub some : FaultTakesSome result old new
  pub fault : IsShownOrLast result new
  pub comments : IfOk result (λ token. new.had_comments ≡ comments_before old.rest old.at_end)
  pub left : IfOk result (λ token. LeavesSome token new.rest)
  pub ended : EndKeepsPlaces result old new
  pub errors : Reports false result (unreported_at old) (unreported_at new)
  pub refused : RefusedWithin result old.rest
