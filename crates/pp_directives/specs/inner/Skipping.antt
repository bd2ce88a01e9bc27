-- What is left of a directive's line after a fault on it.
use Rattle.std.specs.Prelude.{◌≡◌, Bool, false, if◌then◌else◌, List, ◌++◌, drop, MatchBool}
use Rattle.pp_lexer.specs.Lexed.{Seen}
use Rattle.pp_model.specs.Lines.{line_length}
use Rattle.pp_macros.specs.LexerErrors.{ErrorAt}
use Rattle.pp_macros.specs.inner.LineReading.{IsFurther}
use Rattle.pp_macros.specs.inner.Source.{Source, unreported_of}
use Rattle.pp_macros.specs.inner.SourceLexed.{SourceLexed, unreported_at}
use Rattle.pp_macros.specs.inner.Unreported.{Unreported}

-- what is left of the line was passed, with its NewLine, or nothing if the line was over
pub record LeavesLine (over : Bool) (old : List Seen) (new_over : Bool) (new : List Seen) : Type 0 where
  pub rest : new ≡ (if over then old else drop (line_length old) old)
  pub further : IsFurther over old new_over new

-- the first of the errors to be read may be passed, and none is read
pub record PassesFirst (old new : Unreported) : Type 0 where
  pub passed : List ErrorAt
  pub later : old.later ≡ passed ++ new.later
  pub read : new.read ≡ old.read

-- the lexer did so
pub record PassesRest (old new : SourceLexed) : Type 0 where
  pub line : LeavesLine old.over old.rest new.over new.rest
  pub errors : PassesFirst (unreported_at old) (unreported_at new)
  pub spent : new.spent ≡ false

-- the source did so, and nothing else of it changed
pub record IsSkipped (old new : Source) : Type 0 where
  pub line : LeavesLine old.over old.rest new.over new.rest
  pub errors : PassesFirst (unreported_of old) (unreported_of new)
  pub others : new ≡ record old { rest = new.rest; places = new.places; over = new.over }

-- the same, if the rules say so; otherwise nothing changed
abbrev pub SkipsRest : Source → Source → Type 0
SkipsRest old new = MatchBool old.rules.passes_dead_errors (IsSkipped old new) (new ≡ old)
