-- How much a directive's line takes, and the pause after it.
use Rattle.std.proofs.Common.{◌≡◌, ◌+◌, ℕ, List, drop}
use Rattle.std.specs.Prelude.{Err}
use Rattle.pp_lexer.specs.Lexed.{Seen}
use Rattle.pp_lexer.specs.declared.token.Token.{Token}
use Rattle.pp_model.specs.Lines.{line_length}
use Rattle.pp_model.specs.SourceReader.{SourceReader}
use Rattle.pp_macros.specs.Item.{PlacedStep}
use Rattle.pp_macros.specs.inner.Source.{Source}
use Rattle.pp_macros.specs.declared.step.PlacedExit.TheVariants.{Continue}
use Rattle.pp_rs.specs.inner.Stands.{StandsReading}

-- how many items a directive's line takes, from its number sign to its end
abbrev pub whole_line : List Seen → ℕ
whole_line rest = 2 + line_length (drop 2 rest)

-- a pause, after which the source stands for this reader
abbrev pub PausesAt : PlacedStep Token → Source → SourceReader → Type 0
PausesAt move new t = (move ≡ Err Continue) × StandsReading new t
