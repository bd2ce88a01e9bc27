-- How far printing has got. No contract of a public call cites this.
use Rattle.std.specs.Prelude.{◌≡◌, ℕ, List, [], ◌∷◌, ◌++◌, Option, Some, None}
use Rattle.std.specs.Io.KnownBytes.{Appends}
use Rattle.pp_rs.specs.Comes.{State, Gives}
use Rattle.pp_rs.specs.Kept.{Preprocessing, Stands}
use Rattle.pp_rs.specs.Output.{output_lines, written_lines}
use Rattle.pp_rs.specs.declared.token.Token.{Token}
use Rattle.pp_rs.specs.inner.OutputLines.{lines_from}
use Rattle.pp_print.specs.Runs.{IsPrinted, IsBegun}
use Rattle.pp_print.specs.SourceRuns.{AreFirstFrom, EndsFrom}
use Rattle.pp_print.specs.declared.ends.RunEnd.{RunEnd}

-- the run was printed to its end, from each state that the items stand for; and a run was begun
abbrev pub ArePrinted : Preprocessing → RunEnd → Option (List ℕ) → Option (List ℕ) → Type 0
ArePrinted items end old new = (state : State) → Stands items state → IsPrinted (EndsFrom state) end old new

abbrev pub AreBegun : Preprocessing → Option (List ℕ) → Option (List ℕ) → Type 0
AreBegun items old new = (state : State) → Stands items state → IsBegun (AreFirstFrom state) old new

-- the text of the line that is begun: a space after each word
abbrev pub spaced : Option (List ℕ) → List ℕ
spaced None = []
spaced (Some line) = line ++ 32 ∷ []

-- Some tokens came first and are printed, except for the line that is begun. The items stand for the state after them.
pub record IsPrinting (start : State) (items : Preprocessing) (line old new : Option (List ℕ)) : Type 0 where
  pub tokens : List Token
  pub state : State
  pub given : Gives start tokens state
  pub now : Stands items state
  pub done : List (List ℕ)
  pub lines : (more : List Token) → output_lines (tokens ++ more) ≡ done ++ lines_from line more
  pub written : Appends old new (written_lines done)

-- the same with this text of the line
pub record IsPrintingText (start : State) (items : Preprocessing) (text : List ℕ) (old new : Option (List ℕ)) : Type 0
  where
    pub line : Option (List ℕ)
    pub is : text ≡ spaced line
    pub printing : IsPrinting start items line old new
