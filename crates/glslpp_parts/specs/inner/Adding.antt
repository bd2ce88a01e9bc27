-- What is added to a text, and to a command.
use Rattle.std.specs.Prelude.{◌≡◌, ℕ, List, ◌++◌, false}
use Rattle.clap.specs.Words.{rule_of}
use Rattle.clap.specs.declared.builder.arg.Arg.{Arg}
use Rattle.glslpp_parts.specs.LineNames.{IsBlanked}
use Rattle.glslpp_parts.specs.Options.{Known, known_of}
use Rattle.glslpp_parts.specs.Reports.{IsPlace}

-- with some text at the end; what was there stays
pub record IsLonger (old new : List ℕ) : Type 0 where
  pub more : List ℕ
  pub text : new ≡ old ++ more

-- with this line at the end, or with blanks in place of some of its bytes
pub record IsBlankedOnto (line old new : List ℕ) : Type 0 where
  pub more : List ℕ
  pub is : IsBlanked line more
  pub text : new ≡ old ++ more

-- with the name of a place at the end
pub record IsPlaced (file old new : List ℕ) : Type 0 where
  pub place : List ℕ
  pub is : IsPlace file place
  pub text : new ≡ old ++ place

-- an argument that is this option, of the command alone
pub record IsOption (arg : Arg) (known : Known) : Type 0 where
  pub says : known_of (rule_of arg) ≡ known
  pub own : arg.global ≡ false
