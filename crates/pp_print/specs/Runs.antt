-- What the end of a run says about the run's source and output
use Rattle.std.specs.Prelude.{◌≡◌, ◌≢◌, ℕ, ◌-◌, ◌^◌, ◌<◌, ◌≤◌, ◌⊎◌, List, ◌++◌, length, Option, Result, Ok, Err, IsOk}
use Rattle.std.specs.Prelude.{IsErr, IsUtf8, ⊤}
use Rattle.std.specs.Io.KnownBytes.{Appends, Consumes}
use Rattle.pp_rs.specs.declared.token.PreprocessorError.TheVariants.{OutOfMemory as WantOfMemory}
use Rattle.pp_rs.specs.declared.token.Token.{Token}
use Rattle.pp_rs.specs.Output.{output_lines, written_lines, output}
use Rattle.pp_print.specs.SourceRuns.{Definition, tokens_of}
use Rattle.pp_print.specs.declared.ends.RunEnd.{RunEnd}
use Rattle.pp_print.specs.declared.ends.RunEnd.TheVariants.{Done, Stopped}
use Rattle.pp_print.specs.declared.ends.RunFault.{RunFault}
use Rattle.pp_print.specs.declared.ends.RunFault.TheVariants.{ReadFailed, TooLong, NotUtf8, BadWord, WriteFailed}
use Rattle.pp_print.specs.declared.ends.RunFault.TheVariants.{OutOfMemory}

-- bytes that can be preprocessed
pub record IsSource (bytes : List ℕ) : Type 0 where
  pub short : length bytes < 2 ^ 32 - 1
  pub text : IsUtf8 bytes

-- a definition that can be added
pub record IsAccepted (definition : Definition) : Type 0 where
  pub short : length definition.1.now < 2 ^ 32 - 1
  pub tokens : IsOk (tokens_of definition)

-- a definition whose content is too long, or holds an error or a number sign
abbrev pub IsRefused : Definition → Type 0
IsRefused definition = (2 ^ 32 - 1 ≤ length definition.1.now) ⊎ IsErr (tokens_of definition)

-- A run that ends well, is stopped by an error, or fails at a definition or at writing has read bytes that can be
-- preprocessed. A run that refuses its input has the cause. A failed read and a lack of memory say nothing about the
-- bytes.
abbrev pub FitsSource : Result RunEnd RunFault → List ℕ → Type 0
FitsSource (Ok _) bytes = IsSource bytes
FitsSource (Err ReadFailed) bytes = ⊤
FitsSource (Err TooLong) bytes = 2 ^ 32 - 1 ≤ length bytes
FitsSource (Err NotUtf8) bytes = (length bytes < 2 ^ 32 - 1) × ¬ (IsUtf8 bytes)
FitsSource (Err BadWord) bytes = IsSource bytes
FitsSource (Err WriteFailed) bytes = IsSource bytes
FitsSource (Err OutOfMemory) bytes = ⊤

-- of the known bytes no more than a number were taken, from the front
pub record TakesAtMost (most : ℕ) (old new : Option (List ℕ)) : Type 0 where
  pub taken : List ℕ
  pub few : length taken ≤ most
  pub left : Consumes old new taken

-- the faults that come before anything is written
abbrev pub IsBeforeOutput : RunFault → Type 0
IsBeforeOutput ReadFailed = ⊤
IsBeforeOutput TooLong = ⊤
IsBeforeOutput NotUtf8 = ⊤
IsBeforeOutput BadWord = ⊤
IsBeforeOutput WriteFailed = ⊥
IsBeforeOutput OutOfMemory = ⊥

-- a run is stopped only by an error of the source, never because memory ran out
abbrev pub IsStoppedBySource : RunEnd → Type 0
IsStoppedBySource Done = ⊤
IsStoppedBySource (Stopped error location) = error ≢ WantOfMemory

-- tokens with this end are a run, and their output was written
pub record IsPrinted (IsRun : List Token → RunEnd → Type 0) (end : RunEnd) (old new : Option (List ℕ)) : Type 0 where
  pub tokens : List Token
  pub run : IsRun tokens end
  pub written : Appends old new (output tokens)

-- the output begins with these lines, no matter which tokens come after these
abbrev pub BeginOutput : List Token → List (List ℕ) → Type 0
BeginOutput tokens lines =
    (more : List Token)
    → (left : List (List ℕ)) × (output_lines (tokens ++ more) ≡ lines ++ left)

-- some tokens come first of the run; lines that begin its output were written, and nothing else
pub record IsBegun (AreFirst : List Token → Type 0) (old new : Option (List ℕ)) : Type 0 where
  pub tokens : List Token
  pub first : AreFirst tokens
  pub lines : List (List ℕ)
  pub begin : BeginOutput tokens lines
  pub written : Appends old new (written_lines lines)
