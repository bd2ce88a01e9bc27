-- A part of a line is read.
use Rattle.std.specs.Prelude.{◌≡◌, ℕ, Bool, false, List, Option, Result, IsTrue, All, IfOk}
use Rattle.pp_lexer.specs.Lexed.{Seen}
use Rattle.pp_lexer.specs.TokenValue.{is_ordinary}
use Rattle.pp_lexer.specs.declared.token.Token.{Token}
use Rattle.pp_expression.specs.Answers.{◌>>=◌}
use Rattle.pp_model.specs.Places.{Fault}
use Rattle.pp_model.specs.DefineLines.{free_name}
use Rattle.pp_model.specs.Lines.{line_length, first_name}
use Rattle.pp_model.specs.declared.definition.Placed.{Placed}
use Rattle.pp_lexer.specs.declared.rules.Rules.{Rules}
use Rattle.pp_lexer.specs.declared.token.Location.{Location}
use Rattle.pp_macros.specs.inner.LineReading.{Meets, TakesItems, IsShownOrLast, shown_on, tokens_after, length_after}
use Rattle.pp_macros.specs.inner.LineReading.{shown_after, comments_after}
use Rattle.pp_macros.specs.inner.SourceLexed.{SourceLexed, unreported_at}
use Rattle.pp_macros.specs.inner.Unreported.{Reports}
use Rattle.pp_macros.specs.declared.halt.Halt.{Halt}

-- the name that comes next, unless the rules keep it
abbrev pub first_free_name : Rules → Location → List Seen → Result Placed Fault
first_free_name rules word rest = first_name word rest >>= free_name rules

-- A part of a line is read: the result is what is wanted of it, or its fault; a value takes `count` items, and a fault
-- `shown`; and an error of the lexer among them is reported, unless it is passed.
pub record ReadsPart (passes : Bool) {A B : Type 0} (shows : A → B) (wanted : Result B Fault) (count shown : ℕ)
    (old : SourceLexed) (result : Result A Halt) (new : SourceLexed) : Type 0 where
  pub is : Meets shows result wanted
  pub takes : TakesItems count shown old result new
  pub fault : IsShownOrLast result new
  pub errors : Reports passes result (unreported_at old) (unreported_at new)

-- the next item is read
abbrev pub ReadsNext : {A B : Type 0} → (A → B) → (List Seen → Result B Fault) → SourceLexed → Result A Halt
    → SourceLexed → Type 0
ReadsNext shows wanted old result new = ReadsPart false shows (wanted old.rest) 1 1 old result new

-- the rest of the line is read
abbrev pub ReadsLine : {A B : Type 0} → (A → B) → (List Seen → Result B Fault) → SourceLexed → Result A Halt
    → SourceLexed → Type 0
ReadsLine shows wanted old result new =
    ReadsPart false shows (wanted old.rest) (line_length old.rest) (shown_on wanted old.rest) old result new

-- the rest of the line is read, or passed with its errors
abbrev pub ReadsBy : Bool → (List Seen → Result (Unit {0}) Fault) → SourceLexed → Result (Unit {0}) Halt
    → SourceLexed → Type 0
ReadsBy passes wanted old result new =
    ReadsPart passes (λ t. t) (wanted old.rest) (line_length old.rest) (shown_on wanted old.rest) old result new

abbrev pub AreOrdinary : List Token → Type 0
AreOrdinary tokens = All (λ t. IsTrue (is_ordinary t.value)) tokens

-- the tokens of a line are read from its first one on, which was read before, or none if the line was empty
pub record ReadsTokens {A : Type 0} (shows : A → List Token) (first : Option Token) (old : SourceLexed)
    (result : Result A Halt) (new : SourceLexed) : Type 0 where
  pub reads : ReadsPart false shows (tokens_after first old.rest) (length_after first old.rest)
      (shown_after first old.rest) old result new
  pub comments : IfOk result (λ _. new.had_comments ≡ comments_after first old.rest old.had_comments)
  pub ordinary : IfOk result (λ value. AreOrdinary (shows value))
