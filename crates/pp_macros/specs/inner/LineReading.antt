-- What reading a part of a line gives, and how far the lexer is after it.
use Rattle.std.specs.Prelude.{◌≡◌, ◌≢◌, ◌⊎◌, ℕ, ◌≤◌, ◌<◌, Bool, true, false, if◌then◌else◌, not, List, [], ◌∷◌}
use Rattle.std.specs.Prelude.{length, take, drop, Option, Some, None, Result, Ok, Err, ⊤, IsTrue, IfOk, IfSome}
use Rattle.pp_lexer.specs.Lexed.{Seen}
use Rattle.pp_lexer.specs.Items.{Lexeme}
use Rattle.pp_lexer.specs.TokenValue.{is_ordinary}
use Rattle.pp_lexer.specs.declared.lexer.item.Token.{Token as LexerToken}
use Rattle.pp_lexer.specs.declared.token.Location.{Location}
use Rattle.pp_lexer.specs.declared.token.Token.{Token}
use Rattle.pp_model.specs.Places.{Fault}
use Rattle.pp_model.specs.Moves.{Effect, fails}
use Rattle.pp_model.specs.Moves as moves
use Rattle.pp_model.specs.Faults.{is_shown, shown_length}
use Rattle.pp_model.specs.Conversions.{is_newline, conversion}
use Rattle.pp_model.specs.inner.Emitting.{token_before}
use Rattle.pp_model.specs.Lines.{line_tokens, line_length, line_fault, comments_before_end, ended_line, ends_line}
use Rattle.pp_expression.specs.Answers.{◌>>=◌}
use Rattle.pp_macros.specs.inner.SourceLexed.{SourceLexed}
use Rattle.pp_macros.specs.declared.halt.Halt.{Halt}
use Rattle.pp_macros.specs.declared.halt.Halt.TheVariants as halt

-- A value or a fault is that of the definitions. If memory runs out, this says nothing.
abbrev pub Meets : {A B : Type 0} → (A → B) → Result A Halt → Result B Fault → Type 0
Meets shows (Ok value) wanted = wanted ≡ Ok (shows value)
Meets shows (Err (halt.Fault fault)) wanted = wanted ≡ Err fault
Meets shows (Err halt.OutOfMemory) wanted = ⊤

-- whether the line is over after these items, if `over` says whether it was before them
abbrev pub over_after : Bool → List Seen → Bool
over_after over [] = over
over_after over (s ∷ rest) = over_after (ends_line s.item) rest

-- some items were taken, and the last of them says whether the line is over
pub record IsFurther (over : Bool) (rest : List Seen) (new_over : Bool) (new_rest : List Seen) : Type 0 where
  pub taken : ℕ
  pub rest_is : new_rest ≡ drop taken rest
  pub over_is : new_over ≡ over_after over (take taken rest)

-- `taken` items were taken, and memory didn't run out
pub record HasTaken (taken : ℕ) (old new : SourceLexed) : Type 0 where
  pub rest : new.rest ≡ drop taken old.rest
  pub further : IsFurther old.over old.rest new.over new.rest
  pub spent : new.spent ≡ false

-- no more items are left than before, and memory didn't run out
pub record HasGoneOn (old new : SourceLexed) : Type 0 where
  pub rest : length new.rest ≤ length old.rest
  pub further : IsFurther old.over old.rest new.over new.rest
  pub spent : new.spent ≡ false

-- what a part of a line does, if it only has a fault or has none
abbrev pub effect_of : {A : Type 0} → Result A Fault → Effect
effect_of (Ok value) = moves.passes
effect_of (Err fault) = fails fault

-- how many of these items show the fault of a part, or else all
abbrev pub shown_by : {A : Type 0} → (List Seen → Result A Fault) → List Seen → ℕ
shown_by part items = shown_length (λ front. effect_of (part front)) items

-- the same of the line
abbrev pub shown_on : {A : Type 0} → (List Seen → Result A Fault) → List Seen → ℕ
shown_on part rest = shown_by part (take (line_length rest) rest)

-- a value takes `taken` items, and a fault `shown`
abbrev pub TakesItems : {A : Type 0} → ℕ → ℕ → SourceLexed → Result A Halt → SourceLexed → Type 0
TakesItems taken shown old (Ok value) new = HasTaken taken old new
TakesItems taken shown old (Err (halt.Fault fault)) new = HasTaken shown old new
TakesItems taken shown old (Err halt.OutOfMemory) new = ⊤

-- a fault isn't that of the end, unless nothing is left
abbrev pub IsShownOrLast : {A : Type 0} → Result A Halt → SourceLexed → Type 0
IsShownOrLast (Ok value) new = ⊤
IsShownOrLast (Err (halt.Fault fault)) new = (is_shown (fails fault) ≡ true) ⊎ (new.rest ≡ [])
IsShownOrLast (Err halt.OutOfMemory) new = ⊤

-- a fault takes at least one item
abbrev pub FaultTakesSome : {A : Type 0} → Result A Halt → SourceLexed → SourceLexed → Type 0
FaultTakesSome (Ok value) old new = ⊤
FaultTakesSome (Err (halt.Fault fault)) old new = length new.rest < length old.rest
FaultTakesSome (Err halt.OutOfMemory) old new = ⊤

-- memory runs out only if something is left
abbrev pub RefusedWithin : {A : Type 0} → Result A Halt → List Seen → Type 0
RefusedWithin (Ok value) rest = ⊤
RefusedWithin (Err (halt.Fault fault)) rest = ⊤
RefusedWithin (Err halt.OutOfMemory) rest = rest ≢ []

-- there is a token, and it doesn't end its line
abbrev pub IsWithinLine : Option LexerToken → Type 0
IsWithinLine None = ⊥
IsWithinLine (Some token) = is_newline token.value ≡ false

-- after a token that doesn't end its line, something is left
abbrev pub LeavesSome : Option LexerToken → List Seen → Type 0
LeavesSome token rest = IsWithinLine token → rest ≢ []

-- whether a comment is before the end of a line whose first token was read; if there is no such token, what was known
-- before
abbrev pub comments_after : Option Token → List Seen → Bool → Bool
comments_after None rest before = before
comments_after (Some token) rest before = comments_before_end rest

abbrev pub as_next : Lexeme → Result (Option LexerToken) Fault
as_next (Ok token) = Ok (Some token)
as_next (Err fault) = Err fault

-- the token that comes first, or nothing at the end
abbrev pub next_token : List Seen → Result (Option LexerToken) Fault
next_token [] = Ok None
next_token (s ∷ rest) = as_next s.item

abbrev pub some_token : Token → Result (Option Token) Fault
some_token token = Ok (Some token)

-- a token of a line, or nothing if the line ends
abbrev pub line_token : Option LexerToken → Result (Option Token) Fault
line_token None = Ok None
line_token (Some token) = if is_newline token.value then Ok None else (conversion token >>= some_token)

abbrev pub next_line_token : List Seen → Result (Option Token) Fault
next_line_token rest = next_token rest >>= line_token

-- the tokens of a line whose first one was read
abbrev pub tokens_after : Option Token → List Seen → Result (List Token) Fault
tokens_after None rest = Ok []
tokens_after (Some token) rest = token_before token (line_tokens rest)

abbrev pub length_after : Option Token → List Seen → ℕ
length_after None rest = 0
length_after (Some token) rest = line_length rest

-- how many items show a fault of a line whose first token was read
abbrev pub shown_after : Option Token → List Seen → ℕ
shown_after first rest = shown_by (tokens_after first) (take (length_after first rest) rest)

abbrev pub unless_fault : {A : Type 0} → Option Fault → Result A Fault → Result A Fault
unless_fault (Some fault) line = Err fault
unless_fault None line = line

abbrev pub goes_on_after : Lexeme → Result Bool Fault
goes_on_after item = item >>= λ token. Ok (not (is_newline token.value))

-- whether the line goes on after its first token
abbrev pub line_goes_on : List Seen → Result Bool Fault
line_goes_on [] = Ok false
line_goes_on (s ∷ rest) = goes_on_after s.item

-- the same where an error of the lexer is passed
abbrev pub item_goes_on : List Seen → Bool
item_goes_on [] = false
item_goes_on (s ∷ rest) = not (ends_line s.item)

-- a line that is skipped, except for the lexer's errors
abbrev pub skipped_line : List Seen → Result (Unit {0}) Fault
skipped_line rest = unless_fault (line_fault rest) (Ok tt)

-- the same by rules that pass the lexer's errors there, or don't
abbrev pub passed_line : Bool → List Seen → Result (Unit {0}) Fault
passed_line passes rest = if passes then Ok tt else skipped_line rest

-- the end of an `#endif` line: it is skipped if the surroundings of the block are dead
abbrev pub endif_end : Bool → Bool → Location → List Seen → Result (Unit {0}) Fault
endif_end live_around passes word rest = if live_around then ended_line word rest else passed_line passes rest

abbrev pub IsOrdinaryIfOk : Result (Option Token) Halt → Type 0
IsOrdinaryIfOk result = IfOk result (λ token. IfSome token (λ t. IsTrue (is_ordinary t.value)))
