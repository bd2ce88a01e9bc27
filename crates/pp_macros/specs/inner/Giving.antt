-- Turns of the open macros that leave the reader as it is: pauses, macros without parentheses that open, and tokens
-- that are given.
use Rattle.std.specs.Prelude.{◌≡◌, Bool, true, false, List, [], ◌∷◌, ◌++◌, Option, Some, None, Ok, Err, IfSome}
use Rattle.std.specs.Prelude.{MatchOption, IsSome, is_some, ⊤}
use Rattle.pp_lexer.specs.declared.token.Token.{Token}
use Rattle.pp_model.specs.declared.read.Read.{Read}
use Rattle.pp_macros.specs.Held.{HoldsOrdinary}
use Rattle.pp_macros.specs.inner.Ahead.{painted_as, token_given, given_next, frames_after, read_of}
use Rattle.pp_macros.specs.inner.CallTurns.{TurnsTo, TakesSomething}
use Rattle.pp_macros.specs.inner.Defined.{Macro}
use Rattle.pp_macros.specs.inner.Expander.{Expander}
use Rattle.pp_macros.specs.inner.Frames.{new_frame, bare_call, outermost_frame_call}
use Rattle.pp_macros.specs.inner.Reader.{Reader}
use Rattle.pp_macros.specs.declared.calls.Taken.TheVariants as taken
use Rattle.pp_macros.specs.declared.calls.giving.Next.{Next}
use Rattle.pp_macros.specs.declared.calls.giving.Next.TheVariants as next
use Rattle.pp_macros.specs.declared.calls.giving.Turn.{Turn}
use Rattle.pp_macros.specs.declared.calls.giving.Turn.TheVariants as turn
use Rattle.pp_macros.specs.declared.step.PlacedExit.TheVariants.{Continue}

-- the expander after a step of the innermost frame
abbrev pub passed : Expander → Expander
passed m = record m { frames = frames_after m.frames }

-- the token that the innermost frame gives next
abbrev pub token_ahead : Expander → Option Token
token_ahead m = token_given (given_next m.frames)

-- what the innermost frame gives next, if it is painted so when it is taken
abbrev pub read_ahead : Bool → Expander → Option Read
read_ahead painted m = painted_as painted (given_next m.frames)

-- nothing is held, the innermost frame has this token next, and it is given as it is, painted or not
pub record GivesAhead (r : Reader) (m : Expander) (painted : Bool) (read : Read) : Type 0 where
  pub free : m.held ≡ None
  pub ahead : read_ahead painted m ≡ Some read
  pub turns : TurnsTo m r (Ok (taken.Token read)) (passed m) r
  pub holds : HoldsOrdinary read.token.value

-- such a token is next, and painted so when it is taken
abbrev pub SomeAhead : Reader → Expander → Bool → Type 0
SomeAhead r m painted = (read : Read) × GivesAhead r m painted read

-- one turn, if it is a pause; a token that is ahead isn't taken yet
abbrev pub TurnsFrames : Reader → Expander → Turn → Expander → Type 0
TurnsFrames r m turn.Passed n = TurnsTo m r (Err Continue) n r
TurnsFrames r m (turn.Token painted) n = (n ≡ m) × SomeAhead r m painted
TurnsFrames r m turn.Other n = n ≡ m

-- the name of a macro without parentheses is next, and the macro opens
pub record OpensAhead (r : Reader) (m : Expander) (opened : Macro) (name : Read) : Type 0 where
  pub some : IsSome (given_next m.frames)
  pub turns : TurnsTo m r (Err Continue) (record m {
    frames = new_frame opened (bare_call name.text name.token.location) [] ∷ frames_after m.frames;
  }) r
  pub takes : TakesSomething m r

-- what the next step of the innermost frame is
abbrev pub IsNext : Reader → Expander → Next → Type 0
IsNext r m next.Pause =
    (is_some (outermost_frame_call m.frames) ≡ true) × (given_next m.frames ≡ None)
    × TurnsTo m r (Err Continue) (passed m) r
IsNext r m (next.Opens opened ahead) = OpensAhead r m opened.now.value (read_of ahead)
IsNext r m (next.Token ahead) = GivesAhead r m ahead.painted (read_of ahead)
IsNext r m next.Other = ⊤

-- any number of pauses
pub data PausesEach (r : Reader) (m : Expander) : Expander → Type 0 where
  at_once : (n : Expander) → n ≡ m → PausesEach r m n
  after : (n p : Expander) → PausesEach r m n → TurnsTo n r (Err Continue) p r → PausesEach r m p

-- pauses, up to a token that is given as it is, if there is one
pub record AdvancesTo (r : Reader) (m : Expander) (found : Option Bool) (n : Expander) : Type 0 where
  pub pauses : PausesEach r m n
  pub gives : IfSome found (SomeAhead r n)

-- pauses, up to a turn with something to take, for which memory ran out
pub record RefusesWithin (r : Reader) (m : Expander) : Type 0 where
  pub between : Expander
  pub pauses : PausesEach r m between
  pub some : TakesSomething between r

-- pauses, and then the token that is given, if there is one
pub record IsGivenNext (r : Reader) (m : Expander) (read : Read) (n : Expander) : Type 0 where
  pub between : Expander
  pub painted : Bool
  pub pauses : PausesEach r m between
  pub gives : GivesAhead r between painted read
  pub passes : n ≡ passed between

abbrev pub GivesNext : Reader → Expander → Option Read → Expander → Type 0
GivesNext r m given n = MatchOption given (PausesEach r m n) (λ read. IsGivenNext r m read n)

-- one turn: a pause, or a token
pub data GivesOne (r : Reader) (m : Expander) (items : List Read) (n : Expander) (more : List Read) : Type 0 where
  pause : TurnsTo m r (Err Continue) n r → more ≡ items → GivesOne r m items n more
  token : (read : Read)
      → TurnsTo m r (Ok (taken.Token read)) n r
      → more ≡ items ++ read ∷ []
      → GivesOne r m items n more

-- any number of turns
pub data GivesEach (r : Reader) (m : Expander) (items : List Read) : Expander → List Read → Type 0 where
  none : (n : Expander) (more : List Read) → n ≡ m → more ≡ items → GivesEach r m items n more
  further : (n p : Expander) (some more : List Read)
      → GivesEach r m items n some
      → GivesOne r n some p more
      → GivesEach r m items p more

-- such a turn, if there is one
abbrev pub GivesIf : Bool → Reader → Expander → List Read → Expander → List Read → Type 0
GivesIf true r m items n more = GivesOne r m items n more
GivesIf false r m items n more = (n ≡ m) × (more ≡ items)
