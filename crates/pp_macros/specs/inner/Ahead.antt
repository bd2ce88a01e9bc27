-- What the innermost frame gives next, and the frames after its step.
use Rattle.std.specs.Prelude.{Bool, List, [], ◌∷◌, Option, Some, None}
use Rattle.std.specs.Option.{option_map}
use Rattle.pp_lexer.specs.declared.token.Token.{Token}
use Rattle.pp_model.specs.declared.read.Read.{Read}
use Rattle.pp_macros.specs.declared.frames.Ahead.{Ahead}
use Rattle.pp_macros.specs.inner.Frames.{Frame, Advance, advance}
use Rattle.pp_macros.specs.inner.Turns.{frame_move}

-- what is ahead, as it is read
abbrev pub read_of : Ahead → Read
read_of ahead = record { token = ahead.token.now; text = ahead.text; painted = ahead.painted }

-- what is given, if it is painted so when it is taken
abbrev pub painted_as : Bool → Option Read → Option Read
painted_as painted given = option_map (λ (read : Read). record read { painted = painted }) given

-- its token
abbrev pub token_given : Option Read → Option Token
token_given given = option_map (λ read. read.token) given

-- what a frame gives in its step: nothing if it pauses or is at its end
abbrev pub given_by : Option Advance → Option Read
given_by (Some a) = a.gives
given_by None = None

-- a frame after its step; a frame at its end doesn't change
abbrev pub frame_after : Frame → Option Advance → Frame
frame_after f (Some a) = a.after
frame_after f None = f

-- what the innermost frame gives next
abbrev pub given_next : List Frame → Option Read
given_next [] = None
given_next (f ∷ fs) = given_by (advance f)

-- the frames after a step of the innermost, which is closed if it is at its end
abbrev pub frames_after : List Frame → List Frame
frames_after [] = []
frames_after (f ∷ fs) = (frame_move fs (advance f)).after
