-- One step of the frames, or of the reader after them; what a token becomes when it is taken, and which macro it opens
-- (docs/RULES.md, Expansion 1 to 4 and 10).
use Rattle.std.specs.Prelude.{◌≡◌, if◌then◌else◌, List, [], ◌∷◌, ◌++◌, Option, Some, None, Ok, Err, ◌⊎◌}
use Rattle.std.specs.Prelude.{unwrap_or}
use Rattle.pp_lexer.specs.declared.token.TokenValue.{TokenValue}
use Rattle.pp_lexer.specs.declared.token.TokenValue.TheVariants.{Ident}
use Rattle.pp_model.specs.Places.{place_of}
use Rattle.pp_model.specs.Names.{Name, is_identifier, line_name}
use Rattle.pp_model.specs.Definitions.{Definition}
use Rattle.pp_model.specs.Taking.{line_number}
use Rattle.pp_model.specs.declared.read.Taken.{Taken as Given}
use Rattle.pp_model.specs.declared.read.Taken.TheVariants as given
use Rattle.pp_model.specs.declared.read.Read.{Read}
use Rattle.pp_macros.specs.Item.{PlacedStep, no_memory}
use Rattle.pp_macros.specs.inner.Defined.{Macro, AreNumbered, names_in, numbered_by, opened_by}
use Rattle.pp_macros.specs.inner.Frames.{Frame, Advance, advance, names_of, outermost_frame_line}
use Rattle.pp_macros.specs.inner.Reader.{Reader, Reads, visible, hidden_of, shown_line, definitions_of}
use Rattle.pp_macros.specs.declared.step.PlacedExit.TheVariants.{Error, Continue}

abbrev pub as_pause : {T : Type 0} → Option T → PlacedStep T
as_pause (Some value) = Ok value
as_pause None = Err Continue

-- A step of the innermost frame. A frame at its end is closed, which frees its name; that step is a pause.
pub record FrameMove : Type 0 where
  pub gives : PlacedStep Read
  pub after : List Frame

abbrev pub frame_move : List Frame → Option Advance → FrameMove
frame_move fs (Some a) = record { gives = as_pause a.gives; after = a.after ∷ fs }
frame_move fs None = record { gives = Err Continue; after = fs }

-- one step of the frames, or of the reader if there are none; a step of the frames may run out of memory
abbrev pub Moves : List Frame → Reader → PlacedStep Read → List Frame → Reader → Type 0
Moves [] old step after new = (after ≡ []) × Reads old step new
Moves (f ∷ fs) old step after new = (new ≡ old)
    × ((step ≡ (frame_move fs (advance f)).gives) × (after ≡ (frame_move fs (advance f)).after)
    ⊎ (step ≡ Err (Error no_memory)))

-- a token that is taken: `__LINE__` becomes a number at once
abbrev pub taken_in : List Frame → Reader → Read → Given
taken_in frames reader read =
    if is_identifier line_name read.token.value
    then line_number (place_of read)
    (shown_line reader (unwrap_or (outermost_frame_line frames) read.token.location.line))
    else given.Token read

-- the names that are open here or around
abbrev pub masks : List Frame → Reader → List Name
masks frames reader = names_of frames ++ hidden_of reader

abbrev pub macro_of_value : Reader → TokenValue → Option (Name × Definition)
macro_of_value reader (Ident name) = opened_by name (visible reader name)
macro_of_value reader _ = None

-- the macro that a token opens, if its name is defined and it isn't painted
abbrev pub macro_of : Reader → Read → Option (Name × Definition)
macro_of reader read = if read.painted then None else macro_of_value reader read.token.value

-- the macro that a token opens, with its numbers, which are right there
pub record Opens (reader : Reader) (read : Read) (opened : Macro) : Type 0 where
  pub is : macro_of reader read ≡ Some (opened.name, opened.definition)
  pub numbered : AreNumbered (names_in (definitions_of reader)) (numbered_by opened)
