-- Taking a token leaves the outermost macro open.
use Rattle.std.proofs.Common.{◌≡◌, ◌∙◌, ℕ, ap, refl, List, [], ◌∷◌, Option, Some, None, Ok, Err, IfSome, inl, inr}
use Rattle.std.specs.Prelude.{unwrap_or}
use Rattle.pp_lexer.specs.declared.token.Token.{Token}
use Rattle.pp_model.specs.SpliceList.{parameter_of}
use Rattle.pp_model.specs.declared.read.Read.{Read}
use Rattle.pp_macros.specs.Item.{PlacedStep}
use Rattle.pp_macros.specs.inner.Expander.{Expander, StepsFetching, StepsTaking, held, moved, taken_as}
use Rattle.pp_macros.specs.inner.Frames.{Frame, Advance, advance, body_token, outermost_frame_call}
use Rattle.pp_macros.specs.inner.Reader.{Reader}
use Rattle.pp_macros.specs.inner.Reading.{painted_step}
use Rattle.pp_macros.specs.inner.Turns.{Moves, frame_move, masks}

-- a step of a frame keeps where it was called
body_call : (f : Frame) (token : Token) (rest : List Token) (parameter : Option ℕ) → (body_token f token rest parameter).after.call ≡ f.call
body_call f token rest None = refl
body_call f token rest (Some k) = refl

frame_call : (f : Frame) (body : List Token) (reading : Option (List Read))
    → IfSome (advance (record f { body = body; reading = reading })) (λ a. a.after.call ≡ f.call)
frame_call f body (Some (read ∷ rest)) = refl
frame_call f body (Some []) = refl
frame_call f [] None = tt
frame_call f (token ∷ rest) None =
    body_call (record f { body = token ∷ rest; reading = None }) token rest (parameter_of f.parameters token.value)

step_call : (f : Frame) → IfSome (advance f) (λ a. a.after.call ≡ f.call)
step_call f = frame_call f f.body f.reading

-- a frame that gives a token stays open, and so does the outermost one
gives_call : (fs : List Frame) (f : Frame) (a : Option Advance) (read : Read) → IfSome a (λ b. b.after.call ≡ f.call) → Ok read ≡ (frame_move fs a).gives
    → outermost_frame_call (frame_move fs a).after ≡ outermost_frame_call (f ∷ fs)
gives_call fs f (Some a) read same gives = ap (λ call. Some (unwrap_or (outermost_frame_call fs) call)) same
gives_call fs f None read same gives = cc

move_call : (frames after : List Frame) (r s : Reader) (read : Read) → Moves frames r (Ok read) after s
    → outermost_frame_call after ≡ outermost_frame_call frames
move_call [] after r s read moves = ap outermost_frame_call moves.0
move_call (f ∷ fs) after r s read (same, inl (gives, is)) =
    ap outermost_frame_call is ∙ gives_call fs f (advance f) read (step_call f) gives
move_call (f ∷ fs) after r s read (same, inr refused) = cc

moved_call : (m n : Expander) (r s : Reader) (move : PlacedStep Read) (read : Read) → Moves m.frames r move n.frames s
    → Ok read ≡ painted_step (masks n.frames s) (taken_as move n.frames s) → outermost_frame_call n.frames ≡ outermost_frame_call m.frames
moved_call m n r s (Ok first) read moves is = move_call m.frames n.frames r s first moves
moved_call m n r s (Err exit) read moves is = cc

fetch_call : (m n : Expander) (r s : Reader) (first : PlacedStep Read) (read : Read) → StepsFetching m r first n s
    → Ok read ≡ painted_step (masks n.frames s) first → outermost_frame_call n.frames ≡ outermost_frame_call m.frames
fetch_call m n r s first read (held first1 m1 n1 r1 s1 is at same) paints = ap (λ (k : Expander). outermost_frame_call k.frames) at
fetch_call m n r s first read (moved move first1 m1 n1 r1 s1 free moves is freed) paints =
    moved_call m n r s move read moves (paints ∙ ap (painted_step (masks n.frames s)) is)

pub token_call : (m n : Expander) (r s : Reader) (read : Read) → StepsTaking m r (Ok read) n s
    → outermost_frame_call n.frames ≡ outermost_frame_call m.frames
token_call m n r s read steps = fetch_call m n r s steps.first read steps.fetches steps.paints
