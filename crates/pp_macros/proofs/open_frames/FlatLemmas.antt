-- The splice list that frames stand for: the names that are open in it, where its outermost macro was called, and what one step of the frames does to it.
use Rattle.std.proofs.Common.{◌≡◌, ◌∙◌, ℕ, Bool, true, false, List, [], ◌∷◌, refl, sym, ap, Option, Some, None}
use Rattle.std.specs.Prelude.{Ok, Err, unwrap_or}
use Rattle.pp_lexer.specs.declared.token.Token.{Token}
use Rattle.pp_model.specs.declared.read.Read.{Read}
use Rattle.pp_model.specs.Painting.{read_in}
use Rattle.pp_model.specs.Names.{Name}
use Rattle.pp_model.specs.SpliceList.{after_marks, open_names, outermost_call, parameter_of, replacement, body_before}
use Rattle.pp_model.specs.inner.SpliceList.{followed_by}
use Rattle.pp_model.specs.declared.splice.Entry.{Entry}
use Rattle.pp_model.specs.declared.splice.Entry.TheVariants.{Plain, End}
use Rattle.pp_macros.specs.Item.{PlacedStep}
use Rattle.pp_macros.specs.inner.Frames.{Frame, body_token, advance, argument_at, arguments_left, reading_before, layer_before, flat, names_of, outermost_frame_call}
use Rattle.pp_macros.specs.inner.Bodies.{has_parameter}
use Rattle.pp_macros.specs.inner.Turns.{frame_move}
use Rattle.pp_macros.proofs.open_frames.RoleLemmas.{before_without}
use Rattle.pp_macros.specs.declared.step.PlacedExit.TheVariants.{Error, Continue, Finished}

-- a fact that tokens do not change sees through the tokens of a frame
module _ {X : Type 0} (fact : List Entry → X) (blind : (read : Read) (entries : List Entry) → fact (Plain read ∷ entries) ≡ fact entries) where
  blind_followed : (tokens : List Read) (entries : List Entry) → fact (followed_by tokens entries) ≡ fact entries
  blind_followed [] entries = refl
  blind_followed (read ∷ tokens) entries = blind read (followed_by tokens entries) ∙ blind_followed tokens entries

  blind_replacement : (arguments : List (List Read)) (text : ℕ) (token : Token) (k : Option ℕ) (entries : List Entry)
      → fact (replacement arguments text token k entries) ≡ fact entries
  blind_replacement arguments text token None entries = blind (read_in text token) entries
  blind_replacement arguments text token (Some k) entries = blind_followed (argument_at arguments k) entries

  blind_replaced : (parameters : List Name) (arguments : List (List Read)) (text : ℕ) (body : List Token) (entries : List Entry)
      → fact (body_before parameters arguments text body entries) ≡ fact entries
  blind_replaced parameters arguments text [] entries = refl
  blind_replaced parameters arguments text (token ∷ body) entries =
      blind_replacement arguments text token (parameter_of parameters token.value) (body_before parameters arguments text body entries)
      ∙ blind_replaced parameters arguments text body entries

  blind_reading : (reading : Option (List Read)) (entries : List Entry) → fact (reading_before reading entries) ≡ fact entries
  blind_reading None entries = refl
  blind_reading (Some tokens) entries = blind_followed tokens entries

  blind_layer : (f : Frame) (entries : List Entry) → fact (layer_before f entries) ≡ fact (End (record { name = f.name; call = f.call }) ∷ entries)
  blind_layer f entries =
      blind_reading f.reading (body_before f.parameters f.arguments f.text f.body (End (record { name = f.name; call = f.call }) ∷ entries))
      ∙ blind_replaced f.parameters f.arguments f.text f.body (End (record { name = f.name; call = f.call }) ∷ entries)

-- the names that are open in the list are those of the frames
pub open_flat : (frames : List Frame) → open_names (flat frames) ≡ names_of frames
open_flat [] = refl
open_flat (f ∷ fs) = blind_layer open_names (λ read entries. refl) f (flat fs) ∙ ap (λ names. f.name ∷ names) (open_flat fs)

-- the call of the list's last mark is that of the outermost frame
pub outermost_flat : (frames : List Frame) → outermost_call (flat frames) ≡ outermost_frame_call frames
outermost_flat [] = refl
outermost_flat (f ∷ fs) = blind_layer outermost_call (λ read entries. refl) f (flat fs) ∙ ap (λ call. Some (unwrap_or call f.call)) (outermost_flat fs)

-- One step on the list: its first token is given, or a mark at its front is lost at the most.
abbrev pub StepsList : PlacedStep Read → List Entry → List Entry → Type 0
StepsList (Ok read) old new = after_marks old ≡ Plain read ∷ new
StepsList (Err Continue) old new = after_marks old ≡ after_marks new
StepsList (Err Finished) old new = ⊥
StepsList (Err (Error fault)) old new = ⊥

body_steps : (f : Frame) (token : Token) (rest : List Token) (p : Option ℕ) (fs : List Frame) → let a =
    frame_move fs (Some (body_token (record f { reading = None }) token rest p)) in
    StepsList a.gives (replacement f.arguments f.text token p (body_before f.parameters f.arguments f.text rest
    (End (record { name = f.name; call = f.call }) ∷ flat fs))) (flat a.after)
body_steps f token rest None fs = refl
body_steps f token rest (Some k) fs = go (has_parameter f.parameters rest k) refl
  where
    end : List Entry
    end = End (record { name = f.name; call = f.call }) ∷ flat fs

    go : (again : Bool) → has_parameter f.parameters rest k ≡ again
        → after_marks (followed_by (argument_at f.arguments k) (body_before f.parameters f.arguments f.text rest end))
        ≡ after_marks (followed_by (argument_at f.arguments k) (body_before f.parameters (arguments_left f.arguments k again) f.text rest end))
    go true is = refl
    go false is =
        ap (λ (entries : List Entry). after_marks (followed_by (argument_at f.arguments k) entries))
        (sym (before_without f.parameters f.arguments f.text rest k end is))

layer_steps : (f : Frame) (body : List Token) (reading : Option (List Read)) (fs : List Frame)
    → let g : Frame = record f { body = body; reading = reading } in
    StepsList (frame_move fs (advance g)).gives (flat (g ∷ fs)) (flat (frame_move fs (advance g)).after)
layer_steps f body (Some (read ∷ tokens)) fs = refl
layer_steps f body (Some []) fs = refl
layer_steps f [] None fs = refl
layer_steps f (token ∷ rest) None fs =
    body_steps (record f { body = token ∷ rest; reading = None }) token rest (parameter_of f.parameters token.value) fs

-- each step of the frames is one of the list
pub frame_steps : (f : Frame) (fs : List Frame) → StepsList (frame_move fs (advance f)).gives (flat (f ∷ fs)) (flat (frame_move fs (advance f)).after)
frame_steps f fs = layer_steps f f.body f.reading fs
