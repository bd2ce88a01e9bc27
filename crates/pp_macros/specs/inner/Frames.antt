-- Frames: macros that are open, each with what is left of its body and its arguments (docs/RULES.md, Expansion 4 and
-- 9).
use Rattle.std.specs.Prelude.{◌≡◌, ◌==◌, ℕ, Bool, true, false, List, [], ◌∷◌, map, set, Option, Some, None, unwrap_or}
use Rattle.std.specs.Prelude.{slice_get, slice_index_or, suc, if◌then◌else◌, option_map}
use Rattle.pp_lexer.specs.declared.token.Token.{Token}
use Rattle.pp_model.specs.declared.read.Read.{Read}
use Rattle.pp_model.specs.Painting.{read_in}
use Rattle.pp_model.specs.Names.{Name}
use Rattle.pp_model.specs.SpliceList.{body_before, parameter_of}
use Rattle.pp_model.specs.inner.SpliceList.{followed_by}
use Rattle.pp_macros.specs.inner.Bodies.{has_parameter}
use Rattle.pp_macros.specs.inner.Defined.{Macro, Numbered}
use Rattle.pp_model.specs.declared.splice.CallPlace.{CallPlace}
use Rattle.pp_model.specs.declared.splice.Entry.{Entry}
use Rattle.pp_model.specs.declared.splice.Entry.TheVariants.{End}
use Rattle.pp_lexer.specs.declared.token.Location.{Location}

-- A frame: the macro's name, its number and those that are noted in its body, where it was called, its
-- parameters, what is left of its body, the text of that, its arguments, and what is left of the argument that is being
-- read.
pub record Frame : Type 0 where
  pub name : Name
  pub number : ℕ
  pub noted : List Numbered
  pub call : CallPlace
  pub parameters : List Name
  pub body : List Token
  pub text : ℕ
  pub arguments : List (List Read)
  pub reading : Option (List Read)

-- how many of the frames have this number
abbrev pub count_of : ℕ → List Frame → ℕ
count_of k [] = 0
count_of k (f ∷ fs) = if f.number == k then suc (count_of k fs) else count_of k fs

-- at each number is how many of the frames have it; past the end of the counts none has
abbrev pub AreCounted : List ℕ → List Frame → Type 0
AreCounted counts frames = (k : ℕ) → slice_index_or counts k 0 ≡ count_of k frames

-- where a macro without parentheses is called whose name is at this place of this text
abbrev pub bare_call : ℕ → Location → CallPlace
bare_call text name = record { name = name; text = text; line = name.line }

-- the frame of a macro as it opens
abbrev pub new_frame : Macro → CallPlace → List (List Read) → Frame
new_frame opened call arguments = record {
  name = opened.name;
  number = opened.number;
  noted = opened.noted;
  call = call;
  parameters = opened.definition.parameters;
  body = opened.definition.body;
  text = opened.definition.text;
  arguments = arguments;
  reading = None;
}

-- what a frame gives, or nothing if it pauses, and the frame after it
pub record Advance : Type 0 where
  pub gives : Option Read
  pub after : Frame

abbrev pub argument_at : List (List Read) → ℕ → List Read
argument_at arguments k = unwrap_or (slice_get arguments k) []

-- the arguments that are left: if the rest of the body hasn't the parameter again, its argument is needed no more, and
-- is empty then
abbrev pub arguments_left : List (List Read) → ℕ → Bool → List (List Read)
arguments_left arguments k true = arguments
arguments_left arguments k false = set arguments k []

-- a parameter in the body starts its argument, which is a pause; any other token is given
abbrev pub body_token : Frame → Token → List Token → Option ℕ → Advance
body_token f token rest None = record { gives = Some (read_in f.text token); after = record f { body = rest } }
body_token f token rest (Some k) = record {
  gives = None;
  after = record f {
    body = rest;
    arguments = arguments_left f.arguments k (has_parameter f.parameters rest k);
    reading = Some (argument_at f.arguments k);
  };
}

-- one step of the body, or nothing at its end
abbrev pub advance_body : Frame → List Token → Option Advance
advance_body f [] = None
advance_body f (token ∷ rest) = Some (body_token f token rest (parameter_of f.parameters token.value))

-- the next token of the argument that is being read is given; its end is a pause
abbrev pub advance_reading : Frame → Option (List Read) → Option Advance
advance_reading f (Some (read ∷ rest)) = Some (record { gives = Some read; after = record f { reading = Some rest } })
advance_reading f (Some []) = Some (record { gives = None; after = record f { reading = None } })
advance_reading f None = advance_body f f.body

-- one step of a frame, or nothing if it is at its end
abbrev pub advance : Frame → Option Advance
advance f = advance_reading f f.reading

abbrev pub reading_before : Option (List Read) → List Entry → List Entry
reading_before None entries = entries
reading_before (Some tokens) entries = followed_by tokens entries

-- what a frame stands for: the rest of its argument, the rest of its body, and its end mark
abbrev pub layer_before : Frame → List Entry → List Entry
layer_before f entries =
    reading_before f.reading
    (body_before f.parameters f.arguments f.text f.body (End (record { name = f.name; call = f.call }) ∷ entries))

-- the splice list that the frames stand for, the innermost frame first
abbrev pub flat : List Frame → List Entry
flat [] = []
flat (f ∷ fs) = layer_before f (flat fs)

-- the names of the frames: these macros are open
abbrev pub names_of : List Frame → List Name
names_of frames = map (λ f. f.name) frames

-- where the macro of the outermost frame, which is the last, was called
abbrev pub outermost_frame_call : List Frame → Option CallPlace
outermost_frame_call [] = None
outermost_frame_call (f ∷ fs) = Some (unwrap_or (outermost_frame_call fs) f.call)

-- the line that `__LINE__` shows within it
abbrev pub outermost_frame_line : List Frame → Option ℕ
outermost_frame_line frames = option_map (λ call. call.line) (outermost_frame_call frames)
