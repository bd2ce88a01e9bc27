-- A turn of the innermost frame, as the code makes it.
use Rattle.std.proofs.Common.{◌≡◌, ◌∙◌, refl, sym, ap, subst, Bool, true, false, List, [], ◌∷◌, ◌++◌, Option, Some, None, Ok, Err, inl, inr}
use Rattle.std.specs.Prelude.{IfSome, is_some, ◌⊎◌, if◌then◌else◌}
use Rattle.std.proofs.Math.Bool.{or-false}
use Rattle.std.proofs.lemmas.Bool.{or_left, or_right}
use Rattle.pp_model.specs.declared.read.Read.{Read}
use Rattle.pp_model.specs.Names.{Name, is_identifier, line_name}
use Rattle.pp_macros.specs.Item.{PlacedStep}
use Rattle.pp_macros.specs.inner.Ahead.{painted_as, given_by, given_next, frames_after}
use Rattle.pp_macros.specs.inner.CallTurns.{TurnsTo, passes, gives, object}
use Rattle.pp_macros.specs.inner.Frames.{Frame, Advance, advance, new_frame, outermost_frame_call, bare_call}
use Rattle.pp_macros.specs.inner.Expander.{Expander, StepsFetching, StepsTaking, moved, taken_as}
use Rattle.pp_macros.specs.inner.Reader.{Reader, definitions_of, hidden_of}
use Rattle.pp_macros.specs.inner.Turns.{Moves, as_pause, frame_move, masks, macro_of, macro_of_value}
use Rattle.pp_macros.specs.inner.Reading.{painted_step}
use Rattle.pp_model.specs.Painting.{is_one_of, painted_among}
use Rattle.pp_macros.specs.declared.calls.Taken.TheVariants as taken
use Rattle.pp_macros.specs.declared.step.PlacedExit.TheVariants.{Continue}
use Rattle.pp_macros.specs.Held.{HoldsOrdinary}
use Rattle.pp_macros.specs.inner.Defined.{Macro, AreNumbered, names_in, numbered_by}
use Rattle.pp_macros.specs.inner.Nesting.{MacroProcessor, MayWait, open_names, seen_by}
use Rattle.pp_macros.specs.inner.Frames.{names_of}
use Rattle.pp_macros.specs.inner.Giving.{GivesAhead, OpensAhead, passed}
use Rattle.pp_macros.proofs.open_frames.AdvanceLemmas.{Advances, advance_lowers}
use Rattle.pp_macros.proofs.taking.NestingLemmas.{macro_seen, masks_seen, opens_seen}

gives_alike : (fs : List Frame) (a : Option Advance) → as_pause (given_by a) ≡ (frame_move fs a).gives
gives_alike fs (Some a) = refl
gives_alike fs None = refl

-- the innermost frame steps
pub frames_move : (frames : List Frame) (r : Reader) → is_some (outermost_frame_call frames) ≡ true
    → Moves frames r (as_pause (given_next frames)) (frames_after frames) r
frames_move [] r some = cc
frames_move (f ∷ fs) r some = (refl, inl (gives_alike fs (advance f), refl))

-- a frame that gives a token stays open
given_names : (fs : List Frame) (f : Frame) (a : Option Advance) (read : Read) → IfSome a (Advances f) → given_by a ≡ Some read
    → names_of (frame_move fs a).after ≡ names_of (f ∷ fs)
given_names fs f (Some a) read lowers is = rw lowers.name refl
given_names fs f None read lowers is = cc

names_stay : (frames : List Frame) (read : Read) → given_next frames ≡ Some read → names_of (frames_after frames) ≡ names_of frames
names_stay [] read is = cc
names_stay (f ∷ fs) read is = given_names fs f (advance f) read (advance_lowers f) is

-- the paint with which a token is taken, whose name isn't open
pub paint_kept : (names : List Name) (read : Read) → is_one_of names read.token.value ≡ false → read.painted ≡ (painted_among names read).painted
paint_kept names read none = rw none (sym (or-false read.painted))

-- the paint of a token that is painted already, or whose name is open
pub paint_added : (names : List Name) (read : Read) → (read.painted ≡ true) ⊎ (is_one_of names read.token.value ≡ true)
    → true ≡ (painted_among names read).painted
paint_added names read (inl own) = sym (or_left read.painted (is_one_of names read.token.value) own)
paint_added names read (inr there) = sym (or_right read.painted (is_one_of names read.token.value) there)

-- a token opens no macro, painted or not, if its value opens none
pub opens_nothing : (r : Reader) (read : Read) → None ≡ macro_of_value r read.token.value → macro_of r read ≡ None
opens_nothing r read none = by read.painted
  where
    by : (painted : Bool) → (if painted then None else macro_of_value r read.token.value) ≡ None
    by true = refl
    by false = sym none

-- nothing is held, and a macro is open
module _ (p : MacroProcessor) (s : Reader) (waits : MayWait p.below s) (free : p.here.held ≡ None)
    (some : is_some (outermost_frame_call p.here.frames) ≡ true) where
  abbrev m : Expander
  m = p.here

  abbrev r : Reader
  r = seen_by p.below s

  frame_fetches : (given : Option Read) (step : PlacedStep Read) → given ≡ given_next m.frames → step ≡ taken_as (as_pause given) (frames_after m.frames) r
      → StepsFetching m r step (passed m) r
  frame_fetches given step is same =
      moved (as_pause given) step m (passed m) r r free
      (subst (λ (o : Option Read). Moves m.frames r (as_pause o) (frames_after m.frames) r) (sym is) (frames_move m.frames r some)) same free

  pub frame_takes : (given : Option Read) (step : PlacedStep Read) → given ≡ given_next m.frames → step ≡ taken_as (as_pause given) (frames_after m.frames) r
      → StepsTaking m r (painted_step (masks (frames_after m.frames) r) step) (passed m) r
  frame_takes given step is same = record { first = step; fetches = frame_fetches given step is same; paints = refl }

  -- its token comes first, as it is made
  pub frame_makes : (read made : Read) → Some read ≡ given_next m.frames → is_identifier line_name read.token.value ≡ false
      → painted_as read.painted (given_next m.frames) ≡ Some made → StepsFetching m r (Ok made) (passed m) r
  frame_makes read made is apart makes =
      let same : made ≡ read = some_same (sym makes ∙ ap (painted_as read.painted) (sym is)) in
      rw same (frame_fetches (Some read) (Ok read) is (rw apart refl))
    where
      some_same : Some made ≡ Some read → made ≡ read
      some_same e = cc

  -- it pauses
  pub frame_pauses : None ≡ given_next m.frames → TurnsTo m r (Err Continue) (passed m) r
  frame_pauses is = passes Continue (Err Continue) m (passed m) r r (frame_takes None (Err Continue) is refl) refl

  module _ (read : Read) (is : Some read ≡ given_next m.frames) (apart : is_identifier line_name read.token.value ≡ false)
      (paint : Bool) (same : paint ≡ (painted_among (open_names p) read).painted) where
    abbrev taken_read : Read
    taken_read = record read { painted = paint }

    -- its token is taken, with this paint
    token_taken : StepsTaking m r (Ok taken_read) (passed m) r
    token_taken =
        let names : masks (frames_after m.frames) r ≡ open_names p =
        ap (λ (names : List Name). names ++ hidden_of r) (names_stay m.frames read (sym is)) ∙ masks_seen p s waits in
        let whole : painted_among (masks (frames_after m.frames) r) read ≡ taken_read = rw (names, same) refl in
        rw whole at (frame_takes (Some read) (Ok read) is (rw apart refl))

    -- it is given, and opens no macro
    pub frame_gives : HoldsOrdinary read.token.value → macro_of s taken_read ≡ None → GivesAhead r m paint taken_read
    frame_gives holds plain = record {
      free = free;
      ahead = ap (painted_as paint) (sym is);
      turns = gives taken_read (Ok (taken.Token taken_read)) m (passed m) r r token_taken (macro_seen p.below s taken_read ∙ plain) refl;
      holds = holds;
    }

    -- it opens a macro without parentheses
    pub frame_opens : (opened : Macro) → macro_of s taken_read ≡ Some (opened.name, opened.definition)
        → AreNumbered (names_in (definitions_of s)) (numbered_by opened) → opened.definition.function_like ≡ false
        → OpensAhead r m opened read
    frame_opens opened opens numbered bare = record {
      some = rw (← is) refl;
      turns = object taken_read opened (Err Continue) m (passed m)
          (record m { frames = new_frame opened (bare_call read.text read.token.location) [] ∷ frames_after m.frames }) r r token_taken
          (opens_seen p.below s taken_read opened opens numbered) bare refl refl;
      takes = record { step = Ok taken_read; after = passed m; reader = r; takes = token_taken; goes = refl };
    }
