-- What is done with a call once its tokens are gathered: its arguments are expanded, and its frame opens; and how the
-- next call of a list is come to (docs/RULES.md, Expansion 7 to 9).
use Rattle.std.specs.Prelude.{◌≡◌, ◌≤◌, ◌-◌, ℕ, false, List, [], ◌∷◌, ◌++◌, All, length, Option, Some, None}
use Rattle.std.specs.Prelude.{Result, Ok, Err, IfOk, ⊤}
use Rattle.pp_model.specs.Places.{PlacedFault}
use Rattle.pp_model.specs.declared.numbering.Numbering.{Numbering}
use Rattle.pp_model.specs.declared.read.Read.{Read}
use Rattle.pp_model.specs.Calls.{Site, arguments_of}
use Rattle.pp_model.specs.Emitting.{Alone, Each, answers_at}
use Rattle.pp_model.specs.Names.{Name}
use Rattle.pp_macros.specs.Item.{PlacedStep, is_out_of_memory}
use Rattle.pp_macros.specs.inner.Calling.{MacroCall}
use Rattle.pp_macros.specs.inner.CallTurns.{TurnsTo}
use Rattle.pp_macros.specs.inner.Defined.{Defined, meaning_of}
use Rattle.pp_macros.specs.inner.Frames.{new_frame, names_of}
use Rattle.pp_macros.specs.inner.Giving.{GivesEach}
use Rattle.pp_macros.specs.inner.Left.{most_alone}
use Rattle.pp_macros.specs.inner.Expander.{Expander}
use Rattle.pp_macros.specs.inner.Parts.{addition}
use Rattle.pp_macros.specs.inner.Reader.{Listing, of_list}
use Rattle.pp_macros.specs.inner.Reading.{AllReadOrdinary}
use Rattle.pp_macros.specs.declared.calls.Taken.{Taken}
use Rattle.pp_macros.specs.declared.calls.Taken.TheVariants as taken
use Rattle.pp_macros.specs.declared.halt.PlacedHalt.{PlacedHalt}
use Rattle.pp_macros.specs.declared.halt.PlacedHalt.TheVariants as halt
use Rattle.pp_macros.specs.declared.step.PlacedExit.TheVariants.{Error, Continue, Finished}

-- the site of the call: the place of its `(`, its arguments, how their lines are numbered, the definitions, and the
-- names that are open around
abbrev pub site_at : MacroCall → Numbering → List Defined → List Name → Site
site_at call numbering definitions around =
    record {
      paren = call.paren;
      arguments = arguments_of call.tokens;
      numbering = numbering;
      visible = meaning_of definitions;
      open_around = around;
    }

-- no expanded argument of the call is longer than the bound
abbrev pub AreOfCall : ℕ → List Defined → MacroCall → List (List Read) → Type 0
AreOfCall levels definitions call arguments =
    All (λ argument. length argument ≤ most_alone (levels - 1) definitions (length call.tokens)) arguments

-- the frame of the call is open, with its expanded arguments, none of them longer than the bound
pub record IsOpened (levels : ℕ) (numbering : Numbering) (definitions : List Defined) (around : List Name)
    (call : MacroCall) (old new : Expander) : Type 0 where
  pub arguments : List (List Read)
  pub answers : answers_at levels call.opened.definition (site_at call numbering definitions around) (Ok arguments)
  pub least : AreOfCall levels definitions call arguments
  pub opens : new ≡ record old { frames = new_frame call.opened call.call arguments ∷ old.frames }

-- The frame opens, or the call has this fault and nothing changes. If memory runs out, this says nothing.
abbrev pub Finishes : ℕ → Numbering → List Defined → List Name → MacroCall → Expander
    → Result (Unit {0}) PlacedHalt → Expander → Type 0
Finishes levels numbering definitions hidden call old (Ok done) new =
    IsOpened levels numbering definitions (names_of old.frames ++ hidden) call old new
Finishes levels numbering definitions hidden call old (Err (halt.Fault fault)) new =
    answers_at levels call.opened.definition (site_at call numbering definitions (names_of old.frames ++ hidden))
    (Err fault)
    × (new ≡ old)
Finishes levels numbering definitions hidden call old (Err halt.OutOfMemory) new = ⊤

-- each expanded argument is within the bound for n tokens, if no argument has more than n tokens
abbrev pub AreShort : ℕ → List Defined → List (List Read) → List (List Read) → Type 0
AreShort levels definitions arguments outs = (n : ℕ) → All (λ argument. length argument ≤ n) arguments
    → All (λ out. length out ≤ most_alone levels definitions n) outs

-- nothing is open or held, and the list is an argument that is numbered so, with these definitions and these names
-- hidden
pub record IsAtStart (numbering : Numbering) (definitions : List Defined) (hidden : List Name) (m : Expander)
    (l : Listing) : Type 0 where
  pub idle : m ≡ record { held = None; frames = [] }
  pub argument : l ≡ record {
    tokens = l.tokens;
    numbering = numbering;
    definitions = definitions;
    hidden = hidden;
    is_line = false;
  }

-- the tokens are expanded alone, and what they come to is put after the items
pub record IsExpandedOnto (levels : ℕ) (numbering : Numbering) (definitions : List Defined) (hidden : List Name)
    (tokens old new : List Read) : Type 0 where
  pub keeps : new ≡ old ++ addition old new
  pub alone : Alone levels tokens numbering (meaning_of definitions) hidden (Ok (addition old new))
  pub least : length (addition old new) ≤ most_alone levels definitions (length tokens)
  pub holds : AllReadOrdinary new

-- they are, or they have this fault
abbrev pub ExpandsOnto : ℕ → Numbering → List Defined → List Name → List Read → List Read → List Read
    → Result (Unit {0}) PlacedFault → Type 0
ExpandsOnto levels numbering definitions hidden tokens old new (Ok done) =
    IsExpandedOnto levels numbering definitions hidden tokens old new
ExpandsOnto levels numbering definitions hidden tokens old new (Err fault) =
    Alone levels tokens numbering (meaning_of definitions) hidden (Err fault)

-- each of the arguments is expanded alone, and comes to no more than the bound, or this is the first fault
pub record ExpandsEach (levels : ℕ) (numbering : Numbering) (definitions : List Defined) (hidden : List Name)
    (arguments : List (List Read)) (out : Result (List (List Read)) PlacedFault) : Type 0 where
  pub each : Each (Alone levels) numbering (meaning_of definitions) hidden arguments out
  pub least : IfOk out (AreShort levels definitions arguments)

-- one turn over a list: a token, which is put after the items, or a pause
pub data TurnsOnce (m : Expander) (l : Listing) (items : List Read) (n : Expander) (k : Listing) (more : List Read)
    : Type 0 where
  puts : (read : Read)
      → TurnsTo m (of_list l) (Ok (taken.Token read)) n (of_list k)
      → more ≡ items ++ read ∷ []
      → TurnsOnce m l items n k more
  waits : TurnsTo m (of_list l) (Err Continue) n (of_list k) → more ≡ items → TurnsOnce m l items n k more

-- any number of such turns; before each the open macros give what they have
pub data TurnsOver (m : Expander) (l : Listing) (items : List Read)
    : Expander → Listing → List Read → Type 0 where
  unturned : (n : Expander) (k : Listing) (more : List Read)
      → n ≡ m → k ≡ l → more ≡ items
      → TurnsOver m l items n k more
  onward : (n last p : Expander) (k j : Listing) (some given more : List Read)
      → TurnsOver m l items n k some
      → GivesEach (of_list k) n some last given
      → TurnsOnce last k given p j more
      → TurnsOver m l items p j more

-- such turns, then what the open macros give, and then a turn with this step
pub record ComesTo (m : Expander) (l : Listing) (items : List Read) (step : PlacedStep Taken)
    (n : Expander) (k : Listing) (more : List Read) : Type 0 where
  pub between : Expander
  pub list : Listing
  pub some : List Read
  pub over : TurnsOver m l items between list some
  pub last : Expander
  pub gives : GivesEach (of_list list) between some last more
  pub turns : TurnsTo last (of_list list) step n (of_list k)

-- The next call of a list is come to, or the list ends, or it has this fault. If memory runs out, this says nothing.
abbrev pub ComesToCall : Expander → Listing → List Read → Result (Option MacroCall) PlacedHalt
    → Expander → Listing → List Read → Type 0
ComesToCall m l items (Ok (Some call)) n k more = ComesTo m l items (Ok (taken.Call call)) n k more
ComesToCall m l items (Ok None) n k more = ComesTo m l items (Err Finished) n k more
ComesToCall m l items (Err (halt.Fault fault)) n k more =
    ComesTo m l items (Err (Error fault)) n k more × (is_out_of_memory fault.0 ≡ false)
ComesToCall m l items (Err halt.OutOfMemory) n k more = ⊤
