-- Expanders inside each other: that of an argument, over its tokens, and those that wait for the argument
-- (docs/RULES.md, Expansion 8).
use Rattle.std.specs.Prelude.{◌≡◌, List, [], ◌++◌, None, ⊤}
use Rattle.pp_model.specs.Names.{Name}
use Rattle.pp_macros.specs.inner.Expander.{Expander}
use Rattle.pp_macros.specs.inner.Frames.{Frame, names_of}
use Rattle.pp_macros.specs.inner.Giving.{passed}
use Rattle.pp_macros.specs.inner.Left.{HaveNumbers}
use Rattle.pp_macros.specs.inner.Reader.{Reader, Listing, of_source, of_list}

-- the innermost expander, and the frames of those that wait for it, the innermost frame first
pub record MacroProcessor : Type 0 where
  pub here : Expander
  pub below : List Frame

-- an expander in which nothing is open or held
abbrev pub nothing_open : Expander
nothing_open = record { held = None; frames = [] }

-- the names of all frames
abbrev pub open_names : MacroProcessor → List Name
open_names m = names_of m.here.frames ++ names_of m.below

-- the numbers of all frames are right among these names
pub record AreKnown (names : List Name) (m : MacroProcessor) : Type 0 where
  pub here : HaveNumbers names m.here.frames
  pub around : HaveNumbers names m.below

-- the processor with other frames of the innermost expander
abbrev pub with_frames : MacroProcessor → List Frame → MacroProcessor
with_frames m frames = record m { here = record m.here { frames = frames } }

-- the processor after a step of the innermost frame
abbrev pub stepped : MacroProcessor → MacroProcessor
stepped m = record m { here = passed m.here }

-- the list with the names of these frames open around it
abbrev pub listed_in : List Frame → Listing → Listing
listed_in below list = record list { hidden = names_of below }

-- the reader as the innermost expander has it, with these frames around it; around a source there are none
abbrev pub seen_by : List Frame → Reader → Reader
seen_by below (of_source source) = of_source source
seen_by below (of_list list) = of_list (listed_in below list)

-- these frames may be around an expander over this reader: around a source there are none
abbrev pub MayWait : List Frame → Reader → Type 0
MayWait below (of_source source) = below ≡ []
MayWait below (of_list list) = ⊤
