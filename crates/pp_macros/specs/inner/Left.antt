-- How much an expander with calls still has to do.
use Rattle.std.specs.Prelude.{ℕ, suc, ◌+◌, if◌then◌else◌, List, [], ◌∷◌, length, Option, Some, None, IsSome, ⊤}
use Rattle.pp_model.specs.declared.read.Read.{Read}
use Rattle.pp_model.specs.ApartMarks.{AreApart}
use Rattle.pp_model.specs.Names.{Name}
use Rattle.pp_macros.specs.inner.Defined.{Defined, Numbered, AreNumbered, meaning_of, names_in, body_tokens}
use Rattle.pp_macros.specs.Item.{PlacedStep}
use Rattle.pp_macros.specs.inner.Frames.{Frame, names_of}
use Rattle.pp_macros.specs.inner.Expander.{Expander}
use Rattle.pp_macros.specs.inner.Reader.{Reader, of_source, of_list, definitions_of}
use Rattle.pp_macros.specs.inner.Reach.{work_in, frame_steps, most_tokens}
use Rattle.pp_macros.specs.inner.Work.{most_reads, steps_left, is_end}

-- how many items and open blocks, or tokens, the reader has left: it gives no more, and defines no more names
abbrev pub reads_left : Reader → ℕ
reads_left (of_source source) = most_reads source
reads_left (of_list list) = length list.tokens

-- the most names that are open over each other: those that are defined, those that may still be, and one that was
-- defined when its call began
abbrev pub most_open : Reader → ℕ
most_open (of_source source) = length source.definitions + most_reads source + 1
most_open (of_list list) = length list.definitions + 1

-- the most tokens that all bodies have together, with those that are still to be defined
abbrev pub most_bodies : Reader → ℕ
most_bodies (of_source source) = body_tokens source.definitions + most_reads source
most_bodies (of_list list) = body_tokens list.definitions

-- the innermost region with one step more
abbrev pub one_more : List ℕ → List ℕ
one_more [] = 1 ∷ []
one_more (s ∷ regions) = suc s ∷ regions

-- what is held is one more step of the innermost region, unless it is the end
abbrev pub holding_step : Option (PlacedStep Read) → List ℕ → List ℕ
holding_step None regions = regions
holding_step (Some step) regions = if is_end step then regions else one_more regions

-- the steps that are left in each frame, the innermost first, and in the reader
abbrev pub regions_of : List Frame → ℕ → List ℕ
regions_of [] reads = reads ∷ []
regions_of (f ∷ fs) reads = steps_left f ∷ regions_of fs reads

abbrev pub regions : Expander → Reader → List ℕ
regions m r = holding_step m.held (regions_of m.frames (reads_left r))

-- how much is left, if arguments may be read inside each other `levels` levels deeper
abbrev pub work_of : ℕ → Expander → Reader → ℕ
work_of levels m r = work_in (frame_steps (most_bodies r) (most_open r) levels) (most_open r) (regions m r)

-- all names but the outermost are defined
abbrev pub AreDefinedAbove : List Defined → List Name → Type 0
AreDefinedAbove definitions [] = ⊤
AreDefinedAbove definitions (x ∷ []) = ⊤
AreDefinedAbove definitions (x ∷ y ∷ names) =
    IsSome (meaning_of definitions x) × AreDefinedAbove definitions (y ∷ names)

-- No two open names are the same. All are defined but perhaps the outermost, whose call may have gone on over lines of
-- the source that undefined it.
pub record AreOpenSoundly (definitions : List Defined) (names : List Name) : Type 0 where
  pub apart : AreApart names
  pub defined : AreDefinedAbove definitions names

-- the name of an open macro and those that are noted in its body, with their numbers
abbrev pub numbers_in : Frame → List Numbered
numbers_in f = record { name = f.name; number = f.number } ∷ f.noted

-- these numbers of open macros are right
abbrev pub HaveNumbers : List Name → List Frame → Type 0
HaveNumbers names [] = ⊤
HaveNumbers names (f ∷ fs) = AreNumbered names (numbers_in f) × HaveNumbers names fs

-- open macros are sound where these names are defined
pub record AreSound (definitions : List Defined) (frames : List Frame) : Type 0 where
  pub names : AreOpenSoundly definitions (names_of frames)
  pub numbers : HaveNumbers (names_in definitions) frames

abbrev pub IsSound : Expander → Reader → Type 0
IsSound m r = AreSound (definitions_of r) m.frames

-- the most tokens that `n` tokens give, expanded alone, if arguments may be read inside each other `levels` levels
-- deeper
abbrev pub most_alone : ℕ → List Defined → ℕ → ℕ
most_alone levels definitions n =
    most_tokens (frame_steps (body_tokens definitions) (length definitions + 1) levels) (length definitions + 1) n
