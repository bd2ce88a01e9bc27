-- The state of a run that a preprocessor stands for. The preprocessor keeps less than the state: neither what was read,
-- nor the list into which its frames are spliced.
use Rattle.std.specs.Prelude.{◌≡◌, ◌≢◌, ◌≤◌, ◌<◌, ◌-◌, ◌==◌, ℕ, true, false, ◌||◌, List, [], ◌∷◌, ◌++◌, length}
use Rattle.std.specs.Prelude.{take, drop, Some, Err, option_map, ⊤}
use Rattle.std.specs.List.{AllByRecursion as Each, list_any}
use Rattle.pp_lexer.specs.Lexed.{Seen}
use Rattle.pp_model.specs.Blocks.{block_lines, blocks_at}
use Rattle.pp_model.specs.Onward.{Onward}
use Rattle.pp_model.specs.Reading.{Expander}
use Rattle.pp_model.specs.SourceReader.{Suspended, SourceReader, suspended_of, has_directive, is_on_directive_line}
use Rattle.pp_model.specs.SourceReader.{has_live_text_before}
use Rattle.pp_directives.specs.inner.Lined.{AreLined, AreEnded, ShowErrors}
use Rattle.pp_directives.specs.inner.Suspending.{suspended}
use Rattle.pp_macros.specs.inner.Defined.{meaning_of}
use Rattle.pp_macros.specs.inner.Expander as kept
use Rattle.pp_macros.specs.inner.Expander.{outcome_of_step}
use Rattle.pp_macros.specs.inner.Frames.{flat}
use Rattle.pp_macros.specs.inner.OpenBlocks.{last_block, outer_blocks, is_live_among, AreBefore}
use Rattle.pp_macros.specs.inner.Source.{SuspendedText, Source}
use Rattle.pp_macros.specs.declared.blocks.OpenBlock.{OpenBlock}
use Rattle.pp_macros.specs.declared.step.PlacedExit.TheVariants.{Continue}
use Rattle.pp_rs.specs.inner.StandsPast.{dead_count, StandPast}

-- A text as it is kept, and as it is in the definitions. What is left to read is what follows the position; the lines
-- of blocks are those before it and those after it; the kept blocks stand for those that are open there, but for one
-- that an `#elif` outside of all blocks left. It is kept whether a live token of the text was read, and whether a
-- directive was. No directive's number sign is directly before the position. In live text, unless the end is reached,
-- the position isn't on a directive's line.
pub record StandsForText (kept : SuspendedText) (there : Suspended) : Type 0 where
  pub text : there.text ≡ kept.text
  pub rest : kept.rest ≡ drop there.position there.items
  pub within : there.position ≤ length there.items
  pub line_offset : there.line_offset ≡ kept.line_offset
  pub lined : AreLined there.items
  pub ended : AreEnded there.items
  pub shown : ShowErrors there.items
  pub lines : (after : List Seen) → block_lines 0 (take there.position there.items ++ after)
      ≡ block_lines 0 (take there.position there.items) ++ block_lines there.position after
  pub blocks : StandPast (dead_count kept.dead_for_good) there.items there.truths kept.blocks
      (blocks_at there.items there.position)
  pub truths : AreBefore there.position there.truths
  pub unfinished : there.unfinished ≡ length (blocks_at there.items (length there.items))
  pub remembers_text : kept.has_text ≡ has_live_text_before there.items there.truths there.position
  pub remembers_directive : kept.has_directive ≡ has_directive (take there.position there.items)
  pub directives : (after : List Seen) → has_directive (take there.position there.items ++ after)
      ≡ (has_directive (take there.position there.items) || has_directive after)
  pub off_line : is_live_among kept.dead_for_good kept.blocks ≡ true
      → kept.rest ≢ []
      → is_on_directive_line there.items there.position ≡ false

-- The same of a text at whose end some of the blocks that stay open, the innermost ones, were reported.
pub data StandsAt : SuspendedText → Suspended → Type 0 where
  reading : (kept : SuspendedText) (there : Suspended) → StandsForText kept there → StandsAt kept there
  reported : (last : OpenBlock) (kept : SuspendedText) (there : Suspended) (others : SuspendedText) (those : Suspended)
      → StandsAt kept there
      → kept.rest ≡ []
      → last_block kept.blocks ≡ Some last
      → others ≡ record kept { blocks = outer_blocks kept.blocks }
      → those ≡ record there { unfinished = there.unfinished - 1 }
      → StandsAt others those

-- each of these texts does
abbrev pub StandForTexts : List SuspendedText → List Suspended → Type 0
StandForTexts [] [] = ⊤
StandForTexts (kept ∷ more) (there ∷ others) = StandsAt kept there × StandForTexts more others
StandForTexts _ _ = ⊥

-- The source and the reader of the definitions: the same rules, the same definitions, the text that is read, if `Here`
-- says what it stands for, and those around it.
pub record StandsBy (Here : SuspendedText → Suspended → Type 0) (source : Source) (reader : SourceReader) : Type 0 where
  pub rules : reader.rules ≡ source.rules
  pub here : Here (suspended source) (suspended_of reader)
  pub around : StandForTexts source.around reader.around
  pub earlier : source.earlier ≡ reader.earlier
  pub definitions : reader.definitions ≡ meaning_of source.definitions
  pub contents : reader.contents ≡ source.contents
  pub unspent : source.spent ≡ false

abbrev pub StandsForReader : Source → SourceReader → Type 0
StandsForReader source reader = StandsBy StandsAt source reader

-- the same of a reader of which no block was reported
abbrev pub StandsReading : Source → SourceReader → Type 0
StandsReading source reader = StandsBy StandsForText source reader

-- the texts of which the rest is dead are these
abbrev pub IsDeadIn : List ℕ → SuspendedText → Type 0
IsDeadIn dead kept = list_any (λ text. text == kept.text) dead ≡ kept.dead_for_good

-- each of these texts has a lower number than the one in it
abbrev pub AreNumbered : ℕ → List SuspendedText → Type 0
AreNumbered within [] = ⊤
AreNumbered within (kept ∷ more) = (kept.text < within) × AreNumbered kept.text more

-- A source stands for a reader that goes on: the same texts are dead, and no text that is still to come is.
pub record StandsOnward (source : Source) (onward : Onward) : Type 0 where
  pub reader : StandsForReader source onward.reader
  pub dead : Each (IsDeadIn onward.dead) (suspended source ∷ source.around)
  pub numbered : AreNumbered source.text source.around
  pub read : source.text ≤ source.contents
  pub known : Each (λ text. text ≤ source.contents) onward.dead

-- an expander over the source: its frames are the splice list, and no pause is held
pub record StandsFor (expander : kept.Expander) (source : Source) (state : Expander Onward) : Type 0 where
  pub held : state.held ≡ option_map outcome_of_step expander.held
  pub list : state.list ≡ flat expander.frames
  pub reader : StandsOnward source state.reader
  pub hidden : state.hidden ≡ []
  pub goes : expander.held ≢ Some (Err Continue)
