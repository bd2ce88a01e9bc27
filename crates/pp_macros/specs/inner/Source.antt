-- What the reader of a source keeps, and one step of it.
use Rattle.std.specs.Prelude.{◌≡◌, ◌≢◌, ℕ, ◌+◌, ◌<◌, ◌⊎◌, Bool, false, not, ◌||◌, is_some, List, []}
use Rattle.std.specs.Prelude.{length, drop, Option, Some, None, Result, Ok, Err, MatchBool, ℤ, pos, ◌-ℤ◌}
use Rattle.pp_lexer.specs.Lexed.{Seen}
use Rattle.pp_lexer.specs.declared.rules.Rules.{Rules}
use Rattle.pp_lexer.specs.declared.token.PreprocessorError.TheVariants.{DefineRedefined, UnfinishedBlock}
use Rattle.pp_lexer.specs.declared.token.PreprocessorError.TheVariants.{UnknownDirective}
use Rattle.pp_lexer.specs.declared.token.Token.{Token}
use Rattle.pp_lexer.specs.declared.token.Location.{Location}
use Rattle.pp_model.specs.Places.{PlacedFault, asking, in_text, placed, unasked}
use Rattle.pp_model.specs.Acts.{defined_in}
use Rattle.pp_model.specs.Definitions.{Definition, IsSameDefinition}
use Rattle.pp_model.specs.Emitting.{answers_at, expansion_limit}
use Rattle.pp_model.specs.LineValues.{IsCondition, IsLineNumber}
use Rattle.pp_model.specs.Onward.{IsFirstNumber}
use Rattle.pp_model.specs.Reads.{numbered_line}
use Rattle.pp_model.specs.SourceReader.{Earlier}
use Rattle.pp_model.specs.declared.definition.Named.{Named}
use Rattle.pp_model.specs.declared.place.Place.{Place}
use Rattle.pp_macros.specs.Item.{PlacedStep, no_memory}
use Rattle.pp_macros.specs.inner.Defined.{Defined, meaning_of, IsChanged}
use Rattle.pp_macros.specs.inner.Faults.{fault_taken, LineLeft, left_of, IsUndefined}
use Rattle.pp_macros.specs.inner.OpenBlocks.{last_block, outer_blocks, BlockChange, block_change_at}
use Rattle.pp_macros.specs.declared.blocks.OpenBlock.{OpenBlock}
use Rattle.pp_model.specs.Moves.{Effect, gives, gives_item, asks, fails, ends, passes, defines, undefines, tests}
use Rattle.pp_model.specs.Moves.{decides, renumbers, Move}
use Rattle.pp_model.specs.Sights.{sight_of}
use Rattle.pp_macros.specs.inner.SourceMoves.{Note, notes_text, notes_directive, move_of, note_of}
use Rattle.pp_macros.specs.inner.Unreported.{Unreported, unreported}
use Rattle.pp_macros.specs.declared.step.PlacedExit.TheVariants.{Error, Continue, Finished}
use Rattle.pp_model.specs.Numbering.{list_numbering}
use Rattle.pp_model.specs.declared.numbering.Numbering.{Numbering}

-- A text in which reading goes on once the text that it includes ends: its number, the items that are left with their
-- places, whether the line before them is over, the open blocks, what `#line` adds to a line, whether a live token or a
-- directive of it was read, and whether it is dead for good.
pub record SuspendedText : Type 0 where
  pub text : ℕ
  pub rest : List Seen
  pub places : List Location
  pub over : Bool
  pub blocks : List OpenBlock
  pub line_offset : ℤ
  pub has_text : Bool
  pub has_directive : Bool
  pub dead_for_good : Bool

-- the rules by which it is read; the number of its text; the items that are left, with their places; whether the line
-- before them is over; the place of an error of the lexer that was read and not reported; what is defined; the open
-- blocks, the outermost first; what `#line` adds to a line; whether memory ran out; whether a live token of the text
-- was read so far, and whether a directive was; whether an `#elif` outside of all blocks made all that follows dead;
-- how many contents were added and texts included; what was read in other texts before; and the texts around, the
-- innermost first
pub record Source : Type 0 where
  pub rules : Rules
  pub text : ℕ
  pub earlier : Earlier
  pub around : List SuspendedText
  pub rest : List Seen
  pub places : List Location
  pub over : Bool
  pub error_place : Option Location
  pub definitions : List Defined
  pub blocks : List OpenBlock
  pub line_offset : ℤ
  pub spent : Bool
  pub has_text : Bool
  pub has_directive : Bool
  pub dead_for_good : Bool
  pub contents : ℕ

-- whether a live token was read, here or in another text, and whether a directive was
abbrev pub had_text : Source → Bool
had_text s = s.earlier.text || s.has_text

abbrev pub had_directive : Source → Bool
had_directive s = s.earlier.directive || s.has_directive

abbrev pub is_first_directive : Source → Bool
is_first_directive s = not (had_directive s || had_text s)

-- the source back in a text, with these around it
abbrev pub resumed : SuspendedText → List SuspendedText → Source → Source
resumed outer around s = record s {
  text = outer.text;
  earlier = record { text = had_text s; directive = had_directive s };
  around = around;
  rest = outer.rest;
  places = outer.places;
  over = outer.over;
  blocks = outer.blocks;
  line_offset = outer.line_offset;
  has_text = outer.has_text;
  has_directive = outer.has_directive;
  dead_for_good = outer.dead_for_good;
}

-- its errors of the lexer that were not reported yet
abbrev pub unreported_of : Source → Unreported
unreported_of s = unreported s.rest s.places s.error_place

-- after `taken` items, with this remembered of them, and with these blocks open
pub record IsAfter (taken : ℕ) (note : Note) (still_open : List OpenBlock) (old new : Source) : Type 0 where
  pub rules : new.rules ≡ old.rules
  pub text : new.text ≡ old.text
  pub earlier : new.earlier ≡ old.earlier
  pub around : new.around ≡ old.around
  pub rest : new.rest ≡ drop taken old.rest
  pub blocks : new.blocks ≡ still_open
  pub line_offset : new.line_offset ≡ old.line_offset
  pub spent : new.spent ≡ false
  pub has_text : new.has_text ≡ (notes_text note || old.has_text)
  pub has_directive : new.has_directive ≡ (notes_directive note || old.has_directive)
  pub dead_for_good : new.dead_for_good ≡ old.dead_for_good
  pub contents : new.contents ≡ old.contents

-- what a fault of what is in front takes, and what stays
abbrev pub fault_taken_of : Source → ℕ
fault_taken_of s = fault_taken s.rules s.dead_for_good s.blocks s.rest

abbrev pub left_of_line : Source → LineLeft
left_of_line s = left_of s.rules s.dead_for_good s.blocks s.rest

-- After a fault of what is in front: what it took is gone as if it had never been there, but for what stays of its
-- line. Fewer items and open blocks are left.
pub record IsAfterFault (old new : Source) : Type 0 where
  pub rules : new.rules ≡ old.rules
  pub text : new.text ≡ old.text
  pub earlier : new.earlier ≡ old.earlier
  pub around : new.around ≡ old.around
  pub contents : new.contents ≡ old.contents
  pub has_text : new.has_text ≡ old.has_text
  pub rest : new.rest ≡ drop (fault_taken_of old) old.rest
  pub fewer : length new.rest + length new.blocks < length old.rest + length old.blocks
  pub blocks : new.blocks ≡ (left_of_line old).change None old.blocks
  pub definitions : IsUndefined (left_of_line old).undefined old.definitions new.definitions
  pub line_offset : new.line_offset ≡ old.line_offset
  pub has_directive : new.has_directive ≡ ((left_of_line old).is_directive || old.has_directive)
  pub dead_for_good : new.dead_for_good ≡ ((left_of_line old).is_dead || old.dead_for_good)
  pub spent : new.spent ≡ false

-- after the innermost block was reported at the end: the outer blocks are still open
abbrev pub IsAfterBlock : Source → Source → Type 0
IsAfterBlock old new = new ≡ record old { blocks = outer_blocks old.blocks }

-- a `#define` of a name that had this definition, or none
abbrev pub DefinesOver : Named → Option Definition → ℕ → Note → Source → PlacedStep Token → Source → Type 0
DefinesOver named None taken note old step new =
    (step ≡ Err Continue)
    × IsAfter taken note old.blocks old new
    × IsChanged named.name (Some named.definition) old.definitions new.definitions
DefinesOver named (Some before) taken note old step new =
    (IsSameDefinition before named.definition
    × (step ≡ Err Continue)
    × IsAfter taken note old.blocks old new
    × (new.definitions ≡ old.definitions))
    ⊎ ((IsSameDefinition before named.definition → ⊥)
    × (step ≡ Err (Error (placed old.text (DefineRedefined, named.location))))
    × IsAfterFault old new)

-- at the end of the source the innermost open block is reported, or, if none is open, the end is given
abbrev pub Ends : Option OpenBlock → Source → PlacedStep Token → Source → Type 0
Ends (Some block) old step new =
    (step ≡ Err (Error (placed old.text (UnfinishedBlock, block.word)))) × IsAfterBlock old new
Ends None old step new = (step ≡ Err Finished) × (new ≡ old)

-- a pause after `taken` items, with this remembered of them, and with these blocks open
abbrev pub Pauses : ℕ → Note → List OpenBlock → Source → PlacedStep Token → Source → Type 0
Pauses taken note blocks old step new =
    (step ≡ Err Continue) × IsAfter taken note blocks old new × (new.definitions ≡ old.definitions)

-- the condition of an `#if` or `#elif` with this word and these tokens holds, doesn't hold, or has this fault
abbrev pub Condition : Place → List Token → Numbering → List Defined → Result Bool PlacedFault → Type 0
Condition word tokens numbering definitions result =
    IsCondition (answers_at expansion_limit) word tokens numbering (meaning_of definitions) result

-- the number that a `#line` with this word and these tokens gives, or its fault
abbrev pub LineNumber : Place → List Token → Numbering → List Defined → Result ℕ PlacedFault → Type 0
LineNumber word tokens numbering definitions result =
    IsLineNumber (answers_at expansion_limit) word tokens numbering (meaning_of definitions) result

-- a line with a condition: the open blocks after it depend on whether the condition holds
pub data Decides (word : Location) (tokens : List Token) (blocks : Bool → List OpenBlock) (taken : ℕ) (note : Note)
    (old : Source) (step : PlacedStep Token) (new : Source) : Type 0 where
  holds : (value : Bool)
      → Condition (in_text old.text word) tokens (list_numbering old.rules old.line_offset) old.definitions (Ok value)
      → Pauses taken note (blocks value) old step new
      → Decides word tokens blocks taken note old step new
  faulty : (fault : PlacedFault)
      → Condition (in_text old.text word) tokens (list_numbering old.rules old.line_offset) old.definitions (Err fault)
      → step ≡ Err (Error (unasked fault))
      → IsAfterFault old new
      → Decides word tokens blocks taken note old step new

-- what `#line` adds to a line after a `#line` with this word and this first number, if it has one
abbrev pub offset_from : Source → Location → Option ℕ → ℤ
offset_from s word None = s.line_offset
offset_from s word (Some n) = pos n -ℤ pos (numbered_line s.rules word.line)

-- the number of the first expression of a `#line` with this word and these tokens, if it has one
abbrev pub FirstNumber : Place → List Token → Numbering → List Defined → Option ℕ → Type 0
FirstNumber word tokens numbering definitions number =
    IsFirstNumber (answers_at expansion_limit) word tokens numbering (meaning_of definitions) number

-- a `#line`: the lines after it are numbered from there; with a fault they are numbered from its first number
pub data Renumbers (word : Location) (tokens : List Token) (taken : ℕ) (note : Note) (old : Source)
    (step : PlacedStep Token) (new : Source) : Type 0 where
  numbers : (n : ℕ)
      → LineNumber (in_text old.text word) tokens (list_numbering old.rules old.line_offset) old.definitions (Ok n)
      → Pauses taken note old.blocks (record old { line_offset = offset_from old word (Some n) }) step new
      → Renumbers word tokens taken note old step new
  unnumbered : (fault : PlacedFault) (number : Option ℕ)
      → LineNumber (in_text old.text word) tokens (list_numbering old.rules old.line_offset) old.definitions (Err fault)
      → FirstNumber (in_text old.text word) tokens (list_numbering old.rules old.line_offset) old.definitions number
      → step ≡ Err (Error (unasked fault))
      → IsAfterFault (record old { line_offset = offset_from old word number }) new
      → Renumbers word tokens taken note old step new

-- what an effect means for the step, and for the source after it, if its line does this to the open blocks
abbrev pub HasEffect : Effect → ℕ → Note → BlockChange → Source → PlacedStep Token → Source → Type 0
HasEffect (gives token) taken note change old step new =
    (step ≡ Ok token) × IsAfter taken note old.blocks old new × (new.definitions ≡ old.definitions)
HasEffect (gives_item value word) taken note change old step new =
    (step ≡ Ok (record { value = value (had_text old) (is_first_directive old); location = word }))
    × IsAfter taken note old.blocks old new
    × (new.definitions ≡ old.definitions)
HasEffect (asks line) taken note change old step new =
    (step ≡ Err (Error (UnknownDirective, asking old.text line)))
    × IsAfter taken note old.blocks old new
    × (new.definitions ≡ old.definitions)
HasEffect (fails fault) taken note change old step new =
    (step ≡ Err (Error (placed old.text fault))) × IsAfterFault old new
HasEffect ends taken note change old step new = Ends (last_block old.blocks) old step new
HasEffect passes taken note change old step new = Pauses taken note (change None old.blocks) old step new
HasEffect (defines named) taken note change old step new =
    DefinesOver (defined_in old.text named) (meaning_of old.definitions named.name) taken note old step new
HasEffect (undefines name) taken note change old step new =
    (step ≡ Err Continue)
    × IsAfter taken note old.blocks old new
    × IsChanged name None old.definitions new.definitions
HasEffect (tests asked name) taken note change old step new =
    Pauses taken note (change (Some (asked (is_some (meaning_of old.definitions name)))) old.blocks) old step new
HasEffect (decides word tokens) taken note change old step new =
    Decides word tokens (λ value. change (Some value) old.blocks) taken note old step new
HasEffect (renumbers word tokens) taken note change old step new = Renumbers word tokens taken note old step new

abbrev pub Makes : Note → BlockChange → Move → Source → PlacedStep Token → Source → Type 0
Makes note change move old step new = HasEffect move.effect move.taken note change old step new

-- the same of the item at the front
abbrev pub MakesMove : Source → PlacedStep Token → Source → Type 0
MakesMove old step new =
    Makes (note_of old.dead_for_good old.blocks old.rest) (block_change_at (sight_of old.rest))
    (move_of old.rules old.dead_for_good old.blocks old.rest) old step new

-- memory ran out, and something was left to read
pub record IsRefusedStep (old : Source) (step : PlacedStep Token) : Type 0 where
  pub some_left : old.rest ≢ []
  pub fault : step ≡ Err (Error no_memory)

-- One step of a source. Once memory has run out, each further step is the end; nothing else is known of the source
-- then.
abbrev pub StepsSource : Source → PlacedStep Token → Source → Type 0
StepsSource old step new =
    MatchBool old.spent ((step ≡ Err Finished) × (new ≡ old))
    (IsRefusedStep old step ⊎ MakesMove old step new)
