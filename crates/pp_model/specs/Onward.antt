-- Reading a source on after its faults (docs/RULES.md, After an error).
use Rattle.std.specs.Prelude.{◌≡◌, ℕ, pos, ◌-ℤ◌, ◌==◌, nat_lt, Bool, true, false, ◌&&◌, if◌then◌else◌, List, []}
use Rattle.std.specs.Prelude.{◌∷◌, map, take, drop, length, is_none, Option, Some, None, option_and_then, Result}
use Rattle.std.specs.List.{list_any}
use Rattle.std.specs.Result.{result_ok}
use Rattle.pp_lexer.specs.Lexed.{Seen}
use Rattle.pp_lexer.specs.declared.token.Location.{Location}
use Rattle.pp_lexer.specs.declared.token.Token.{Token}
use Rattle.pp_expression.specs.declared.symbol.Value.{Value}
use Rattle.pp_expression.specs.declared.symbol.Found.{Found}
use Rattle.pp_expression.specs.FirstFault.{Evaluates}
use Rattle.pp_model.specs.Places.{in_text}
use Rattle.pp_model.specs.Definitions.{Definitions}
use Rattle.pp_model.specs.Painting.{read_in}
use Rattle.pp_model.specs.Reading.{Reading, reading_of}
use Rattle.pp_model.specs.Calls.{Answers}
use Rattle.pp_model.specs.LineWords.{Words, LineWords}
use Rattle.pp_model.specs.LineValues.{line_of}
use Rattle.pp_model.specs.Numbering.{as_line_number, list_numbering, text_number}
use Rattle.pp_model.specs.Sights.{sight_of}
use Rattle.pp_model.specs.Blocks.{blocks_at, innermost}
use Rattle.pp_model.specs.SourceReader.{SourceReader}
use Rattle.pp_model.specs.Acts.{Acted, end_by, perform}
use Rattle.pp_model.specs.Reads.{numbered_line, Does}
use Rattle.pp_model.specs.Faults.{facts_past, move_past, makes_dead, after_fault}
use Rattle.pp_model.specs.declared.numbering.Numbering.{Numbering}
use Rattle.pp_model.specs.declared.place.Place.{Place}
use Rattle.pp_model.specs.declared.read.Taken.{Taken}
use Rattle.pp_model.specs.declared.read.Taken.TheVariants as taken
use Rattle.pp_model.specs.declared.step.Step.{Step}
use Rattle.pp_model.specs.declared.step.Step.TheVariants as step
use Rattle.pp_model.specs.declared.word.LineKind.TheVariants.{LineNumber}

-- A reader that goes on after faults, and the texts of which an `#elif` outside of all blocks made the rest dead. It is
-- in a block there that no line parts or closes, and that isn't reported.
pub record Onward : Type 0 where
  pub reader : SourceReader
  pub dead : List ℕ

-- how many of the outermost blocks are such
abbrev pub dead_blocks : Onward → ℕ
dead_blocks o = if list_any (λ text. text == o.reader.text) o.dead then 1 else 0

-- what these items, which are left, do to the reader, if the outermost `n` blocks are such
abbrev pub act_on : ℕ → List Seen → SourceReader → Acted
act_on n [] r = end_by (innermost (drop n (take r.unfinished (blocks_at r.items (length r.items))))) r
act_on n rest r = perform (move_past n r rest) r

-- the line number of a `#line`'s first expression, if it has one
pub record IsFirstNumber (A : Answers) (place : Place) (tokens : List Token) (numbering : Numbering)
    (definitions : Definitions) (number : Option ℕ) : Type 0 where
  pub words : Words
  pub read : LineWords LineNumber place A (reading_of (map (read_in place.text) tokens) numbering definitions []) words
  pub evaluation : Result Value Found
  pub evaluated : Evaluates (line_of words) evaluation
  pub is : number ≡ option_and_then (λ v. as_line_number v.value) (result_ok evaluation)

-- a `#line` with a fault counts from its first number
abbrev pub numbered_by : SourceReader → Location → Option ℕ → SourceReader
numbered_by r word None = r
numbered_by r word (Some n) = record r { line_offset = pos n -ℤ pos (numbered_line r.rules word.line) }

-- the reader after a fault at its position, if its step is this
abbrev pub IsPastFault : Answers → ℕ → SourceReader → Step → SourceReader → Type 0
IsPastFault A n r (step.LineNumber word tokens) t =
    (number : Option ℕ)
    × IsFirstNumber A (in_text r.text word) tokens (list_numbering r.rules r.line_offset) r.definitions number
    × (t ≡ numbered_by (after_fault n r) word number)
IsPastFault A n r did t = t ≡ after_fault n r

-- the texts of which the rest is dead after a fault at the reader's position, if the outermost `n` blocks are such
abbrev pub dead_after : ℕ → SourceReader → List ℕ → List ℕ
dead_after n r dead =
    if makes_dead (facts_past n r) (sight_of (drop r.position r.items)) then r.text ∷ dead else dead

-- what the items at the position do, and what they give with the reader after them
abbrev pub act_here : Onward → Acted
act_here o = act_on (dead_blocks o) (drop o.reader.position o.reader.items) o.reader

abbrev pub DoesHere : Answers → Onward → Option Taken → SourceReader → Type 0
DoesHere A o given t = Does A o.reader (act_here o).step (act_here o).after given t

-- a fault of items that are left, which asks for nothing
abbrev pub is_of_items : SourceReader → Option Taken → Bool
is_of_items r (Some (taken.Fault fault)) = nat_lt r.position (length r.items) && is_none fault.1.asks
is_of_items r given = false

-- One token or line of the source: it gives something, or nothing, and a fault of it is passed.
pub data StepsOn (A : Answers) : Onward → Option Taken → Onward → Type 0 where
  passed : (given : Option Taken) (t : SourceReader) (old new : Onward)
      → DoesHere A old given t
      → is_of_items old.reader given ≡ false
      → new ≡ record old { reader = t }
      → StepsOn A old given new
  faulty : (s t : SourceReader) (given : Option Taken) (old new : Onward)
      → DoesHere A old given s
      → is_of_items old.reader given ≡ true
      → IsPastFault A (dead_blocks old) old.reader (act_here old).step t
      → new ≡ record { reader = t; dead = dead_after (dead_blocks old) old.reader old.dead }
      → StepsOn A old given new

-- what reading on gives next: the first step that gives something
pub data ReadsOn (A : Answers) : Onward → Taken → Onward → Type 0 where
  here : (x : Taken) (old new : Onward) → StepsOn A old (Some x) new → ReadsOn A old x new
  later : (x : Taken) (old mid new : Onward) → StepsOn A old None mid → ReadsOn A mid x new → ReadsOn A old x new

-- the source as a reader that goes on
abbrev pub onward_reading : Answers → Reading Onward
onward_reading A = record {
  Reads = ReadsOn A;
  visible = λ o. o.reader.definitions;
  shown_line = λ o. text_number o.reader.rules o.reader.line_offset;
  numbering = λ o. list_numbering o.reader.rules o.reader.line_offset;
  is_reserved = λ name. false;
}
