-- Reading a source: what comes next, once directives have acted (GLSL ES 3.20, section 3.4,
-- and docs/RULES.md, Directives).
use Rattle.std.specs.Prelude.{◌≡◌, ◌⊎◌, ℕ, ◌+◌, pos, ◌-ℤ◌, Bool, false, if◌then◌else◌, Option, Some, None}
use Rattle.std.specs.Prelude.{Result, Ok, Err}
use Rattle.pp_lexer.specs.declared.rules.Rules.{Rules}
use Rattle.pp_lexer.specs.declared.token.PreprocessorError.TheVariants.{DefineRedefined}
use Rattle.pp_model.specs.Places.{PlacedFault, in_text, placed, unasked}
use Rattle.pp_model.specs.Definitions.{Definition, with_change, IsSameDefinition}
use Rattle.pp_model.specs.Painting.{taken_of}
use Rattle.pp_model.specs.Reading.{Reading}
use Rattle.pp_model.specs.Calls.{Answers}
use Rattle.pp_model.specs.LineValues.{IsCondition, IsLineNumber}
use Rattle.pp_model.specs.Numbering.{list_numbering, text_number}
use Rattle.pp_model.specs.SourceReader.{SourceReader}
use Rattle.pp_model.specs.Acts.{act, decided}
use Rattle.pp_model.specs.declared.definition.Named.{Named}
use Rattle.pp_model.specs.declared.read.Taken.{Taken}
use Rattle.pp_model.specs.declared.read.Taken.TheVariants as taken
use Rattle.pp_model.specs.declared.step.Step.{Step}
use Rattle.pp_model.specs.declared.step.Step.TheVariants as step

-- the line to which a `#line` gives its number: its own, or by GLSL's rules the one after it
abbrev pub numbered_line : Rules → ℕ → ℕ
numbered_line rules line = if rules.numbers_next_line then line + 1 else line

-- A `#define` of a name that had this definition, if it had one: a new name is defined. The same definition again gives
-- nothing, another one is a fault of this text, and both leave the old one.
abbrev pub Defines : ℕ → Named → Option Definition → SourceReader → Option Taken → SourceReader → Type 0
Defines text named None after o t =
    (o ≡ None) × (t ≡ record after { definitions = with_change after.definitions named.name (Some named.definition) })
Defines text named (Some old) after o t =
    (t ≡ after)
    × ((IsSameDefinition old named.definition × (o ≡ None))
    ⊎ ((IsSameDefinition old named.definition → ⊥)
    × (o ≡ Some (taken.Fault (placed text (DefineRedefined, named.location))))))

-- A line of this value gives nothing, and `next` says which reader comes after it. A fault is given, asks for nothing,
-- and the reader `r` stays as it is.
abbrev pub Evaluated : {A : Type 0} → Result A PlacedFault → (next : A → SourceReader) → SourceReader → Option Taken
    → SourceReader → Type 0
Evaluated (Ok value) next r o t = (o ≡ None) × (t ≡ next value)
Evaluated (Err fault) next r o t = (o ≡ Some (taken.Fault (unasked fault))) × (t ≡ r)

-- What a step of the reader `r` gives, and the reader `t` after it, if `after` is the reader after the items that it
-- takes. `A` says what calls in `#if`, `#elif` and `#line` lines give.
abbrev pub Does : Answers → SourceReader → Step → SourceReader → Option Taken → SourceReader → Type 0
Does A r step.Passed after o t = (o ≡ None) × (t ≡ after)
Does A r (step.Given x) after o t = (o ≡ Some (taken_of r.text x)) × (t ≡ after)
Does A r (step.Defines named) after o t = Defines r.text named (r.definitions named.name) after o t
Does A r (step.Condition word tokens) after o t =
    (condition : Result Bool PlacedFault)
    × IsCondition A (in_text r.text word) tokens (list_numbering r.rules r.line_offset) r.definitions condition
    × Evaluated condition (λ holds. decided r.position holds after) r o t
Does A r (step.LineNumber word tokens) after o t =
    (number : Result ℕ PlacedFault)
    × IsLineNumber A (in_text r.text word) tokens (list_numbering r.rules r.line_offset) r.definitions number
    × Evaluated number (λ n. record after { line_offset = pos n -ℤ pos (numbered_line r.rules word.line) }) r o t

-- One token or line of the source: it gives something, or nothing.
abbrev pub Steps : Answers → SourceReader → Option Taken → SourceReader → Type 0
Steps A r o t = Does A r (act r).step (act r).after o t

-- What reading gives next, unpainted: the first step that gives something.
pub data Reads (A : Answers) : SourceReader → Taken → SourceReader → Type 0 where
  here : (x : Taken) (r t : SourceReader) → Steps A r (Some x) t → Reads A r x t
  later : (x : Taken) (r s t : SourceReader) → Steps A r None s → Reads A s x t → Reads A r x t

-- the source as a reader: `#line` changes the lines that `__LINE__` shows
abbrev pub source_reading : Answers → Reading SourceReader
source_reading A = record {
  Reads = Reads A;
  visible = λ reader. reader.definitions;
  shown_line = λ reader. text_number reader.rules reader.line_offset;
  numbering = λ reader. list_numbering reader.rules reader.line_offset;
  is_reserved = λ name. false;
}
