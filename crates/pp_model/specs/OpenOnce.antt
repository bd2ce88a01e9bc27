-- No macro is open twice, here or around, in whatever state expansion passes: of a source, within one item too, of an
-- argument of a call, and of the line of an `#if`, `#elif` or `#line` (docs/RULES.md, Expansion 2 to 8).
use Rattle.std.specs.Prelude.{◌≡◌, ℕ, true, false, List, [], Some}
use Rattle.pp_lexer.specs.Lexed.{Seen}
use Rattle.pp_lexer.specs.declared.rules.Rules.{Rules}
use Rattle.pp_model.specs.Names.{Name}
use Rattle.pp_model.specs.Definitions.{Definitions}
use Rattle.pp_model.specs.Reading.{Reading, Expander, Listed, Opening, opening, masked_names, reading_of}
use Rattle.pp_model.specs.Taking.{Takes}
use Rattle.pp_model.specs.Calls.{Answers, no_call, fits, Calls}
use Rattle.pp_model.specs.Emitting.{with_macro}
use Rattle.pp_model.specs.SourceReader.{SourceReader}
use Rattle.pp_model.specs.Reads.{source_reading}
use Rattle.pp_model.specs.ApartMarks.{AreApart}
use Rattle.pp_model.specs.RunStates.{IsReached}
use Rattle.pp_model.specs.declared.read.Read.{Read}
use Rattle.pp_model.specs.declared.read.Taken.{Taken}
use Rattle.pp_model.specs.declared.numbering.Numbering.{Numbering}

-- The states that expansion passes: taking something leads to one, and so does each macro that opens.
pub data Passes {R : Type 0} (I : Reading R) (A : Answers) : Expander R → Expander R → Type 0 where
  here : (e f : Expander R) → f ≡ e → Passes I A e f
  -- something is taken: to be looked up, or in the search for a call
  taking : (o : Taken) (e f g : Expander R) → Takes I e o f → Passes I A f g → Passes I A e g
  -- an object-like macro opens
  object : (x : Taken) (m : Opening) (e f g : Expander R)
      → Takes I e x f → opening I f x ≡ Some m
      → m.definition.function_like ≡ false
      → Passes I A (with_macro m m.token.location.line [] f) g
      → Passes I A e g
  -- a name has no call, and what was taken in place of its `(` is held
  name_alone : (x y : Taken) (m : Opening) (e f g h : Expander R)
      → Takes I e x f → opening I f x ≡ Some m
      → m.definition.function_like ≡ true
      → Calls I A m.definition f (no_call y) g
      → Passes I A (record g { held = Some y }) h
      → Passes I A e h
  -- the macro of a call opens
  call : (x : Taken) (arguments : List (List Read)) (line : ℕ) (m : Opening) (e f g h : Expander R)
      → Takes I e x f → opening I f x ≡ Some m
      → m.definition.function_like ≡ true
      → Calls I A m.definition f (fits arguments line) g
      → Passes I A (with_macro m line arguments g) h
      → Passes I A e h

-- no name is open twice, here or around
abbrev pub IsOpenOnce : {R : Type 0} → Expander R → Type 0
IsOpenOnce e = AreApart (masked_names e)

-- In no state that a run passes is a macro open twice.
abbrev pub RunOpensOnce : Answers → Type 0
RunOpensOnce A = (rules : Rules) (source : List Seen) (e f : Expander SourceReader) → IsReached A rules source e
    → Passes (source_reading A) A e f → IsOpenOnce f

-- The same of each state that the reading of a list of tokens alone passes, if no name is open twice around it.
abbrev pub ListOpensOnce : Reading Listed → Answers → Type 0
ListOpensOnce I A =
    (tokens : List Read) (numbering : Numbering) (visible : Definitions) (hidden : List Name) (f : Expander Listed)
    → AreApart hidden → Passes I A (reading_of tokens numbering visible hidden) f → IsOpenOnce f
