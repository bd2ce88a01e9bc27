-- What comes after the frames: the reader, as its interface object shows it.
use Rattle.std.specs.Prelude.{◌≡◌, ◌⊎◌, ℕ, Bool, true, false, ◌&&◌, ◌||◌, if◌then◌else◌, List, [], ◌∷◌, ◌++◌}
use Rattle.std.specs.Prelude.{Option, Some, None, Ok, Err}
use Rattle.pp_lexer.specs.declared.token.Integer.{Integer}
use Rattle.pp_lexer.specs.declared.token.Token.{Token}
use Rattle.pp_lexer.specs.declared.token.TokenValue.{TokenValue}
use Rattle.pp_model.specs.Calls.{is_left_paren, is_right_paren}
use Rattle.pp_model.specs.Definitions.{Definitions}
use Rattle.pp_model.specs.Numbering.{number_of, text_number}
use Rattle.pp_model.specs.Names.{Name, is_identifier, is_same_name, defined_name, line_name}
use Rattle.pp_model.specs.declared.numbering.Numbering.{Numbering}
use Rattle.pp_model.specs.declared.read.Read.{Read}
use Rattle.pp_model.specs.inner.Reading.{after_listed}
use Rattle.pp_macros.specs.Held.{HoldsOrdinary}
use Rattle.pp_macros.specs.Item.{PlacedStep, no_memory}
use Rattle.pp_macros.specs.inner.Reading.{unpainted_step}
use Rattle.pp_macros.specs.inner.Defined.{Defined, meaning_of}
use Rattle.pp_macros.specs.inner.Source.{SuspendedText, Source, unreported_of, StepsSource, resumed}
use Rattle.pp_macros.specs.inner.Unreported.{StepReports}
use Rattle.pp_macros.specs.declared.step.PlacedExit.TheVariants.{Error, Continue, Finished}

-- The tokens of an argument or of a directive's line, how their lines are numbered, with the definitions there and the
-- names that are open around. On a line `defined` is an operator.
pub record Listing : Type 0 where
  pub tokens : List Read
  pub numbering : Numbering
  pub definitions : List Defined
  pub hidden : List Name
  pub is_line : Bool

pub data Reader : Type 0 where
  of_source : Source → Reader
  of_list : Listing → Reader

abbrev pub listed_step : List Read → PlacedStep Read
listed_step [] = Err Finished
listed_step (read ∷ tokens) = Ok read

-- the next token, or the end, unless memory runs out
abbrev pub StepsListed : Listing → PlacedStep Read → Listing → Type 0
StepsListed old step new =
    ((step ≡ listed_step old.tokens) × (new ≡ record old { tokens = after_listed old.tokens }))
    ⊎ (step ≡ Err (Error no_memory))

-- Nothing of an included text is left, and all its open blocks were reported.
pub record IsTextOver (s : Source) : Type 0 where
  pub spent : s.spent ≡ false
  pub rest : s.rest ≡ []
  pub blocks : s.blocks ≡ []

-- one step of a source
pub data ReadsSource (old : Source) (step : PlacedStep Read) (new : Source) : Type 0 where
  -- One step of its text: what it gives is unpainted, and it reports the errors of the lexer too. The end is given in
  -- the outermost text alone, unless memory ran out.
  reads : (given : PlacedStep Token)
      → StepsSource old given new
      → StepReports old.rules.passes_dead_errors given (unreported_of old) (unreported_of new)
      → (given ≡ Err Finished → (old.spent ≡ true) ⊎ (old.around ≡ []))
      → step ≡ unpainted_step old.text given
      → ReadsSource old step new
  -- an included text is over, and reading goes on in the text around it
  leaves : (outer : SuspendedText) (around : List SuspendedText)
      → IsTextOver old
      → old.around ≡ outer ∷ around
      → step ≡ Err Continue
      → new ≡ resumed outer around old
      → ReadsSource old step new

-- one step of a reader: a source stays a source, a list a list
abbrev pub Reads : Reader → PlacedStep Read → Reader → Type 0
Reads (of_source old) step (of_source new) = ReadsSource old step new
Reads (of_list old) step (of_list new) = StepsListed old step new
Reads _ step _ = ⊥

-- the name never opens a macro there: it is `defined` on a line
abbrev pub is_reserved : Listing → Name → Bool
is_reserved list name = list.is_line && is_same_name name defined_name

-- the names that are open around
abbrev pub hidden_of : Reader → List Name
hidden_of (of_source source) = []
hidden_of (of_list list) = list.hidden

-- the next token was read and put after the tokens, which isn't `__LINE__`
pub record IsReadOnto (old : Reader) (tokens : List Read) (new : Reader) (more : List Read) : Type 0 where
  pub read : Read
  pub reads : Reads old (Ok read) new
  pub apart : is_identifier line_name read.token.value ≡ false
  pub holds : HoldsOrdinary read.token.value
  pub is : more ≡ tokens ++ read ∷ []

-- such a token was, or nothing changed
abbrev pub ReadsOnto : Reader → List Read → Bool → Reader → List Read → Type 0
ReadsOnto old tokens true new more = IsReadOnto old tokens new more
ReadsOnto old tokens false new more = (new ≡ old) × (more ≡ tokens)

-- a parenthesis
abbrev pub nests : TokenValue → Bool
nests value = is_left_paren value || is_right_paren value

-- tokens that are no parentheses were read so, one after the other
pub data ReadsFlat (old : Reader) (tokens : List Read) : Reader → List Read → Type 0 where
  none_read : (new : Reader) (more : List Read) → new ≡ old → more ≡ tokens → ReadsFlat old tokens new more
  read_more : (between new : Reader) (some more : List Read)
      → ReadsFlat old tokens between some
      → (onto : IsReadOnto between some new more)
      → nests onto.read.token.value ≡ false
      → ReadsFlat old tokens new more

-- such tokens were, and then a token if one was found
pub record ReadsRun (old : Reader) (tokens : List Read) (found : Bool) (new : Reader) (more : List Read) : Type 0 where
  pub between : Reader
  pub some : List Read
  pub flat : ReadsFlat old tokens between some
  pub last : ReadsOnto between some found new more

-- the definitions that open macros there
abbrev pub visible : Reader → Definitions
visible (of_source source) = meaning_of source.definitions
visible (of_list list) = λ name. if is_reserved list name then None else meaning_of list.definitions name

-- the number that `__LINE__` shows for a line, unless it is out of range
abbrev pub shown_line : Reader → ℕ → Option Integer
shown_line (of_source source) line = text_number source.rules source.line_offset line
shown_line (of_list list) line = Some (number_of list.numbering line)

-- what is defined there; on a line this includes `defined`, if it is defined
abbrev pub definitions_of : Reader → List Defined
definitions_of (of_source source) = source.definitions
definitions_of (of_list list) = list.definitions
