-- Calls of function-like macros: the search for their arguments (docs/RULES.md, Expansion 5 to 7).
use Rattle.std.specs.Prelude.{◌≡◌, ℕ, ◌+◌, ◌-◌, nat_lt, ◌==◌, ◌&&◌, Bool, true, false, if◌then◌else◌, List, [], ◌∷◌}
use Rattle.std.specs.Prelude.{length, Option, Some, None, Result, Ok, Err}
use Rattle.pp_lexer.specs.declared.token.Location.{Location}
use Rattle.pp_lexer.specs.declared.token.PreprocessorError.{PreprocessorError}
use Rattle.pp_lexer.specs.declared.token.PreprocessorError.TheVariants.{IntegerOverflow, UnexpectedEndOfInput}
use Rattle.pp_lexer.specs.declared.token.PreprocessorError.TheVariants.{TooFewDefineArguments, TooManyDefineArguments}
use Rattle.pp_lexer.specs.declared.token.Punct.TheVariants.{LeftParen, RightParen, Comma}
use Rattle.pp_lexer.specs.declared.token.TokenValue.{TokenValue}
use Rattle.pp_lexer.specs.declared.token.TokenValue.TheVariants.{Punct}
use Rattle.pp_expression.specs.Answers.{◌>>=◌}
use Rattle.pp_model.specs.declared.place.Place.{Place}
use Rattle.pp_model.specs.Places.{PlacedFault, place_of, unasked}
use Rattle.pp_model.specs.Names.{Name}
use Rattle.pp_model.specs.Definitions.{Definition, Definitions}
use Rattle.pp_model.specs.Reading.{Reading, Expander, masked_names}
use Rattle.pp_model.specs.Taking.{Takes}
use Rattle.pp_model.specs.declared.numbering.Numbering.{Numbering}
use Rattle.pp_model.specs.declared.read.Read.{Read}
use Rattle.pp_model.specs.declared.read.Taken.{Taken}
use Rattle.pp_model.specs.declared.read.Taken.TheVariants as taken

abbrev pub is_left_paren : TokenValue → Bool
is_left_paren (Punct LeftParen) = true
is_left_paren _ = false

abbrev pub is_right_paren : TokenValue → Bool
is_right_paren (Punct RightParen) = true
is_right_paren _ = false

abbrev pub is_comma : TokenValue → Bool
is_comma (Punct Comma) = true
is_comma _ = false

-- the position of a token among the parentheses of a call: it closes the call, or `n` inner ones are open after it, or
-- it opens one too many
pub data Nesting : Type 0 where
  closes : Nesting
  within : ℕ → Nesting
  too_many : Nesting

abbrev pub most_parentheses : ℕ
most_parentheses = 4294967295

abbrev pub nesting : ℕ → TokenValue → Nesting
nesting n value =
    if is_left_paren value then (if nat_lt n most_parentheses then within (n + 1) else too_many)
    else if is_right_paren value then (if n == 0 then closes else within (n - 1))
    else within n

-- the tokens between the parentheses of a call, and the place of the closing one
pub record Gathered : Type 0 where
  pub tokens : List Read
  pub closing : Location

abbrev pub before : Read → Result Gathered PlacedFault → Result Gathered PlacedFault
before read rest = rest >>= λ gathered. Ok (record gathered { tokens = read ∷ gathered.tokens })

-- The tokens that are taken up to the matching `)`, or the fault that is met before it, while `n` inner parentheses are
-- open. Within a call no `#include` line asks for its text. `last` is the place of the token taken last.
pub data Gathers {R : Type 0} (I : Reading R)
    : ℕ → Place → Expander R → Result Gathered PlacedFault → Expander R → Type 0 where
  closed : (n : ℕ) (last : Place) (read : Read) (e f : Expander R) (g : Result Gathered PlacedFault)
      → Takes I e (taken.Token read) f → nesting n read.token.value ≡ closes
      → g ≡ Ok (record { tokens = []; closing = read.token.location })
      → Gathers I n last e g f
  inside : (n k : ℕ) (last : Place) (read : Read) (e f h : Expander R) (rest g : Result Gathered PlacedFault)
      → Takes I e (taken.Token read) f → nesting n read.token.value ≡ within k
      → Gathers I k (place_of read) f rest h
      → g ≡ before read rest
      → Gathers I n last e g h
  overfull : (n : ℕ) (last : Place) (read : Read) (e f : Expander R) (g : Result Gathered PlacedFault)
      → Takes I e (taken.Token read) f → nesting n read.token.value ≡ too_many
      → g ≡ Err (IntegerOverflow, place_of read)
      → Gathers I n last e g f
  ended : (n : ℕ) (last : Place) (e f : Expander R) (g : Result Gathered PlacedFault)
      → Takes I e taken.End f
      → g ≡ Err (UnexpectedEndOfInput, last)
      → Gathers I n last e g f
  failed : (n : ℕ) (last : Place) (fault : PlacedFault) (e f : Expander R) (g : Result Gathered PlacedFault)
      → Takes I e (taken.Fault fault) f
      → g ≡ Err (unasked fault)
      → Gathers I n last e g f

-- tokens cut at the commas outside of inner parentheses: the first piece, and the others
pub record Pieces : Type 0 where
  pub first : List Read
  pub others : List (List Read)

abbrev pub nesting_after : ℕ → TokenValue → ℕ
nesting_after n value = if is_left_paren value then n + 1 else if is_right_paren value then n - 1 else n

abbrev pub cut_before : Bool → Read → Pieces → Pieces
cut_before true read pieces = record { first = []; others = pieces.first ∷ pieces.others }
cut_before false read pieces = record pieces { first = read ∷ pieces.first }

abbrev pub pieces : ℕ → List Read → Pieces
pieces n [] = record { first = []; others = [] }
pieces n (read ∷ tokens) =
    cut_before (is_comma read.token.value && (n == 0)) read (pieces (nesting_after n read.token.value) tokens)

-- a call's arguments: `()` has one, which is empty
abbrev pub arguments_of : List Read → List (List Read)
arguments_of tokens = (pieces 0 tokens).first ∷ (pieces 0 tokens).others

abbrev pub is_one_empty : List (List Read) → Bool
is_one_empty ([] ∷ []) = true
is_one_empty _ = false

-- what is wrong with the number of arguments; one empty argument fits no parameter too
abbrev pub misfit : List Name → List (List Read) → Option PreprocessorError
misfit parameters arguments =
    if (length parameters == 0) && is_one_empty arguments then None
    else if nat_lt (length parameters) (length arguments) then Some TooManyDefineArguments
    else if nat_lt (length arguments) (length parameters) then Some TooFewDefineArguments
    else None

-- a call whose `)` has been taken: the place of its `(`, its arguments, how their lines are numbered, and what is
-- defined and open then
pub record Site : Type 0 where
  pub paren : Place
  pub arguments : List (List Read)
  pub numbering : Numbering
  pub visible : Definitions
  pub open_around : List Name

abbrev pub site_of : {R : Type 0} → Reading R → Expander R → Place → List Read → Site
site_of I expander paren tokens =
    record {
      paren = paren;
      arguments = arguments_of tokens;
      numbering = I.numbering expander.reader;
      visible = I.visible expander.reader;
      open_around = masked_names expander;
    }

-- what a call of a definition may give: its arguments, each expanded alone, or a fault
abbrev pub Answers : Type 1
Answers = Definition → Site → Result (List (List Read)) PlacedFault → Type 0

-- what follows the name of a function-like macro: no call, but what was taken in place of its `(`; or the fault of a
-- call; or a call, with the line of its `)`
pub data Called : Type 0 where
  no_call : Taken → Called
  refused : PlacedFault → Called
  fits : List (List Read) → ℕ → Called

-- the place of what was taken, if it is a `(`
abbrev pub paren_at : Taken → Option Place
paren_at (taken.Token read) = if is_left_paren read.token.value then Some (place_of read) else None
paren_at _ = None

abbrev pub called_by : ℕ → Result (List (List Read)) PlacedFault → Called
called_by line (Ok arguments) = fits arguments line
called_by line (Err fault) = refused fault

pub data Calls {R : Type 0} (I : Reading R) (A : Answers) (definition : Definition)
    : Expander R → Called → Expander R → Type 0 where
  -- no `(` is taken
  alone : (o : Taken) (e f : Expander R) (c : Called)
      → Takes I e o f → paren_at o ≡ None
      → c ≡ no_call o
      → Calls I A definition e c f
  -- the search for the end of the arguments meets a fault
  broken : (o : Taken) (paren : Place) (fault : PlacedFault) (e f g : Expander R) (c : Called)
      → Takes I e o f → paren_at o ≡ Some paren
      → Gathers I 0 paren f (Err fault) g
      → c ≡ refused fault
      → Calls I A definition e c g
  -- the call gives its expanded arguments, or a fault
  whole : (o : Taken) (paren : Place) (gathered : Gathered) (answer : Result (List (List Read)) PlacedFault)
      (e f g : Expander R) (c : Called)
      → Takes I e o f → paren_at o ≡ Some paren
      → Gathers I 0 paren f (Ok gathered) g
      → A definition (site_of I g paren gathered.tokens) answer
      → c ≡ called_by gathered.closing.line answer
      → Calls I A definition e c g
