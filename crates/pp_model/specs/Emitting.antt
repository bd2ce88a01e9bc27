-- The next item of an expander, and an argument's expansion alone (docs/RULES.md, Expansion 3 to 10).
use Rattle.std.specs.Prelude.{◌≡◌, ℕ, zero, suc, true, false, List, [], ◌∷◌, Some, None, MatchOption, Result}
use Rattle.std.specs.Prelude.{Ok, Err}
use Rattle.pp_lexer.specs.declared.token.PreprocessorError.TheVariants.{RecursionLimitReached}
use Rattle.pp_lexer.specs.declared.token.Token.{Token}
use Rattle.pp_expression.specs.Answers.{◌>>=◌}
use Rattle.pp_model.specs.Places.{PlacedFault, fault_in}
use Rattle.pp_model.specs.Names.{Name}
use Rattle.pp_model.specs.Definitions.{Definitions}
use Rattle.pp_model.specs.SpliceList.{macro_before, outermost_call}
use Rattle.pp_model.specs.Reading.{Reading, Expander, Opening, opening, argument_reading, reading_of}
use Rattle.pp_model.specs.Taking.{Takes}
use Rattle.pp_model.specs.Calls.{Answers, Site, misfit, no_call, refused, fits, Calls}
use Rattle.pp_model.specs.declared.numbering.Numbering.{Numbering}
use Rattle.pp_model.specs.declared.read.Read.{Read}
use Rattle.pp_model.specs.declared.read.Taken.{Taken}
use Rattle.pp_model.specs.declared.read.Taken.TheVariants as taken
use Rattle.pp_model.specs.declared.splice.CallPlace.{CallPlace}
use Rattle.pp_model.specs.declared.splice.Entry.{Entry}

-- where the macro is called whose name this token of this text is, if `__LINE__` gives this line within it
abbrev pub called_at : ℕ → Token → ℕ → CallPlace
called_at text token line = record { name = token.location; text = text; line = line }

-- the macro's replacement before the list
abbrev pub with_macro : {R : Type 0} → Opening → ℕ → List (List Read) → Expander R → Expander R
with_macro m line arguments expander =
    record expander { list = macro_before m.name m.definition (called_at m.text m.token line) arguments expander.list }

-- what is found while these entries are left: an error is in the call of the outermost macro that is open among them
-- or, if none is, in the call that it has
abbrev pub found_among : List Entry → Taken → Taken
found_among entries (taken.Fault fault) = taken.Fault (fault_in (outermost_call entries) fault)
found_among entries o = o

-- The next item: a token that opens no macro, an error or the end. `A` says what calls give.
pub data Emits {R : Type 0} (I : Reading R) (A : Answers) : Expander R → Taken → Expander R → Type 0 where
  -- what opens no macro is the item
  itself : (x o : Taken) (e f : Expander R)
      → Takes I e x f → opening I f x ≡ None
      → o ≡ found_among f.list x
      → Emits I A e o f
  -- an object-like macro is replaced
  object : (x o : Taken) (m : Opening) (e f h : Expander R)
      → Takes I e x f → opening I f x ≡ Some m
      → m.definition.function_like ≡ false
      → Emits I A (with_macro m m.token.location.line [] f) o h
      → Emits I A e o h
  -- the name of a function-like macro without a call is the item; what was taken in place of its `(` comes next
  name_alone : (x y o : Taken) (m : Opening) (e f g h : Expander R)
      → Takes I e x f → opening I f x ≡ Some m
      → m.definition.function_like ≡ true
      → Calls I A m.definition f (no_call y) g
      → o ≡ x → h ≡ record g { held = Some y }
      → Emits I A e o h
  -- the fault of a call is the item
  call_refused : (x o : Taken) (fault : PlacedFault) (m : Opening) (e f g : Expander R)
      → Takes I e x f → opening I f x ≡ Some m
      → m.definition.function_like ≡ true
      → Calls I A m.definition f (refused fault) g
      → o ≡ found_among g.list (taken.Fault fault)
      → Emits I A e o g
  -- a call is replaced
  call : (x o : Taken) (arguments : List (List Read)) (line : ℕ) (m : Opening) (e f g h : Expander R)
      → Takes I e x f → opening I f x ≡ Some m
      → m.definition.function_like ≡ true
      → Calls I A m.definition f (fits arguments line) g
      → Emits I A (with_macro m line arguments g) o h
      → Emits I A e o h

-- the list with this before it, or the fault in place of the list
abbrev pub first_before : {A E : Type 0} → A → Result (List A) E → Result (List A) E
first_before first rest = rest >>= λ others. Ok (first ∷ others)

-- the items up to the end, or the first error
pub data Collects {R : Type 0} (I : Reading R) (A : Answers)
    : Expander R → Result (List Read) PlacedFault → Type 0 where
  done : (e f : Expander R) (out : Result (List Read) PlacedFault)
      → Emits I A e taken.End f
      → out ≡ Ok []
      → Collects I A e out
  failed : (fault : PlacedFault) (e f : Expander R) (out : Result (List Read) PlacedFault)
      → Emits I A e (taken.Fault fault) f
      → out ≡ Err fault
      → Collects I A e out
  item : (read : Read) (rest out : Result (List Read) PlacedFault) (e f : Expander R)
      → Emits I A e (taken.Token read) f
      → Collects I A f rest
      → out ≡ first_before read rest
      → Collects I A e out

-- what a list of tokens expands to alone, if its lines are numbered so, these definitions are visible and these names
-- are open around
abbrev pub Alones : Type 1
Alones = List Read → Numbering → Definitions → List Name → Result (List Read) PlacedFault → Type 0

-- the arguments from left to right, each alone, or the first fault
pub data Each (deeper : Alones) (numbering : Numbering) (visible : Definitions) (hidden : List Name)
    : List (List Read) → Result (List (List Read)) PlacedFault → Type 0 where
  none : (out : Result (List (List Read)) PlacedFault) → out ≡ Ok [] → Each deeper numbering visible hidden [] out
  first_failed : (argument : List Read) (arguments : List (List Read)) (fault : PlacedFault)
      (out : Result (List (List Read)) PlacedFault)
      → deeper argument numbering visible hidden (Err fault)
      → out ≡ Err fault
      → Each deeper numbering visible hidden (argument ∷ arguments) out
  more : (argument expanded : List Read) (arguments : List (List Read))
      (rest out : Result (List (List Read)) PlacedFault)
      → deeper argument numbering visible hidden (Ok expanded)
      → Each deeper numbering visible hidden arguments rest
      → out ≡ first_before expanded rest
      → Each deeper numbering visible hidden (argument ∷ arguments) out

-- what calls give: a wrong number of arguments is a fault, and any other call gives what `Fitting` says
abbrev pub answers_by : (Site → Result (List (List Read)) PlacedFault → Type 0) → Answers
answers_by Fitting definition site out =
    MatchOption (misfit definition.parameters site.arguments)
    (Fitting site out)
    (λ error. out ≡ Err (error, site.paren))

-- what a list of tokens expands to alone, if calls have these answers
abbrev pub alone_by : Answers → Alones
alone_by A tokens numbering visible hidden out =
    Collects argument_reading A (reading_of tokens numbering visible hidden) out

-- what the arguments of a call give, if arguments may be expanded inside one another this many levels deeper
abbrev pub ExpandsArguments : ℕ → Site → Result (List (List Read)) PlacedFault → Type 0
ExpandsArguments zero site out = out ≡ Err (RecursionLimitReached, site.paren)
ExpandsArguments (suc levels) site out =
    Each (alone_by (answers_by (ExpandsArguments levels))) site.numbering site.visible site.open_around site.arguments
    out

-- what calls give, if arguments may be expanded inside one another this many levels deeper
abbrev pub answers_at : ℕ → Answers
answers_at levels = answers_by (ExpandsArguments levels)

-- the same of a list of tokens alone
abbrev pub Alone : ℕ → Alones
Alone levels = alone_by (answers_at levels)

-- how many levels deep arguments may be expanded inside one another
unfoldable pub expansion_limit : ℕ
expansion_limit = 128
