-- What the reader of the words of an `#if`, `#elif` or `#line` line gives (docs/RULES.md, Expressions 1 to 3).
use Rattle.std.specs.Prelude.{◌≡◌, ℕ, List, [], map, Bool, Option, Some, None, Result, MatchResult, IfOk, IfSome}
use Rattle.pp_model.specs.declared.place.Place.{Place}
use Rattle.pp_lexer.specs.declared.token.Token.{Token}
use Rattle.pp_model.specs.Places.{PlacedFault}
use Rattle.pp_model.specs.declared.read.Read.{Read}
use Rattle.pp_model.specs.Painting.{read_in}
use Rattle.pp_model.specs.Names.{Name}
use Rattle.pp_model.specs.Emitting.{answers_at}
use Rattle.pp_model.specs.LineWords.{Words, LineWords, name_in, unwanted_part}
use Rattle.pp_model.specs.Reading.{reading_of}
use Rattle.pp_model.specs.declared.word.LineKind.{LineKind}
use Rattle.pp_macros.specs.inner.Defined.{Defined, meaning_of}
use Rattle.pp_directives.specs.inner.LineItems.{IsOnLine, IsWorkLess, ReadsItem, ReadsTaken, ReadsOperand}
use Rattle.pp_directives.specs.inner.LineItems.{ReadsInParentheses, ReadsClosed, expander_of, taken_of_read}
use Rattle.pp_macros.specs.inner.Nesting.{listed_in}
use Rattle.pp_macros.specs.inner.Reader.{Listing}
use Rattle.pp_macros.specs.declared.halt.PlacedHalt.{PlacedHalt}
use Rattle.pp_directives.specs.declared.line_words.WordReader.{WordReader}
use Rattle.pp_directives.specs.declared.line_words.LineExpander.{LineExpander}
use Rattle.pp_directives.specs.declared.line_words.LineItem.{LineItem}
use Rattle.pp_model.specs.declared.numbering.Numbering.{Numbering}

-- the rest of the line, as the line's processor has it
abbrev pub rest_of : LineExpander → Listing
rest_of line = listed_in line.expander.below line.lexer

-- the line is being read, with the reader's definitions
abbrev pub IsReading : WordReader → LineExpander → Type 0
IsReading reader line =
    IsOnLine reader.scope.numbering reader.scope.definitions.now line.expander.here (rest_of line)

-- the next item
abbrev pub GivesItem : WordReader → LineExpander → Result LineItem PlacedHalt → LineExpander → Type 0
GivesItem reader old result new =
    ReadsItem reader.levels reader.scope.numbering reader.scope.definitions.now old.expander.here (rest_of old)
    result new.expander.here (rest_of new)

-- if a token is given, less of the line is left after it
abbrev pub TakesOff : WordReader → LineExpander → Result LineItem PlacedHalt → LineExpander → Type 0
TakesOff reader old result new =
    IfOk result (λ item. IfSome item.found (λ read.
    IsWorkLess reader.levels old.expander.here (rest_of old) new.expander.here (rest_of new)))

-- what is taken next
abbrev pub GivesTaken : WordReader → LineExpander → Result (Option Read) PlacedHalt → LineExpander → Type 0
GivesTaken reader old result new =
    ReadsTaken reader.levels reader.scope.numbering reader.scope.definitions.now old.expander.here (rest_of old)
    result new.expander.here (rest_of new)

-- the name of an identifier, or the fault of anything else, if a part of `defined` is needed here
abbrev pub IsNameOrFault : Place → Option Read → Result Name PlacedFault → Type 0
IsNameOrFault directive found result =
    MatchResult result (λ name. name_in (taken_of_read found) ≡ Some name)
    (λ fault. (name_in (taken_of_read found) ≡ None) × (fault ≡ unwanted_part directive (taken_of_read found)))

-- what the operand of a `defined` gives; the same after its `(`; and after the `(` and the name
abbrev pub GivesOperand : WordReader → LineExpander → Result Bool PlacedHalt → LineExpander → Type 0
GivesOperand reader old result new =
    ReadsOperand reader.kind reader.directive reader.levels reader.scope.numbering reader.scope.definitions.now
    old.expander.here (rest_of old) result new.expander.here (rest_of new)

abbrev pub GivesInParentheses : WordReader → LineExpander → Result Bool PlacedHalt → LineExpander → Type 0
GivesInParentheses reader old result new =
    ReadsInParentheses reader.kind reader.directive reader.levels reader.scope.numbering reader.scope.definitions.now
    old.expander.here (rest_of old) result new.expander.here (rest_of new)

abbrev pub GivesClosed : WordReader → Name → LineExpander → Result Bool PlacedHalt → LineExpander → Type 0
GivesClosed reader name old result new =
    ReadsClosed reader.kind reader.directive reader.levels reader.scope.numbering reader.scope.definitions.now name
    old.expander.here (rest_of old) result new.expander.here (rest_of new)

-- the words that the rest of the line gives
abbrev pub AreWordsOf : WordReader → LineExpander → Words → Type 0
AreWordsOf reader line words =
    LineWords reader.kind reader.directive (answers_at reader.levels)
    (expander_of line.expander.here (rest_of line)) words

-- the words that the whole line gives
abbrev pub AreWordsOfLine : LineKind → Place → ℕ → List Token → Numbering → List Defined → Words
    → Type 0
AreWordsOfLine kind directive levels tokens numbering definitions words =
    LineWords kind directive (answers_at levels)
    (reading_of (map (read_in directive.text) tokens) numbering (meaning_of definitions) []) words
