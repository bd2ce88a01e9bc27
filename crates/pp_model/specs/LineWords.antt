-- The words of an `#if`, `#elif` or `#line` line (GLSL ES 3.20, section 3.4, and docs/RULES.md, Expressions 1 to 3).
use Rattle.std.specs.Prelude.{◌≡◌, pos, Bool, true, false, if◌then◌else◌, List, [], ◌∷◌, Option, Some, None, is_some}
use Rattle.std.specs.Prelude.{MatchOption, Result, Ok, Err}
use Rattle.pp_model.specs.declared.place.Place.{Place}
use Rattle.pp_lexer.specs.declared.token.PreprocessorError.TheVariants.{UnexpectedToken, UnexpectedEndOfInput}
use Rattle.pp_lexer.specs.declared.token.TokenValue.{TokenValue}
use Rattle.pp_lexer.specs.declared.token.TokenValue.TheVariants.{Ident, Integer}
use Rattle.pp_model.specs.Places.{PlacedFault, place_of, place_in, fault_in}
use Rattle.pp_model.specs.Names.{Name, is_same_name, defined_name}
use Rattle.pp_model.specs.SpliceList.{outermost_call}
use Rattle.pp_model.specs.Reading.{Expander, Listed, line_reading}
use Rattle.pp_model.specs.Taking.{Takes}
use Rattle.pp_model.specs.Calls.{Answers, is_right_paren, paren_at}
use Rattle.pp_model.specs.Emitting.{Emits}
use Rattle.pp_model.specs.ItemCall.{item_call}
use Rattle.pp_model.specs.declared.read.Read.{Read}
use Rattle.pp_model.specs.declared.read.Taken.{Taken}
use Rattle.pp_model.specs.declared.read.Taken.TheVariants as taken
use Rattle.pp_model.specs.declared.splice.CallPlace.{CallPlace}
use Rattle.pp_model.specs.declared.word.LineKind.{LineKind}
use Rattle.pp_model.specs.declared.word.LineKind.TheVariants.{Condition, LineNumber}
use Rattle.pp_model.specs.declared.word.Word.{Word}
use Rattle.pp_model.specs.declared.word.Word.TheVariants.{Plain, Defined}

-- a token of the expanded line: the operator `defined`, a word, or the fault of an unknown name
pub data WordReading : Type 0 where
  operator : WordReading
  word : Read → WordReading
  fault : PlacedFault → WordReading

abbrev pub unexpected : Read → PlacedFault
unexpected read = (UnexpectedToken read.token.value, place_of read)

-- an identifier that opens no macro is 0, signed and 64 bits wide; in a `#line` it is refused
abbrev pub unknown_name : LineKind → Read → WordReading
unknown_name Condition read =
    let zero = Integer (record { value = 0; signed = true; width = pos 64 }) in
    word (record read { token = record { value = zero; location = read.token.location } })
unknown_name LineNumber read = fault (unexpected read)

abbrev pub reading_of_value : LineKind → Read → TokenValue → WordReading
reading_of_value kind read (Ident name) = if is_same_name name defined_name then operator else unknown_name kind read
reading_of_value kind read _ = word read

abbrev pub reading : LineKind → Read → WordReading
reading kind read = reading_of_value kind read read.token.value

-- the fault of what was taken in place of a part of `defined`; that of the end is at the directive's word
abbrev pub unwanted_part : Place → Taken → PlacedFault
unwanted_part directive (taken.Token read) = unexpected read
unwanted_part directive (taken.Fault f) = f
unwanted_part directive taken.End = (UnexpectedEndOfInput, directive)

-- the same of a token of the expanded line
abbrev pub unwanted_reading : Read → WordReading → PlacedFault
unwanted_reading read operator = unexpected read
unwanted_reading read (word w) = unexpected w
unwanted_reading read (fault f) = f

abbrev pub unwanted_closing : LineKind → Place → Taken → PlacedFault
unwanted_closing kind directive (taken.Token read) = unwanted_reading read (reading kind read)
unwanted_closing kind directive o = unwanted_part directive o

abbrev pub name_in_value : TokenValue → Option Name
name_in_value (Ident name) = Some name
name_in_value _ = None

-- the name that was taken
abbrev pub name_in : Taken → Option Name
name_in (taken.Token read) = name_in_value read.token.value
name_in _ = None

-- a token was taken whose value passes
abbrev pub has_value : (TokenValue → Bool) → Taken → Bool
has_value test (taken.Token read) = test read.token.value
has_value test _ = false

abbrev pub is_defined : Expander Listed → Name → Bool
is_defined e name = is_some (e.reader.visible name)

-- the answer, if a `)` was read, and otherwise the fault of what was read in this call
abbrev pub closed_by : LineKind → Place → Bool → Option CallPlace → Taken → Result Bool PlacedFault
closed_by kind directive answer call o =
    if has_value is_right_paren o then Ok answer else Err (fault_in call (unwanted_closing kind directive o))

-- no part of `defined` was taken: what was taken in its place has a fault, in the call that is open among the line's
-- entries then, and nothing else is taken
abbrev pub IsUnwanted : Place → Taken → Expander Listed → Result Bool PlacedFault → Expander Listed
    → Type 0
IsUnwanted directive o f r g = (r ≡ Err (fault_in (outermost_call f.list) (unwanted_part directive o))) × (g ≡ f)

-- what the operand of a `defined` gives after its `(`: the name is taken and not looked up, and the `)` is read with
-- expansion
abbrev pub InParentheses : LineKind → Place → Answers
    → Expander Listed → Result Bool PlacedFault → Expander Listed → Type 0
InParentheses kind directive A e r g =
    (o : Taken) × (f : Expander Listed) × Takes line_reading e o f
    × MatchOption (name_in o) (IsUnwanted directive o f r g)
    (λ n. (x : Taken) × (emits : Emits line_reading A f x g)
    × (r ≡ closed_by kind directive (is_defined g n) (item_call emits) x))

-- what the operand of a `defined` gives: it is a name, alone or in parentheses. The name or the `(` is taken and not
-- looked up.
abbrev pub Operand : LineKind → Place → Answers
    → Expander Listed → Result Bool PlacedFault → Expander Listed → Type 0
Operand kind directive A e r g =
    (o : Taken) × (f : Expander Listed) × Takes line_reading e o f
    × MatchOption (paren_at o)
    (MatchOption (name_in o) (IsUnwanted directive o f r g)
    (λ n. (r ≡ Ok (is_defined f n)) × (g ≡ f)))
    (λ paren. InParentheses kind directive A f r g)

-- the words of a line, and the fault of reading that ends them, if one does
pub record Words : Type 0 where
  pub words : List Word
  pub ending : Option PlacedFault

abbrev pub word_before : Word → Words → Words
word_before w rest = record rest { words = w ∷ rest.words }

-- a token of the line as a word, with the call that it comes from if a macro gave it
abbrev pub word_of : Option CallPlace → Read → Word
word_of call read = Plain read.token.value (place_in call (place_of read))

-- The words of the rest of a line, after expansion. After a `defined` whose operand has a fault nothing is read.
pub data LineWords (kind : LineKind) (directive : Place) (A : Answers) : Expander Listed → Words → Type 0 where
  ended : (e f : Expander Listed) (ws : Words)
      → Emits line_reading A e taken.End f
      → ws ≡ record { words = []; ending = None }
      → LineWords kind directive A e ws
  failed : (f : PlacedFault) (e g : Expander Listed) (ws : Words)
      → Emits line_reading A e (taken.Fault f) g
      → ws ≡ record { words = []; ending = Some f }
      → LineWords kind directive A e ws
  refused : (read : Read) (f : PlacedFault) (e g : Expander Listed) (ws : Words)
      (emits : Emits line_reading A e (taken.Token read) g) → reading kind read ≡ fault f
      → ws ≡ record { words = []; ending = Some (fault_in (item_call emits) f) }
      → LineWords kind directive A e ws
  plain : (read w : Read) (e g : Expander Listed) (rest ws : Words)
      (emits : Emits line_reading A e (taken.Token read) g) → reading kind read ≡ word w
      → LineWords kind directive A g rest
      → ws ≡ word_before (word_of (item_call emits) w) rest
      → LineWords kind directive A e ws
  answered : (read : Read) (answer : Bool) (e g h : Expander Listed) (rest ws : Words)
      (emits : Emits line_reading A e (taken.Token read) g) → reading kind read ≡ operator
      → Operand kind directive A g (Ok answer) h
      → LineWords kind directive A h rest
      → ws ≡ word_before (Defined (place_in (item_call emits) (place_of read)) (Ok answer)) rest
      → LineWords kind directive A e ws
  faulty : (read : Read) (f : PlacedFault) (e g h : Expander Listed) (ws : Words)
      (emits : Emits line_reading A e (taken.Token read) g) → reading kind read ≡ operator
      → Operand kind directive A g (Err f) h
      → ws ≡ record { words = Defined (place_in (item_call emits) (place_of read)) (Err f) ∷ []; ending = None }
      → LineWords kind directive A e ws
