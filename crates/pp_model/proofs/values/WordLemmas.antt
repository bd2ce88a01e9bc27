-- The words of a line, read one after another.
use Rattle.std.proofs.Common.{◌≡◌, ◌∷◌, ◌++◌, [], List, refl, ap, append_assoc}
use Rattle.std.specs.Prelude.{if◌then◌else◌, Option, Some, Result, Ok, Err, Bool, true, false}
use Rattle.std.proofs.lemmas.List.{append-nil}
use Rattle.pp_model.specs.declared.place.Place.{Place}
use Rattle.pp_model.specs.Places.{PlacedFault, fault_in}
use Rattle.pp_model.specs.ItemCall.{item_call}
use Rattle.pp_model.specs.Reading.{Expander, Listed, line_reading}
use Rattle.pp_model.specs.Taking.{Takes}
use Rattle.pp_model.specs.Calls.{Answers}
use Rattle.pp_model.specs.Emitting.{Emits}
use Rattle.pp_model.specs.Names.{Name}
use Rattle.pp_model.specs.LineWords.{Words, word_before, InParentheses, name_in, is_defined, unwanted_closing}
use Rattle.pp_model.specs.inner.LineWords.{is_close_paren}
use Rattle.pp_model.specs.inner.WordsRead.{Closes}
use Rattle.pp_model.specs.declared.read.Taken.{Taken}
use Rattle.pp_model.specs.declared.word.LineKind.{LineKind}
use Rattle.pp_model.specs.declared.word.Word.{Word}
use Rattle.pp_model.proofs.values.OperandCases.{named}

-- the words so far, and then those of the rest
abbrev pub after_words : List Word → Words → Words
after_words words rest = record rest { words = words ++ rest.words }

pub after_words-before : (words : List Word) (w : Word) (rest : Words) → after_words words (word_before w rest) ≡ after_words (words ++ w ∷ []) rest
after_words-before words w rest = rw append_assoc refl

pub after_words-end : (words : List Word) (ending : Option PlacedFault)
    → after_words words (record { words = []; ending = ending }) ≡ record { words = words; ending = ending }
after_words-end words ending = ap (λ (ws : List Word). let r : Words = record { words = ws; ending = ending } in r) (append-nil words)

-- the answer after a `)`, and the fault of what is none
module _ (kind : LineKind) (directive : Place) (A : Answers) (n : Name) (found : Taken) (e f : Expander Listed) (emits : Emits line_reading A e found f)
  where
    closes_by : (b : Bool) → is_close_paren found ≡ b → Closes kind directive A n e
        (if b then Ok (is_defined f n) else Err (fault_in (item_call emits) (unwanted_closing kind directive found))) f
    closes_by b is = record { found = found; emits = emits; answer = rw is refl }

    pub closes : (answer : Bool) → is_close_paren found ≡ true → answer ≡ is_defined f n → Closes kind directive A n e (Ok answer) f
    closes answer close is = rw is (closes_by true close)

    pub does_not_close : (fault : PlacedFault) → is_close_paren found ≡ false → fault ≡ fault_in (item_call emits) (unwanted_closing kind directive found)
        → Closes kind directive A n e (Err fault) f
    does_not_close fault still is = rw is (closes_by false still)

-- an operand in parentheses whose name was taken
pub closes_named : (kind : LineKind) (directive : Place) (A : Answers) (n : Name) (o : Taken) (e f g : Expander Listed) (r : Result Bool PlacedFault)
    → Takes line_reading e o f → name_in o ≡ Some n → Closes kind directive A n f r g → InParentheses kind directive A e r g
closes_named kind directive A n o e f g r takes is closed = named kind directive A o closed.found n e f g r takes is closed.emits closed.answer
