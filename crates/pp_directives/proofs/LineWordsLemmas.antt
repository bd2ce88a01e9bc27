-- The words of a line, as the code reads them one after another.
use Rattle.std.proofs.Common.{◌≡◌, ℕ, List, [], ◌∷◌, ◌++◌, refl, subst, Option, Some, None}
use Rattle.std.specs.Prelude.{Ok, Err, Bool}
use Rattle.pp_model.specs.declared.place.Place.{Place}
use Rattle.pp_model.specs.Places.{PlacedFault, fault_in, place_in, place_of}
use Rattle.pp_model.specs.Reading.{line_reading}
use Rattle.pp_model.specs.Emitting.{Emits, answers_at}
use Rattle.pp_model.specs.ItemCall.{item_call}
use Rattle.pp_model.specs.LineWords.{LineWords, Words, reading, word_before, word_of}
use Rattle.pp_model.specs.LineWords as line
use Rattle.pp_model.specs.declared.read.Read.{Read}
use Rattle.pp_model.specs.declared.read.Taken.TheVariants as given
use Rattle.pp_model.specs.declared.word.LineKind.{LineKind}
use Rattle.pp_model.specs.declared.word.Word.{Word}
use Rattle.pp_model.specs.declared.word.Word.TheVariants.{Defined}
use Rattle.pp_model.proofs.values.WordLemmas.{after_words, after_words-before, after_words-end}
use Rattle.pp_macros.specs.inner.Defined as definitions
use Rattle.pp_directives.specs.inner.LineItems.{IsOnLine, ReadsItem, ReadsOperand, expander_of, taken_of_read}
use Rattle.pp_directives.specs.declared.line_words.LineItem.{LineItem}
use Rattle.pp_macros.specs.inner.Expander.{Expander}
use Rattle.pp_macros.specs.inner.Reader.{Listing}
use Rattle.pp_macros.specs.declared.halt.PlacedHalt.TheVariants as halt
use Rattle.pp_model.specs.declared.numbering.Numbering.{Numbering}

-- What the reading of a line has reached: its words so far, after which those from here on come.
pub record WordsOn (kind : LineKind) (directive : Place) (levels : ℕ) (numbering : Numbering) (defined : List definitions.Defined)
    (m : Expander) (l : Listing) (words : List Word) (n : Expander) (k : Listing) : Type 0 where
  pub goes_on : (rest : Words) → LineWords kind directive (answers_at levels) (expander_of n k) rest
      → LineWords kind directive (answers_at levels) (expander_of m l) (after_words words rest)
  pub stands : IsOnLine numbering defined n k

pub words_start : (kind : LineKind) (directive : Place) (levels : ℕ) (numbering : Numbering) (defined : List definitions.Defined)
    (m : Expander) (l : Listing) (words : List Word) → IsOnLine numbering defined m l → words ≡ [] → WordsOn kind directive levels numbering defined m l words m l
words_start kind directive levels numbering defined m l words on none = rw none (record { goes_on = λ rest h. h; stands = on })

module _ (kind : LineKind) (directive : Place) (levels : ℕ) (numbering : Numbering) (defined : List definitions.Defined) (m : Expander) (l : Listing) (words : List Word)
    (n : Expander) (k : Listing) (on : WordsOn kind directive levels numbering defined m l words n k) (p : Expander) (q : Listing) where
  -- the words so far with what ends them are those of the line
  end_with : (ending : Option PlacedFault) (w : Words) → w ≡ record { words = words; ending = ending }
      → LineWords kind directive (answers_at levels) (expander_of n k) (record { words = []; ending = ending })
      → LineWords kind directive (answers_at levels) (expander_of m l) w
  end_with ending w is h = rw (is, ← after_words-end words ending) (on.goes_on (record { words = []; ending = ending }) h)

  pub words_end : (o : LineItem) (w : Words) → ReadsItem levels numbering defined n k (Ok o) p q → o.found ≡ None → w ≡ record { words = words; ending = None }
      → LineWords kind directive (answers_at levels) (expander_of m l) w
  words_end o w item at is =
      let emits : Emits line_reading (answers_at levels) (expander_of n k) given.End (expander_of p q) = rw at at item.0.0 in
      end_with None w is (line.ended (expander_of n k) (expander_of p q) (record { words = []; ending = None }) emits refl)

  pub words_fault : (fault : PlacedFault) (w : Words) → ReadsItem levels numbering defined n k (Err (halt.Fault fault)) p q
      → w ≡ record { words = words; ending = Some fault } → LineWords kind directive (answers_at levels) (expander_of m l) w
  words_fault fault w item is = end_with (Some fault) w is (line.failed fault (expander_of n k) item.0 (record { words = []; ending = Some fault }) item.1.0 refl)

  module _ (o : LineItem) (read : Read) (item : ReadsItem levels numbering defined n k (Ok o) p q) (at : o.found ≡ Some read) where
    -- the token, with its call
    token : (emits : Emits line_reading (answers_at levels) (expander_of n k) (given.Token read) (expander_of p q)) × (item_call emits ≡ o.call)
    token = subst (λ (found : Option Read). (emits : Emits line_reading (answers_at levels) (expander_of n k) (taken_of_read found) (expander_of p q))
        × (item_call emits ≡ o.call)) at item.0

    pub words_refused : (fault : PlacedFault) (w : Words) → reading kind read ≡ line.fault fault → w ≡ record { words = words; ending = Some (fault_in o.call fault) }
        → LineWords kind directive (answers_at levels) (expander_of m l) w
    words_refused fault w reads is =
        let found = fault_in o.call fault in
        end_with (Some found) w is (line.refused read fault (expander_of n k) (expander_of p q)
        (record { words = []; ending = Some found }) token.0 reads (rw token.1 refl))

    pub words_plain : (word : Read) (more : List Word) → reading kind read ≡ line.word word → more ≡ words ++ word_of o.call word ∷ []
        → WordsOn kind directive levels numbering defined m l more p q
    words_plain word more reads is =
        let w = word_of o.call word in
        rw is (record {
          goes_on = λ rest h. rw (← after_words-before words w rest)
              (on.goes_on (word_before w rest) (line.plain read word (expander_of n k) (expander_of p q) rest
              (word_before w rest) token.0 reads h (rw token.1 refl)));
          stands = item.1.stands;
        })

    pub words_answered : (answer : Bool) (u : Expander) (v : Listing) (more : List Word) → reading kind read ≡ line.operator
        → ReadsOperand kind directive levels numbering defined p q (Ok answer) u v → more ≡ words ++ Defined (place_in o.call (place_of read)) (Ok answer) ∷ []
        → WordsOn kind directive levels numbering defined m l more u v
    words_answered answer u v more reads operand is =
        let w : Word = Defined (place_in o.call (place_of read)) (Ok answer) in
        rw is (record {
          goes_on = λ rest h. rw (← after_words-before words w rest)
              (on.goes_on (word_before w rest) (line.answered read answer (expander_of n k) (expander_of p q) (expander_of u v) rest
              (word_before w rest) token.0 reads operand.0 h (rw token.1 refl)));
          stands = operand.1.stands;
        })

    pub words_faulty : (fault : PlacedFault) (u : Expander) (v : Listing) (more : List Word) (w : Words) → reading kind read ≡ line.operator
        → ReadsOperand kind directive levels numbering defined p q (Err (halt.Fault fault)) u v
        → more ≡ words ++ Defined (place_in o.call (place_of read)) (Err fault) ∷ []
        → w ≡ record { words = more; ending = None } → LineWords kind directive (answers_at levels) (expander_of m l) w
    words_faulty fault u v more w reads operand grown is =
        let rest : Words = record { words = Defined (place_in o.call (place_of read)) (Err fault) ∷ []; ending = None } in
        rw (is, grown) (on.goes_on rest (line.faulty read fault (expander_of n k) (expander_of p q) operand.0 rest token.0 reads operand.1 (rw token.1 refl)))
