-- The words of a line whose next item is a token, with the call that it comes from.
use Rattle.std.proofs.Common.{◌≡◌, Bool, [], ◌∷◌, refl, subst}
use Rattle.std.specs.Prelude.{Some, None, Ok, Err}
use Rattle.pp_model.specs.declared.place.Place.{Place}
use Rattle.pp_model.specs.Places.{PlacedFault, place_of, place_in, fault_in}
use Rattle.pp_model.specs.Reading.{Expander, Listed, line_reading}
use Rattle.pp_model.specs.Calls.{Answers}
use Rattle.pp_model.specs.LineWords.{operator, word, fault, reading, Operand, Words, word_before, word_of, LineWords, refused, plain, answered, faulty}
use Rattle.pp_model.specs.declared.read.Read.{Read}
use Rattle.pp_model.specs.declared.read.Taken.{Taken}
use Rattle.pp_model.specs.declared.read.Taken.TheVariants as taken
use Rattle.pp_model.specs.declared.word.LineKind.{LineKind}
use Rattle.pp_model.specs.declared.word.Word.TheVariants.{Defined}
use Rattle.pp_reference.specs.inner.Seen.{EmitsFrom}
use Rattle.pp_reference.specs.declared.emitted.Emitted.{Emitted}

module _ (kind : LineKind) (directive : Place) (A : Answers) (e g : Expander Listed) (item : Emitted) (read : Read)
    (is : item.taken ≡ taken.Token read) (from : EmitsFrom line_reading A e item g) where
  -- the token is the item
  token_from : EmitsFrom line_reading A e (record { taken = taken.Token read; call = item.call }) g
  token_from = subst (λ (o : Taken). EmitsFrom line_reading A e (record { taken = o; call = item.call }) g) is from

  pub refused_from : (f : PlacedFault) → reading kind read ≡ fault f
      → LineWords kind directive A e (record { words = []; ending = Some (fault_in item.call f) })
  refused_from f reads = refused read f e g _ token_from.emits reads (rw token_from.call refl)

  pub plain_from : (w : Read) (rest : Words) → reading kind read ≡ word w → LineWords kind directive A g rest
      → LineWords kind directive A e (word_before (word_of item.call w) rest)
  plain_from w rest reads words = plain read w e g rest _ token_from.emits reads words (rw token_from.call refl)

  pub answered_from : (answer : Bool) (h : Expander Listed) (rest : Words) → reading kind read ≡ operator → Operand kind directive A g (Ok answer) h
      → LineWords kind directive A h rest
      → LineWords kind directive A e (word_before (Defined (place_in item.call (place_of read)) (Ok answer)) rest)
  answered_from answer h rest reads operand words =
      answered read answer e g h rest _ token_from.emits reads operand words (rw token_from.call refl)

  pub faulty_from : (f : PlacedFault) (h : Expander Listed) → reading kind read ≡ operator → Operand kind directive A g (Err f) h
      → LineWords kind directive A e (record { words = Defined (place_in item.call (place_of read)) (Err f) ∷ []; ending = None })
  faulty_from f h reads operand = faulty read f e g h _ token_from.emits reads operand (rw token_from.call refl)
