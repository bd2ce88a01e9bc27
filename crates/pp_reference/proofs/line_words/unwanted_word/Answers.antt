use Rattle.std.proofs.Common.{◌≡◌, ◌∙◌, refl}
use Rattle.pp_model.specs.LineWords.{reading, unwanted_reading}
use Rattle.pp_model.specs.LineWords as line
use Rattle.pp_model.specs.WordReadings.{reading_named, unwanted_read, IsOf}
use Rattle.pp_model.specs.declared.read.Read.{Read}
use Rattle.pp_model.specs.declared.word.WordReading.{WordReading}
use Rattle.pp_model.specs.declared.word.WordReading.TheVariants.{Operator, Word, Refused}
use Rattle.pp_reference.proofs.line_words.unwanted_word.Goals as goal

-- the fault of what was read is that of the token that it was read from
unwanted_alike : (read : Read) (found : WordReading) (named : line.WordReading) → named ≡ reading_named found → IsOf read found
    → unwanted_read found ≡ unwanted_reading read named
unwanted_alike read (Operator operator) named is whole = rw (is, whole) refl
unwanted_alike read (Word word) named is whole = rw is refl
unwanted_alike read (Refused fault) named is whole = rw is refl

pub returns-in-Token : goal.returns-in-Token
returns-in-Token c =
    let read = c.in-Token.read in
    c.unwanted_reading.ensures
    ∙ rw c.in-Token.is
    (unwanted_alike read c.reading_of.result (reading c.args.kind read) c.reading_of.ensures.reads c.reading_of.ensures.whole)
