-- What a token of an expanded line is, as a program says it (docs/RULES.md, Expressions 2 and 3).
use Rattle.std.specs.Prelude.{◌≡◌, ⊤}
use Rattle.pp_model.specs.Places.{PlacedFault}
use Rattle.pp_model.specs.declared.read.Read.{Read}
use Rattle.pp_model.specs.LineWords.{unexpected}
use Rattle.pp_model.specs.LineWords as line
use Rattle.pp_model.specs.declared.word.WordReading.{WordReading}
use Rattle.pp_model.specs.declared.word.WordReading.TheVariants.{Operator, Word, Refused}

abbrev pub reading_named : WordReading → line.WordReading
reading_named (Operator operator) = line.operator
reading_named (Word word) = line.word word
reading_named (Refused fault) = line.fault fault

-- the token of an operator is the token that was read
abbrev pub IsOf : Read → WordReading → Type 0
IsOf read (Operator operator) = operator ≡ read
IsOf read (Word word) = ⊤
IsOf read (Refused fault) = ⊤

-- the fault of what was read in place of a part of `defined`
abbrev pub unwanted_read : WordReading → PlacedFault
unwanted_read (Operator operator) = unexpected operator
unwanted_read (Word word) = unexpected word
unwanted_read (Refused fault) = fault
