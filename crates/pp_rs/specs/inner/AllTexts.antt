-- The errors of the lexer in the text that is read and in those around it.
use Rattle.std.specs.Prelude.{List, [], ◌∷◌, ◌++◌}
use Rattle.pp_macros.specs.LexerErrors.{ErrorAt, errors_among}
use Rattle.pp_macros.specs.inner.Source.{SuspendedText, Source, unreported_of}
use Rattle.pp_macros.specs.inner.Unreported.{Unreported}

-- those that are still to be read in these texts
abbrev pub errors_around : List SuspendedText → List ErrorAt
errors_around [] = []
errors_around (text ∷ texts) = errors_among text.rest text.places ++ errors_around texts

-- with these after those that are still to be read
abbrev pub with_later : List ErrorAt → Unreported → Unreported
with_later errors u = record u { later = u.later ++ errors }

-- those of all texts that were not reported yet
abbrev pub all_unreported : Source → Unreported
all_unreported source = with_later (errors_around source.around) (unreported_of source)
