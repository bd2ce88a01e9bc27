-- An error with its place as one value.
use Rattle.std.specs.Prelude.{ℕ, List, ◌++◌, Bool, ◌&&◌, ◌==◌, codes, if◌then◌else◌}
use Rattle.std.specs.Fmt.{decimal}
use Rattle.std.specs.declared.io.ErrorKind.{ErrorKind}
use Rattle.std.specs.declared.io.ErrorKind.TheVariants.{InvalidData, OutOfMemory as RefusedMemory}
use Rattle.pp_lexer.specs.Sentences.{sentence_of}
use Rattle.pp_lexer.specs.declared.token.Location.{Location}
use Rattle.pp_lexer.specs.declared.token.placed_error.PlacedError.{PlacedError}
use Rattle.pp_lexer.specs.declared.token.PreprocessorError.{PreprocessorError}
use Rattle.pp_lexer.specs.declared.token.PreprocessorError.TheVariants.{OutOfMemory}

-- the pair as one value
abbrev pub placed : PreprocessorError × Location → PlacedError
placed pair = record { error = pair.0; place = pair.1 }

-- whether this is the place of what is nowhere in the source
abbrev pub is_nowhere : Location → Bool
is_nowhere place = (place.start == 0) && ((place.end == 0) && (place.line == 1))

-- the line of the error, unless it is nowhere in the source, and the error's sentence, as UTF-8
abbrev pub placed_sentence : PlacedError → List ℕ
placed_sentence e =
    if is_nowhere e.place then sentence_of e.error
    else codes "line " ++ decimal e.place.line ++ codes ": " ++ sentence_of e.error

-- the kind of the error of input and output that this error becomes
abbrev pub io_kind : PreprocessorError → ErrorKind
io_kind OutOfMemory = RefusedMemory
io_kind _ = InvalidData
