-- What the program prints on the standard error, and its exit status, at each end of a run
use Rattle.std.specs.Prelude.{ℕ, List, [], ◌++◌, codes, Result, Ok, Err}
use Rattle.std.specs.Fmt.{decimal}
use Rattle.pp_rs.specs.PreprocessorError.{name_of}
use Rattle.pp_rs.specs.declared.token.Location.{Location}
use Rattle.pp_rs.specs.declared.token.PreprocessorError.{PreprocessorError}
use Rattle.pp_print.specs.declared.ends.RunEnd.{RunEnd}
use Rattle.pp_print.specs.declared.ends.RunEnd.TheVariants.{Done, Stopped}
use Rattle.pp_print.specs.declared.ends.RunFault.{RunFault}
use Rattle.pp_print.specs.declared.ends.RunFault.TheVariants.{ReadFailed, TooLong, NotUtf8, BadWord, WriteFailed}
use Rattle.pp_print.specs.declared.ends.RunFault.TheVariants.{OutOfMemory}

-- the exit status: 0 for a whole run, 1 for an error in the source, 2 for a fault of the run
abbrev pub status_of : Result RunEnd RunFault → ℕ
status_of (Ok Done) = 0
status_of (Ok (Stopped _ _)) = 1
status_of (Err _) = 2

-- `error NAME START END`: the message of an error in the source, with its place in decimal digits
abbrev pub error_line_of : PreprocessorError → Location → List ℕ
error_line_of error location =
    codes "error " ++ name_of error ++ codes " " ++ decimal location.start ++ codes " " ++ decimal location.end

-- the message of a fault of the run
abbrev pub fault_text_of : RunFault → List ℕ
fault_text_of ReadFailed = codes "read failed"
fault_text_of TooLong = codes "input too long"
fault_text_of NotUtf8 = codes "not UTF-8"
fault_text_of BadWord = codes "bad word"
fault_text_of WriteFailed = codes "write failed"
fault_text_of OutOfMemory = codes "out of memory"

-- the line on the standard error, empty for a whole run
abbrev pub message_of : Result RunEnd RunFault → List ℕ
message_of (Ok Done) = []
message_of (Ok (Stopped error location)) = error_line_of error location
message_of (Err fault) = codes "pp_print: " ++ fault_text_of fault
