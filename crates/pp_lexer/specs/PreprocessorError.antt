-- The names of the errors, and the one error that the source isn't to blame for.
use Rattle.std.specs.Prelude.{ℕ, List, codes, Bool, false}
use Rattle.pp_lexer.specs.TokenValue.{holds_memory}
use Rattle.pp_lexer.specs.Location.{nowhere}
use Rattle.pp_lexer.specs.declared.token.Location.{Location}
use Rattle.pp_lexer.specs.declared.token.PreprocessorError.{PreprocessorError}
use Rattle.pp_lexer.specs.declared.token.PreprocessorError.TheVariants.{IntegerOverflow, FloatParsingError}
use Rattle.pp_lexer.specs.declared.token.PreprocessorError.TheVariants.{UnexpectedCharacter, UnexpectedToken}
use Rattle.pp_lexer.specs.declared.token.PreprocessorError.TheVariants.{UnexpectedHash, UnexpectedNewLine}
use Rattle.pp_lexer.specs.declared.token.PreprocessorError.TheVariants.{UnexpectedEndOfInput, TooFewDefineArguments}
use Rattle.pp_lexer.specs.declared.token.PreprocessorError.TheVariants.{TooManyDefineArguments, ErrorDirective}
use Rattle.pp_lexer.specs.declared.token.PreprocessorError.TheVariants.{DuplicateParameter, UnknownDirective}
use Rattle.pp_lexer.specs.declared.token.PreprocessorError.TheVariants.{DefineRedefined, ElifOutsideOfBlock}
use Rattle.pp_lexer.specs.declared.token.PreprocessorError.TheVariants.{ElseOutsideOfBlock, EndifOutsideOfBlock}
use Rattle.pp_lexer.specs.declared.token.PreprocessorError.TheVariants.{ElifAfterElse, MoreThanOneElse, UnfinishedBlock}
use Rattle.pp_lexer.specs.declared.token.PreprocessorError.TheVariants.{LineOverflow, NotSupported16BitLiteral}
use Rattle.pp_lexer.specs.declared.token.PreprocessorError.TheVariants.{NotSupported64BitLiteral, MacroNotDefined}
use Rattle.pp_lexer.specs.declared.token.PreprocessorError.TheVariants.{RecursionLimitReached, DivisionByZero}
use Rattle.pp_lexer.specs.declared.token.PreprocessorError.TheVariants.{RemainderByZero, OutOfMemory}

-- the variant's name as ASCII text, without what the variant holds
abbrev pub name_of : PreprocessorError → List ℕ
name_of IntegerOverflow = codes "IntegerOverflow"
name_of FloatParsingError = codes "FloatParsingError"
name_of UnexpectedCharacter = codes "UnexpectedCharacter"
name_of (UnexpectedToken v) = codes "UnexpectedToken"
name_of UnexpectedHash = codes "UnexpectedHash"
name_of UnexpectedNewLine = codes "UnexpectedNewLine"
name_of UnexpectedEndOfInput = codes "UnexpectedEndOfInput"
name_of TooFewDefineArguments = codes "TooFewDefineArguments"
name_of TooManyDefineArguments = codes "TooManyDefineArguments"
name_of ErrorDirective = codes "ErrorDirective"
name_of DuplicateParameter = codes "DuplicateParameter"
name_of UnknownDirective = codes "UnknownDirective"
name_of DefineRedefined = codes "DefineRedefined"
name_of ElifOutsideOfBlock = codes "ElifOutsideOfBlock"
name_of ElseOutsideOfBlock = codes "ElseOutsideOfBlock"
name_of EndifOutsideOfBlock = codes "EndifOutsideOfBlock"
name_of ElifAfterElse = codes "ElifAfterElse"
name_of MoreThanOneElse = codes "MoreThanOneElse"
name_of UnfinishedBlock = codes "UnfinishedBlock"
name_of LineOverflow = codes "LineOverflow"
name_of NotSupported16BitLiteral = codes "NotSupported16BitLiteral"
name_of NotSupported64BitLiteral = codes "NotSupported64BitLiteral"
name_of MacroNotDefined = codes "MacroNotDefined"
name_of RecursionLimitReached = codes "RecursionLimitReached"
name_of DivisionByZero = codes "DivisionByZero"
name_of RemainderByZero = codes "RemainderByZero"
name_of OutOfMemory = codes "OutOfMemory"

-- the error of a failed allocation, and its place
abbrev pub out_of_memory : PreprocessorError × Location
out_of_memory = (OutOfMemory, nowhere)

-- whether the error holds a text or a list, so that a copy of it takes memory
abbrev pub error_holds_memory : PreprocessorError → Bool
error_holds_memory (UnexpectedToken value) = holds_memory value
error_holds_memory _ = false
