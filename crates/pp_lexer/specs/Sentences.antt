-- The sentence of each error.
use Rattle.std.specs.Prelude.{ℕ, List, [], ◌++◌, codes}
use Rattle.std.specs.Str.{encode_utf8_all}
use Rattle.pp_lexer.specs.ItemText.{item_text}
use Rattle.pp_lexer.specs.declared.token.PreprocessorError.{PreprocessorError}
use Rattle.pp_lexer.specs.declared.token.PreprocessorError.TheVariants.{IntegerOverflow, FloatParsingError}
use Rattle.pp_lexer.specs.declared.token.PreprocessorError.TheVariants.{UnexpectedCharacter, UnexpectedToken}
use Rattle.pp_lexer.specs.declared.token.PreprocessorError.TheVariants.{UnexpectedHash, UnexpectedNewLine}
use Rattle.pp_lexer.specs.declared.token.PreprocessorError.TheVariants.{UnexpectedEndOfInput, TooFewDefineArguments}
use Rattle.pp_lexer.specs.declared.token.PreprocessorError.TheVariants.{TooManyDefineArguments, ErrorDirective}
use Rattle.pp_lexer.specs.declared.token.PreprocessorError.TheVariants.{DuplicateParameter, UnknownDirective}
use Rattle.pp_lexer.specs.declared.token.PreprocessorError.TheVariants.{DefineRedefined, ElifOutsideOfBlock}
use Rattle.pp_lexer.specs.declared.token.PreprocessorError.TheVariants.{ElseOutsideOfBlock, EndifOutsideOfBlock}
use Rattle.pp_lexer.specs.declared.token.PreprocessorError.TheVariants.{ElifAfterElse, MoreThanOneElse, UnfinishedBlock}
use Rattle.pp_lexer.specs.declared.token.PreprocessorError.TheVariants.{LineOverflow, NotSupported16BitLiteral}
use Rattle.pp_lexer.specs.declared.token.PreprocessorError.TheVariants.{NotSupported64BitLiteral, MacroNotDefined}
use Rattle.pp_lexer.specs.declared.token.PreprocessorError.TheVariants.{RecursionLimitReached, DivisionByZero}
use Rattle.pp_lexer.specs.declared.token.PreprocessorError.TheVariants.{RemainderByZero, OutOfMemory}

-- the sentence of an error as ASCII text, in lower case and without a full stop
abbrev pub plain_sentence : PreprocessorError → List ℕ
plain_sentence IntegerOverflow = codes "malformed or out-of-range integer"
plain_sentence FloatParsingError = codes "malformed number"
plain_sentence UnexpectedCharacter = codes "unexpected character"
plain_sentence (UnexpectedToken v) = codes "unexpected token"
plain_sentence UnexpectedHash = codes "unexpected `#`"
plain_sentence UnexpectedNewLine = codes "unexpected end of line"
plain_sentence UnexpectedEndOfInput = codes "unterminated macro call or incomplete expression"
plain_sentence TooFewDefineArguments = codes "too few arguments in macro call"
plain_sentence TooManyDefineArguments = codes "too many arguments in macro call"
plain_sentence ErrorDirective = codes "`#error` directive"
plain_sentence DuplicateParameter = codes "duplicate macro parameter"
plain_sentence UnknownDirective = codes "unknown directive"
plain_sentence DefineRedefined = codes "macro redefined"
plain_sentence ElifOutsideOfBlock = codes "`#elif` without `#if`"
plain_sentence ElseOutsideOfBlock = codes "`#else` without `#if`"
plain_sentence EndifOutsideOfBlock = codes "`#endif` without `#if`"
plain_sentence ElifAfterElse = codes "`#elif` after `#else`"
plain_sentence MoreThanOneElse = codes "`#else` after `#else`"
plain_sentence UnfinishedBlock = codes "block without `#endif`"
plain_sentence LineOverflow = codes "line number out of range"
plain_sentence NotSupported16BitLiteral = codes "16-bit literals are not supported"
plain_sentence NotSupported64BitLiteral = codes "64-bit literals are not supported"
plain_sentence MacroNotDefined = codes "undefined macro"
plain_sentence RecursionLimitReached = codes "too many nested macro calls"
plain_sentence DivisionByZero = codes "division by zero"
plain_sentence RemainderByZero = codes "remainder by zero"
plain_sentence OutOfMemory = codes "out of memory"

-- the text of the token that an error holds, after a space and between backquotes; other errors hold none
abbrev pub quoted : PreprocessorError → List ℕ
quoted (UnexpectedToken v) = codes " `" ++ (encode_utf8_all (item_text v) ++ codes "`")
quoted _ = []

-- the sentence of an error with the token that it holds, as UTF-8
abbrev pub sentence_of : PreprocessorError → List ℕ
sentence_of error = plain_sentence error ++ quoted error
