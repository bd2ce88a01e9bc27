-- The numbers of include/pp.h: the kinds of items, the errors, and the flags of tokens.
use Rattle.std.specs.Prelude.{ℕ, bit_or, Bool, if◌then◌else◌}
use Rattle.pp_rs.specs.Entry.{Leaf, ident, integer, float, punct, version, extension, pragma}
use Rattle.pp_rs.specs.declared.token.PreprocessorError.{PreprocessorError}
use Rattle.pp_rs.specs.declared.token.PreprocessorError.TheVariants.{
  IntegerOverflow,
  FloatParsingError,
  UnexpectedCharacter,
  UnexpectedToken,
  UnexpectedHash,
  UnexpectedNewLine,
  UnexpectedEndOfInput,
  TooFewDefineArguments,
  TooManyDefineArguments,
  ErrorDirective,
  DuplicateParameter,
  UnknownDirective,
  DefineRedefined,
  ElifOutsideOfBlock,
  ElseOutsideOfBlock,
  EndifOutsideOfBlock,
  ElifAfterElse,
  MoreThanOneElse,
  UnfinishedBlock,
  LineOverflow,
  NotSupported16BitLiteral,
  NotSupported64BitLiteral,
  MacroNotDefined,
  RecursionLimitReached,
  DivisionByZero,
  RemainderByZero,
  OutOfMemory,
}
use Rattle.pp_rs.specs.declared.token.Punct.{Punct}
use Rattle.pp_rs.specs.declared.token.Punct.TheVariants.{
  AddAssign,
  SubAssign,
  MulAssign,
  DivAssign,
  ModAssign,
  LeftShiftAssign,
  RightShiftAssign,
  AndAssign,
  XorAssign,
  OrAssign,
  Increment,
  Decrement,
  LogicalAnd,
  LogicalOr,
  LogicalXor,
  LessEqual,
  GreaterEqual,
  EqualEqual,
  NotEqual,
  LeftShift,
  RightShift,
  LeftBrace,
  RightBrace,
  LeftParen,
  RightParen,
  LeftBracket,
  RightBracket,
  LeftAngle,
  RightAngle,
  Semicolon,
  Comma,
  Colon,
  Dot,
  Equal,
  Bang,
  Minus,
  Tilde,
  Plus,
  Star,
  Slash,
  Percent,
  Pipe,
  Caret,
  Ampersand,
  Question,
}

-- the number of an error
abbrev pub error_number : PreprocessorError → ℕ
error_number IntegerOverflow = 1
error_number FloatParsingError = 2
error_number UnexpectedCharacter = 3
error_number (UnexpectedToken value) = 4
error_number UnexpectedHash = 5
error_number UnexpectedNewLine = 6
error_number UnexpectedEndOfInput = 7
error_number TooFewDefineArguments = 8
error_number TooManyDefineArguments = 9
error_number ErrorDirective = 10
error_number DuplicateParameter = 11
error_number UnknownDirective = 12
error_number DefineRedefined = 13
error_number ElifOutsideOfBlock = 14
error_number ElseOutsideOfBlock = 15
error_number EndifOutsideOfBlock = 16
error_number ElifAfterElse = 17
error_number MoreThanOneElse = 18
error_number UnfinishedBlock = 19
error_number LineOverflow = 20
error_number NotSupported16BitLiteral = 21
error_number NotSupported64BitLiteral = 22
error_number MacroNotDefined = 23
error_number RecursionLimitReached = 24
error_number DivisionByZero = 25
error_number RemainderByZero = 26
error_number OutOfMemory = 27

-- the number of a punctuator
abbrev pub punctuator_number : Punct → ℕ
punctuator_number AddAssign = 16
punctuator_number SubAssign = 17
punctuator_number MulAssign = 18
punctuator_number DivAssign = 19
punctuator_number ModAssign = 20
punctuator_number LeftShiftAssign = 21
punctuator_number RightShiftAssign = 22
punctuator_number AndAssign = 23
punctuator_number XorAssign = 24
punctuator_number OrAssign = 25
punctuator_number Increment = 26
punctuator_number Decrement = 27
punctuator_number LogicalAnd = 28
punctuator_number LogicalOr = 29
punctuator_number LogicalXor = 30
punctuator_number LessEqual = 31
punctuator_number GreaterEqual = 32
punctuator_number EqualEqual = 33
punctuator_number NotEqual = 34
punctuator_number LeftShift = 35
punctuator_number RightShift = 36
punctuator_number LeftBrace = 37
punctuator_number RightBrace = 38
punctuator_number LeftParen = 39
punctuator_number RightParen = 40
punctuator_number LeftBracket = 41
punctuator_number RightBracket = 42
punctuator_number LeftAngle = 43
punctuator_number RightAngle = 44
punctuator_number Semicolon = 45
punctuator_number Comma = 46
punctuator_number Colon = 47
punctuator_number Dot = 48
punctuator_number Equal = 49
punctuator_number Bang = 50
punctuator_number Minus = 51
punctuator_number Tilde = 52
punctuator_number Plus = 53
punctuator_number Star = 54
punctuator_number Slash = 55
punctuator_number Percent = 56
punctuator_number Pipe = 57
punctuator_number Caret = 58
punctuator_number Ampersand = 59
punctuator_number Question = 60

-- the kind of an error, and of the place that it holds as a child
abbrev pub error_kind : ℕ
error_kind = 0

abbrev pub place_kind : ℕ
place_kind = 1

-- the kind of a token
abbrev pub kind_of : Leaf → ℕ
kind_of (ident text) = 2
kind_of (integer i) = 3
kind_of (float text width) = 4
kind_of (version first comments) = 5
kind_of (extension before) = 6
kind_of pragma = 7
kind_of (punct p) = punctuator_number p

-- the kinds of a newline and of a number sign, which only the lexer gives
abbrev pub new_line_kind : ℕ
new_line_kind = 8

abbrev pub hash_kind : ℕ
hash_kind = 9

-- the kind of the rest of an `#include` line that asks for its text
abbrev pub include_line_kind : ℕ
include_line_kind = 10

-- the bit, if the condition holds
abbrev pub bit_if : Bool → ℕ → ℕ
bit_if condition bit = if condition then bit else 0

-- the bits of a token: 1 for an integer without a suffix `u`; 2 for a `#version` before all other directives and
-- tokens, and 4 for one after a comment; 8 for an `#extension` after an ordinary token
abbrev pub flags_of : Leaf → ℕ
flags_of (integer i) = bit_if i.signed 1
flags_of (version first comments) = bit_or (bit_if first 2) (bit_if comments 4)
flags_of (extension before) = bit_if before 8
flags_of leaf = 0
