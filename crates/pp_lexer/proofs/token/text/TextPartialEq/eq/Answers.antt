use Rattle.std.proofs.Common.{arith}
use Rattle.std.proofs.lemmas.Str.{IsUtf8-string_bytes}
use Rattle.pp_lexer.proofs.values.TextLemmas.{chars_tested}
use Rattle.pp_lexer.proofs.token.text.TextPartialEq.eq.Goals as goal

pub returns : goal.returns
returns c = grind (arith, chars_tested, IsUtf8-string_bytes)
