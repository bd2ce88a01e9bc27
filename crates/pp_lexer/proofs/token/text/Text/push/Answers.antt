use Rattle.std.proofs.Common.{arith}
use Rattle.std.proofs.lemmas.Str.{IsUtf8-string_bytes}
use Rattle.pp_lexer.proofs.values.TextLemmas.{chars-pushed}
use Rattle.pp_lexer.proofs.token.text.Text.push.Goals as goal

pub returns : goal.returns
returns c = grind (arith, chars-pushed, IsUtf8-string_bytes)
