use Rattle.std.proofs.Common.{string_bytes, arith}
use Rattle.std.proofs.lemmas.Str.{IsUtf8-string_bytes}
use Rattle.pp_lexer.proofs.values.TextLemmas.{chars-empty}
use Rattle.pp_lexer.proofs.token.text.Text.is_empty.Goals as goal

pub returns : goal.returns
returns c = grind (arith, chars-empty, string_bytes, IsUtf8-string_bytes)
