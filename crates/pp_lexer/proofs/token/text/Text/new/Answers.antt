use Rattle.std.proofs.lemmas.Str.{chars-nil}
use Rattle.pp_lexer.proofs.token.text.Text.new.Goals as goal

pub returns : goal.returns
returns c = rw c.new.ensures.bytes chars-nil
