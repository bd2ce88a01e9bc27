use Rattle.std.proofs.lemmas.Str.{encodes-chars}
use Rattle.pp_lexer.proofs.token.spelling.TextDisplay.fmt.Goals as goal

pub returns-clause-writes : goal.returns-clause-writes
returns-clause-writes g c = λ plain ok.
    rw (← c.as_str.ensures, encodes-chars _ c.as_str.utf8) (c.write_str.ensures.writes plain ok)
