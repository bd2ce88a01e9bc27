use Rattle.pp_lexer.proofs.words.PlainWordsLemmas.{plain_identifier}
use Rattle.pp_lexer.proofs.lexer.plain.plain_identifier.Goals as goal

pub returns : goal.returns
returns c =
    plain_identifier c.args.bytes.now c.continued_length-taken.result c.requires.utf8 c.continued_length-taken.ensures.within c.requires.some c.requires.begins
    c.continued_length-taken.ensures.passes c.continued_length-taken.ensures.stops (c.ends_plainly.ensures c.if-not-ends_plainly.false)
