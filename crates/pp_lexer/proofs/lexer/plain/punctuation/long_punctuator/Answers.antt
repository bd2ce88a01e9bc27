use Rattle.std.proofs.Common.{◌∙◌, sym, arith}
use Rattle.pp_lexer.proofs.words.PlainPunctuationLemmas.{pair_word, triple_word, stops_pair}
use Rattle.pp_lexer.proofs.lexer.plain.punctuation.long_punctuator.Goals as goal

pub returns-then-bytes-eq2 : goal.returns-then-bytes-eq2
returns-then-bytes-eq2 c =
    pair_word c.args.bytes.now c.args.two c.requires.utf8 c.requires.some c.requires.pair (λ l. absurd (omega arith))

pub returns-in-Some : goal.returns-in-Some
returns-in-Some c = grind (arith, triple_word)

pub returns-in-None : goal.returns-in-None
returns-in-None c =
    pair_word c.args.bytes.now c.args.two c.requires.utf8 c.requires.some c.requires.pair
    (stops_pair c.args.bytes.now (c.ends_plainly.ensures c.if-not-ends_plainly.false) (λ l. sym c.triple.ensures ∙ c.in-None.is))
