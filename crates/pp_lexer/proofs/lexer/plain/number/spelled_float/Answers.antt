use Rattle.pp_lexer.proofs.numbers.PlainFloatsLemmas.{plain_float, plain_suffixed}
use Rattle.pp_lexer.proofs.lexer.plain.number.spelled_float.Goals as goal

pub returns-then-ends_number : goal.returns-then-ends_number
returns-then-ends_number c =
    plain_float c.args.bytes.now c.args.spelled c.requires.utf8 c.requires.within c.requires.text c.requires.float
    (c.ends_number.ensures c.if-ends_number.true)

pub returns-then-ends_in_suffix : goal.returns-then-ends_in_suffix
returns-then-ends_in_suffix c =
    plain_suffixed c.args.bytes.now c.args.spelled c.requires.utf8 c.requires.within c.requires.text c.requires.float
    (c.ends_in_suffix.ensures c.if-ends_in_suffix.true)
