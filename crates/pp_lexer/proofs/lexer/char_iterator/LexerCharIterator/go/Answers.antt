use Rattle.std.proofs.Common.{ap, arith, length}
use Rattle.pp_lexer.proofs.characters.FrontsLemmas.{left_of, length-spots_from}
use Rattle.pp_lexer.proofs.lexer.char_iterator.LexerCharIterator.go.Goals as goal

pub returns : goal.returns
returns c = grind (arith, left_of)

pub invariant_of-self : goal.invariant_of-self
invariant_of-self c =
    let e = ap length (left_of c.at-self-inside.result c.args.rest.line c.args.rest.at c.args.rest.text.now c.at-self-inside.ensures) in
    (omega (arith, e, length-spots_from c.args.rest.line c.args.rest.at c.args.rest.text.now c.requires.utf8, c.requires.room), rw c.forget.ensures tt)
