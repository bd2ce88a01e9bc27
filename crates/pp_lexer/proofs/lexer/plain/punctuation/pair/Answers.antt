use Rattle.std.proofs.Common.{sym, arith}
use Rattle.std.proofs.lemmas.Bool.{ne_eqb}
use Rattle.pp_lexer.proofs.words.PlainPunctuationLemmas.{before_equals_is, doubled_is, pair_none}
use Rattle.pp_lexer.proofs.lexer.plain.punctuation.pair.Goals as goal

pub returns-then-second-eq61 : goal.returns-then-second-eq61
returns-then-second-eq61 c = grind (arith, before_equals_is)

pub returns-then-second-first : goal.returns-then-second-first
returns-then-second-first c = grind (arith, doubled_is, ne_eqb)

pub returns : goal.returns
returns c = sym (pair_none c.args.first c.args.second (ne_eqb c.args.second 61 (λ k. omega arith)) (ne_eqb c.args.second c.args.first (λ k. omega arith)))
