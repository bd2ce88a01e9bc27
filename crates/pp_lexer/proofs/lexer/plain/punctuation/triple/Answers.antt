use Rattle.std.proofs.Common.{sym, arith}
use Rattle.std.proofs.lemmas.Bool.{ne_eqb}
use Rattle.pp_lexer.proofs.words.PlainPunctuationLemmas.{no_triple_first, no_triple_second, no_triple_third, shift_assigns}
use Rattle.pp_lexer.proofs.lexer.plain.punctuation.triple.Goals as goal

pub returns-then-third-ne61 : goal.returns-then-third-ne61
returns-then-third-ne61 c = sym (no_triple_third c.args.first c.args.second c.args.third (ne_eqb c.args.third 61 (λ k. omega arith)))

pub returns-then-first-second : goal.returns-then-first-second
returns-then-first-second c = sym (no_triple_second c.args.first c.args.second c.args.third (ne_eqb c.args.second c.args.first (λ k. omega arith)))

pub returns-in-60 : goal.returns-in-60
returns-in-60 c = sym ((shift_assigns c.args.first c.args.second c.args.third (omega arith) (omega arith)).0 (omega arith))

pub returns-in-62 : goal.returns-in-62
returns-in-62 c = sym ((shift_assigns c.args.first c.args.second c.args.third (omega arith) (omega arith)).1 (omega arith))

pub returns-in_default : goal.returns-in_default
returns-in_default c = grind (arith, no_triple_first)
