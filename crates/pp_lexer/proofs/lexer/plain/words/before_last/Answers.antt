use Rattle.std.proofs.Common.{arith}
use Rattle.pp_lexer.proofs.words.TameLemmas.{feed_before, other_before}
use Rattle.pp_lexer.proofs.lexer.plain.words.before_last.Goals as goal

pub overflow_sub-newlines : goal.overflow_sub-newlines
overflow_sub-newlines c = grind (arith, feed_before)

pub returns-then-begins_last-clause-newlines : goal.returns-then-begins_last-clause-newlines
returns-then-begins_last-clause-newlines c = grind (arith, other_before)

pub bytes-preserved-then-byte-eq10 : goal.bytes-preserved-then-byte-eq10
bytes-preserved-then-byte-eq10 c = grind (arith, feed_before)

pub bytes-preserved : goal.bytes-preserved
bytes-preserved c = grind (arith, other_before)
