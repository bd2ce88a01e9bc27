use Rattle.std.proofs.Common.{arith}
use Rattle.std.proofs.lemmas.Bool.{ne_eqb}
use Rattle.pp_lexer.proofs.characters.NewlinesLemmas.{line_feed, return_feed}
use Rattle.pp_lexer.proofs.lexer.plain.newline_length.Goals as goal

pub returns-then-bytes-eq10 : goal.returns-then-bytes-eq10
returns-then-bytes-eq10 c = line_feed c.args.bytes.now c.requires (omega arith) (omega arith) (λ l. absurd (omega arith))

pub returns-then-bytes-eq10-2 : goal.returns-then-bytes-eq10-2
returns-then-bytes-eq10-2 c = return_feed c.args.bytes.now c.requires (omega arith) (omega arith) (omega arith)

pub returns-then-bytes-ne13 : goal.returns-then-bytes-ne13
returns-then-bytes-ne13 c = line_feed c.args.bytes.now c.requires (omega arith) (omega arith) (λ l. (omega arith, ne_eqb _ 13 (λ e. omega arith)))
