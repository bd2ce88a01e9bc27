use Rattle.std.proofs.Common.{◌∙◌}
use Rattle.pp_lexer.proofs.characters.PositionsLemmas.{counted}
use Rattle.pp_lexer.proofs.lexer.position.line_column.Goals as goal

pub returns-clause-value : goal.returns-clause-value
returns-clause-value c = c.position.ensures ∙ counted c.args.source.now c.args.offset
