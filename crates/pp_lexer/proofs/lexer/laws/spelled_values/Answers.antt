use Rattle.pp_lexer.proofs.spelling.SpelledValuesLemmas.{values_spelled}
use Rattle.pp_lexer.proofs.lexer.laws.spelled_values.Goals as goal

pub returns : goal.returns
returns c = values_spelled
