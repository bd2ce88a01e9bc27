use Rattle.pp_lexer.proofs.spelling.RespellingLemmas.{read_back}
use Rattle.pp_lexer.proofs.lexer.laws.respelled.Goals as goal

pub returns : goal.returns
returns c = read_back
