use Rattle.pp_lexer.proofs.items.ItemsLemmas.{start_seen}
use Rattle.pp_lexer.proofs.lexer.Lexer.with_rules.Goals as goal

pub returns : goal.returns
returns c = start_seen _ _ _ _ c.new.ensures
