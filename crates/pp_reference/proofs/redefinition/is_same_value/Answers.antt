use Rattle.pp_lexer.proofs.values.EqualityLemmas.{value_decides}
use Rattle.pp_reference.proofs.redefinition.is_same_value.Goals as goal

pub returns : goal.returns
returns c = rw (c.eq.ensures) (value_decides c.args.old.now c.args.new.now)
