use Rattle.std.proofs.Common.{sym}
use Rattle.pp_c.proofs.OverLemmas.{written_over-one}
use Rattle.pp_c.proofs.output.put.Goals as goal

pub returns-then-at-items-clause-written : goal.returns-then-at-items-clause-written
returns-then-at-items-clause-written c = λ h. sym (written_over-one c.args.at c.args.item c.args.items.now h)
