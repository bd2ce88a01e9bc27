use Rattle.std.proofs.Common.{arith}
use Rattle.pp_c.proofs.TextLemmas.{room_of_one}
use Rattle.pp_c.proofs.output.room_of_text.Goals as goal

pub returns : goal.returns
returns c = λ item. room_of_one item c.args.text.now (omega arith)
