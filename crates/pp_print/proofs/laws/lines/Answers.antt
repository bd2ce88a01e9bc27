use Rattle.pp_print.proofs.CutLemmas.{lines-are-the-cut}
use Rattle.pp_print.proofs.laws.lines.Goals as goal

pub returns : goal.returns
returns c = lines-are-the-cut
