use Rattle.uses.proofs.Pages.{Writes}
use Rattle.uses.proofs.highlighter.Page.push_up_to.Given as goal

abbrev pub invariant-characters : goal.invariant-characters
invariant-characters l = Writes l.fn.self l.self l.yielded
