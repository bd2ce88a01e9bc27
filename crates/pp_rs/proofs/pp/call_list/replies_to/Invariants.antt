use Rattle.std.proofs.Common.{map, take}
use Rattle.pp_model.specs.Run.{call_of}
use Rattle.pp_rs.proofs.runs.RepliesLemmas.{Replied}
use Rattle.pp_rs.proofs.pp.call_list.replies_to.Given as goal

abbrev pub invariant-loop-call : goal.invariant-loop-call
invariant-loop-call l = Replied l.fn.pp (map call_of (take l.call-index l.calls)) l.replies.items l.pp
