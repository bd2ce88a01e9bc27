use Rattle.std.proofs.Common.{◌-◌, ◌+◌, if◌then◌else◌}
use Rattle.pp_c.specs.inner.Making.{GivesTowards, is_front}
use Rattle.pp_c.proofs.preprocessing.give_until.Given as goal

abbrev pub invariant-items : goal.invariant-items
invariant-items l = GivesTowards l.count l.fn.pp l.fn.output l.fn.progress l.pp l.output l.progress

abbrev pub decreases-items : goal.decreases-items
decreases-items l = l.count - l.progress.given + (if is_front l.progress.end then 1 else 0)
