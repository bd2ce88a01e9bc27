use Rattle.std.proofs.Common.{◌≡◌, drop}
use Rattle.pp_reference.specs.inner.Changes.{meaning_of}
use Rattle.pp_reference.proofs.definitions.Definitions.find.Given as goal

abbrev pub invariant-loop-change : goal.invariant-loop-change
invariant-loop-change l = meaning_of l.change-items l.name ≡ meaning_of (drop l.change-index l.change-items) l.name
