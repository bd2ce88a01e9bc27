use Rattle.std.proofs.Common.{map}
use Rattle.pp_rs.specs.Kept.{rules_of}
use Rattle.uses.specs.Includes.{file_of}
use Rattle.uses.proofs.Included.{SoFar}
use Rattle.uses.proofs.includes.read_all.Given as goal

abbrev pub invariant-loop : goal.invariant-loop
invariant-loop l = SoFar (file_of l.files) (rules_of l.fn.pp) l.source.text.now l.pp (map (λ t. t.text.now) l.read.items) l.tokens.items
