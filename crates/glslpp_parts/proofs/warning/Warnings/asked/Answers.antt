use Rattle.std.proofs.Common.{refl}
use Rattle.glslpp_parts.proofs.warning.Warnings.asked.Goals as goal

-- each kind as it is asked for
pub returns-clause-asked : goal.returns-clause-asked
returns-clause-asked c =
    rw c.is_asked.ensures (rw c.is_asked-2.ensures (rw c.is_asked-3.ensures (rw c.is_asked-4.ensures (rw c.is_asked-5.ensures
    (rw c.is_asked-6.ensures (rw c.is_asked-7.ensures (rw c.is_asked-8.ensures (rw c.are_errors.ensures refl))))))))
