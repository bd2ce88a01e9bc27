use Rattle.std.specs.Str.{chars}
use Rattle.pp_lexer.proofs.token.spelling.TokenValueDisplay.fmt.Goals as goal

pub returns-in-Version-clause-writes : goal.returns-in-Version-clause-writes
unfolding chars
returns-in-Version-clause-writes g c = λ plain ok. rw c.in-Version.is (c.write_directive.ensures plain ok)

pub returns-in-Extension-clause-writes : goal.returns-in-Extension-clause-writes
unfolding chars
returns-in-Extension-clause-writes g c = λ plain ok. rw c.in-Extension.is (c.write_directive-in-Extension.ensures plain ok)

pub returns-in-Pragma-clause-writes : goal.returns-in-Pragma-clause-writes
unfolding chars
returns-in-Pragma-clause-writes g c = λ plain ok. rw c.in-Pragma.is (c.write_directive-in-Pragma.ensures plain ok)
