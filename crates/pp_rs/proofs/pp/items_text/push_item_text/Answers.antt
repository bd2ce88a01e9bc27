use Rattle.std.specs.Str.{chars}
use Rattle.pp_rs.proofs.pp.items_text.push_item_text.Goals as goal

pub returns-in-Version-clause-appended : goal.returns-in-Version-clause-appended
unfolding chars
returns-in-Version-clause-appended c = rw c.in-Version.is c.push_directive.ensures.appended

pub returns-in-Extension-clause-appended : goal.returns-in-Extension-clause-appended
unfolding chars
returns-in-Extension-clause-appended c = rw c.in-Extension.is c.push_directive-in-Extension.ensures.appended

pub returns-in-Pragma-clause-appended : goal.returns-in-Pragma-clause-appended
unfolding chars
returns-in-Pragma-clause-appended c = rw c.in-Pragma.is c.push_directive-in-Pragma.ensures.appended
