use Rattle.std.proofs.Common.{sym}
use Rattle.std.proofs.lemmas.Str.{encodes-chars}
use Rattle.pp_macros.specs.inner.Marks.{mark_number}
use Rattle.pp_macros.proofs.defined_names.MarksLemmas.{number_of_none, number_of_some}
use Rattle.pp_macros.proofs.marks.mark_number.Goals as goal

pub returns-in_default-clause-is : goal.returns-in_default-clause-is
unfolding mark_number
returns-in_default-clause-is c =
    rw (encodes-chars c.args.name.now c.utf8.name) (number_of_none c.args.name.now (rw c.as_bytes-bytes.ensures.value at (sym c.in_default.ensures.value)))

pub returns-clause-is : goal.returns-clause-is
unfolding mark_number
returns-clause-is c =
    rw (encodes-chars c.args.name.now c.utf8.name, c.as_bytes-bytes.ensures.value)
    (number_of_some c.args.name.now c.in-Some.first.now (rw c.as_bytes-bytes.ensures.value at (sym c.in-Some.ensures.value)))
