use Rattle.std.proofs.Common.{sym}
use Rattle.pp_macros.proofs.defined_names.ReaderNamesLemmas.{opened_none}
use Rattle.pp_macros.proofs.calls.find_macro.Goals as goal

pub returns-in_default-find-clause-opened : goal.returns-in_default-find-clause-opened
returns-in_default-find-clause-opened g c =
    rw (c.if-painted.false, c.in-Ident.is)
    (sym (opened_none _ c.in-Ident.name (sym (rw c.as_str.ensures at c.in_default-find.ensures))))
