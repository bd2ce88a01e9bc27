use Rattle.std.proofs.Common.{sym}
use Rattle.std.specs.Str.{chars}
use Rattle.pp_macros.specs.inner.Defined.{names_in}
use Rattle.pp_macros.proofs.defined_names.FoundNamesLemmas.{not_found}
use Rattle.pp_macros.proofs.defined_names.DefinitionsLemmas.{meaning_absent}
use Rattle.pp_macros.proofs.names.Definitions.get.Goals as goal

pub returns-in_err-id-clause-definition : goal.returns-in_err-id-clause-definition
returns-in_err-id-clause-definition c =
    rw c.from_residual.ensures
    (sym (meaning_absent (chars c.args.name.now) c.args.self.now
    (not_found (chars c.args.name.now) (names_in c.args.self.now) (sym c.in_err-id.ensures))))
