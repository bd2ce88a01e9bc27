use Rattle.std.proofs.Common.{List, IfSome, subst}
use Rattle.pp_macros.specs.inner.Defined.{AreNumbered, Defined, names_in, numbered_by}
use Rattle.pp_directives.proofs.source_reader.DirectiveProcessorMeLexer.get_define.Goals as goal

pub returns-clause-numbered : goal.returns-clause-numbered
returns-clause-numbered c =
    subst (λ (ds : List Defined). IfSome c.get_define.result (λ m. AreNumbered (names_in ds) (numbered_by m.now.value)))
    c.definitions.ensures c.get_define.ensures.numbered
