use Rattle.pp_print.proofs.AddsLemmas.{added_one}
use Rattle.pp_print.proofs.definitions.add_definition.Goals as goal

pub returns-in-Ok-clause-added : goal.returns-in-Ok-clause-added
returns-in-Ok-clause-added c =
    added_one c.args.definition.now c.args.items.now c.add_define.new.self c.add_define.result c.in-Ok.field-0 c.in-Ok.is
    c.requires c.if-content-ge-SOURCE_LIMIT.false c.add_define.ensures
