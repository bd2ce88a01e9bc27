use Rattle.std.proofs.Common.{sym}
use Rattle.pp_print.proofs.SourceRunLemmas.{printed_of, begun_of}
use Rattle.pp_print.proofs.run.Goals as goal

pub returns-in-Ok-clause-printed : goal.returns-in-Ok-clause-printed
returns-in-Ok-clause-printed g c =
    let read = rw (sym c.as_str-text.ensures.value) at (c.in_ok-source.ensures {u = tt}).read in
    printed_of _ _ _ c.new-items.result c.add_definitions.new.items read c.new-items.ensures.stands
    (c.in-Ok.ensures {u = tt}).added _ _ c.print_items.result c.print_items.ensures.printed

pub returns-in-Ok-clause-begun : goal.returns-in-Ok-clause-begun
returns-in-Ok-clause-begun g c = λ e.
    let read = rw (sym c.as_str-text.ensures.value) at (c.in_ok-source.ensures {u = tt}).read in
    begun_of _ _ _ c.new-items.result c.add_definitions.new.items read c.new-items.ensures.stands
    (c.in-Ok.ensures {u = tt}).added _ _ _ (c.print_items.ensures.begun e)
