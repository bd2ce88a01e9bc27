use Rattle.std.proofs.Common.{◌∙◌, ap, sym}
use Rattle.pp_c.proofs.NextLemmas.{adds_added, adds_refused}
use Rattle.pp_c.specs.Calls.{with_answer}
use Rattle.pp_c.proofs.definitions.add.Goals as goal

pub returns-in-Ok-clause-added : goal.returns-in-Ok-clause-added
returns-in-Ok-clause-added c =
    adds_added c.args.words.now c.args.definition.now c.answer.new.definition c.in_ok-name.name.now c.in_ok-content.content.now c.args.pp.now c.add_define.new.self
    c.in_ok-name.ensures.part c.in_ok-content.ensures.part (c.in-Ok.ensures {u = tt})
    (c.answer.ensures ∙ ap (λ place. with_answer c.args.definition.now 0 place) c.default.ensures)

pub returns-else-is_out_of_memory-clause-added : goal.returns-else-is_out_of_memory-clause-added
returns-else-is_out_of_memory-clause-added c =
    adds_refused c.args.words.now c.args.definition.now c.answer-in-Err.new.definition c.in_ok-name.name.now c.in_ok-content.content.now c.args.pp.now
    c.add_define.new.self c.in_ok-name.ensures.part c.in_ok-content.ensures.part (c.in-Err.error, c.in-Err.place)
    (sym c.is_out_of_memory.ensures ∙ c.if-is_out_of_memory.false) (c.in-Err.ensures {u = tt})
    (c.answer-in-Err.ensures ∙ ap (λ number. with_answer c.args.definition.now number c.in-Err.place) c.number_of.ensures)
