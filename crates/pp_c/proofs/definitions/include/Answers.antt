use Rattle.std.proofs.Common.{◌∙◌, ap}
use Rattle.pp_c.proofs.NextLemmas.{adds_included}
use Rattle.pp_c.specs.Calls.{with_answer}
use Rattle.pp_c.proofs.definitions.include.Goals as goal

pub returns-in-Ok-clause-added : goal.returns-in-Ok-clause-added
returns-in-Ok-clause-added c =
    adds_included c.args.words.now c.args.definition.now c.answer.new.definition c.in_ok-text.text.now c.args.pp.now c.include.new.self c.requires
    c.in_ok-text.ensures.part (c.in-Ok.ensures {u = tt})
    (c.answer.ensures ∙ ap (λ place. with_answer c.args.definition.now 0 place) c.default.ensures)
