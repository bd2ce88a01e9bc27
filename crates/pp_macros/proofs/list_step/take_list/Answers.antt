use Rattle.std.proofs.Common.{◌≡◌, ◌∙◌, subst, sym, false}
use Rattle.pp_model.specs.Names.{is_identifier, line_name}
use Rattle.pp_model.specs.declared.read.Read.{Read}
use Rattle.pp_macros.proofs.taking.IdleListLemmas.{alone_next}
use Rattle.pp_macros.proofs.taking.NestingLemmas.{idle_names}
use Rattle.pp_macros.proofs.list_step.take_list.Goals as goal

pub returns-in-Some-clause-takes : goal.returns-in-Some-clause-takes
returns-in-Some-clause-takes c =
    let idle = sym c.is_idle.ensures ∙ c.if-is_idle.true in
    let same : c.in-Some.read.now ≡ c.take.result = cc (c.in-Some.ensures, c.take.ensures.tokens) in
    alone_next c.args.processor.now.here c.args.processor.now.below c.args.list.now c.take.new.self c.take.result idle c.take.ensures.tokens
    c.take.ensures.others (sym (idle_names c.args.processor.now idle) ∙ c.is_alone.ensures c.if-is_alone.true)
    (subst (λ (read : Read). is_identifier line_name read.token.value ≡ false) same (sym c.is_line_name.ensures ∙ c.if-not-is_line_name.true))
