use Rattle.std.proofs.Common.{◌≡◌, ◌∙◌, true, subst, sym, inl}
use Rattle.pp_model.specs.declared.read.Read.{Read}
use Rattle.pp_macros.specs.inner.Frames.{names_of}
use Rattle.pp_macros.specs.inner.Nesting.{listed_in}
use Rattle.pp_macros.specs.inner.Plain.{is_plain}
use Rattle.pp_macros.proofs.taking.IdleListLemmas.{list_ends, plain_turns}
use Rattle.pp_macros.proofs.taking.NestingLemmas.{idle_names}
use Rattle.pp_macros.proofs.list_step.step_list.Goals as goal

pub returns-in-None-clause-turns : goal.returns-in-None-clause-turns
returns-in-None-clause-turns c = inl (list_ends c.args.processor.now.here (listed_in c.args.processor.now.below c.args.list.now)
    (sym c.is_idle.ensures ∙ c.if-is_idle.true) c.in-None.ensures)

pub returns-in-Some-clause-turns : goal.returns-in-Some-clause-turns
returns-in-Some-clause-turns c =
    let idle = sym c.is_idle.ensures ∙ c.if-is_idle.true in
    let same : c.in-Some.read.now ≡ c.take.result = cc (c.in-Some.ensures, c.take.ensures.tokens) in
    let plain : is_plain c.args.list.now.definitions (names_of c.args.processor.now.below) c.take.result ≡ true =
    subst (λ (read : Read). is_plain c.args.list.now.definitions (names_of c.args.processor.now.below) read ≡ true) same
    (rw (c.definitions.ensures, idle_names c.args.processor.now idle) at (sym c.is_plain.ensures ∙ c.if-is_plain.true)) in
    inl (plain_turns c.args.processor.now.here c.args.processor.now.below c.args.list.now c.take.new.self c.take.result idle c.take.ensures.tokens
    c.take.ensures.others plain)
