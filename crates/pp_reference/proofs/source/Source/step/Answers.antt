use Rattle.std.proofs.Common.{◌∙◌, sym}
use Rattle.pp_model.specs.Emitting.{answers_at, expansion_limit}
use Rattle.pp_reference.specs.inner.ReaderState.{reader_of}
use Rattle.pp_reference.specs.inner.SeenSource.{source_state}
use Rattle.pp_reference.proofs.FaultLemmas.{steps_passed, steps_faulty, position_within}
use Rattle.pp_reference.proofs.source.Source.step.Goals as goal

pub returns-then-not-is_fault_among-clause-steps : goal.returns-then-not-is_fault_among-clause-steps
returns-then-not-is_fault_among-clause-steps c =
    steps_passed (answers_at expansion_limit) (source_state c.args.self.now) (reader_of c.step.new.self) c.in_ok-taken.field-0
    (rw c.dead_blocks-outside.ensures at (c.in_ok-taken.ensures {u = tt}).gives)
    (rw c.has_items-left.ensures at (sym c.is_fault_among.ensures ∙ c.if-not-is_fault_among.true))

pub go_on-requires : goal.go_on-requires
go_on-requires c =
    rw c.position-position.ensures (position_within (answers_at expansion_limit) (source_state c.args.self.now) (reader_of c.step.new.self) c.in_ok-taken.field-0
    (rw c.dead_blocks-outside.ensures at (c.in_ok-taken.ensures {u = tt}).gives)
    (rw c.has_items-left.ensures at (sym c.is_fault_among.ensures ∙ c.if-not-is_fault_among.false)))

pub returns-in-Ok-clause-steps : goal.returns-in-Ok-clause-steps
returns-in-Ok-clause-steps c =
    steps_faulty (answers_at expansion_limit) (source_state c.args.self.now) (reader_of c.step.new.self) c.in_ok-taken.field-0 _
    (rw c.dead_blocks-outside.ensures at (c.in_ok-taken.ensures {u = tt}).gives)
    (rw c.has_items-left.ensures at (sym c.is_fault_among.ensures ∙ c.if-not-is_fault_among.false))
    (rw (c.position-position.ensures, c.dead_blocks-outside.ensures) at (c.in-Ok.ensures {u = tt}))
