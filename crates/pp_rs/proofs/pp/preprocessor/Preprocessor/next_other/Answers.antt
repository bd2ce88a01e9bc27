use Rattle.std.proofs.Common.{◌≡◌, ◌∙◌, false, ap, arith}
use Rattle.pp_rs.specs.Kept.{is_spent}
use Rattle.pp_rs.proofs.runs.NextWordLemmas.{passed_again, passed_next}
use Rattle.pp_rs.proofs.pp.preprocessor.Preprocessor.next_other.Goals as goal

pub next_step-requires : goal.next_step-requires
next_step-requires c =
    let same : c.pass_dead.new.self ≡ c.args.self.now = rw c.if-pass_dead.false at c.pass_dead.ensures in
    (rw c.in_default.is at c.next_given.ensures).spent ∙ ap is_spent same ∙ c.requires

pub returns-in-Some : goal.returns-in-Some
returns-in-Some c =
    let same : c.pass_dead.new.self ≡ c.args.self.now = rw c.if-pass_dead.false at c.pass_dead.ensures in
    rw same at (rw c.in-Some.is at c.next_given.ensures)

pub returns-in-Some-Some-Ok : goal.returns-in-Some-Some-Ok
returns-in-Some-Some-Ok c =
    let same : c.pass_dead.new.self ≡ c.args.self.now = rw c.if-pass_dead.false at c.pass_dead.ensures in
    passed_next _ _ _ _ c.requires (rw same at (rw c.in_default.is at c.next_given.ensures))
    (rw (c.in-Some-Some-Ok.is, c.in-Some-Some-Ok.field-0-is, c.in-Some-Some-Ok.field-0-0-is) at c.next_step.ensures)

pub returns-in-Some-Some-Err : goal.returns-in-Some-Some-Err
returns-in-Some-Some-Err c =
    let same : c.pass_dead.new.self ≡ c.args.self.now = rw c.if-pass_dead.false at c.pass_dead.ensures in
    passed_next _ _ _ _ c.requires (rw same at (rw c.in_default.is at c.next_given.ensures))
    (rw (c.in-Some-Some-Err.is, c.in-Some-Some-Err.field-0-is, c.in-Some-Some-Err.field-0-0-is) at c.next_step.ensures)

pub returns-in-Some-None : goal.returns-in-Some-None
returns-in-Some-None c =
    let same : c.pass_dead.new.self ≡ c.args.self.now = rw c.if-pass_dead.false at c.pass_dead.ensures in
    passed_next _ _ _ _ c.requires (rw same at (rw c.in_default.is at c.next_given.ensures))
    (rw (c.in-Some-None.is, c.in-Some-None.field-0-is) at c.next_step.ensures)

pub returns-in-None : goal.returns-in-None
returns-in-None c =
    let same : c.pass_dead.new.self ≡ c.args.self.now = rw c.if-pass_dead.false at c.pass_dead.ensures in
    let given = rw same at (rw c.in_default.is at c.next_given.ensures) in
    let pause = rw c.in-None.is at c.next_step.ensures in
    record { passed = passed_again _ _ _ given pause.passed; less_left = omega (arith, given.no_more_left, pause.less_left) }
