use Rattle.std.proofs.Common.{arith}
use Rattle.pp_model.specs.Emitting.{answers_at}
use Rattle.pp_reference.specs.inner.Seen.{seen}
use Rattle.pp_reference.specs.declared.expander.Turn.TheVariants.{Item, Replaced, Called}
use Rattle.pp_reference.proofs.TurnLemmas.{turns_mean, resolves_fault, resolves_next}
use Rattle.pp_reference.proofs.expand.emit.Goals as goal

pub returns-in-Item-clause-emits : goal.returns-in-Item-clause-emits
returns-in-Item-clause-emits g c =
    c.turns.invariant.goes_on c.in-Item.item (seen g.R.Reader.state c.turn.new.self)
    (turns_mean g.R.Reader.reading (answers_at c.args.levels) (Item c.in-Item.item) (seen g.R.Reader.state c.turns.expander)
    (seen g.R.Reader.state c.turn.new.self) (rw c.in-Item.is at c.in_ok-item.ensures.turns))

pub turns-preserved-in-Replaced : goal.turns-preserved-in-Replaced
turns-preserved-in-Replaced g c = record {
  goes_on = λ item end h. c.turns.invariant.goes_on item end (turns_mean g.R.Reader.reading (answers_at c.args.levels) Replaced
      (seen g.R.Reader.state c.turns.expander) (seen g.R.Reader.state c.turn.new.self) (rw c.in-Replaced.is at c.in_ok-item.ensures.turns) item end h);
  spent = omega arith;
}

pub returns-in-Some-clause-emits : goal.returns-in-Some-clause-emits
returns-in-Some-clause-emits g c =
    c.turns.invariant.goes_on c.in-Some.item (seen g.R.Reader.state c.resolve.new.self)
    (resolves_fault g.R.Reader.reading (answers_at c.args.levels) (seen g.R.Reader.state c.turns.expander) (seen g.R.Reader.state c.turn.new.self)
    (seen g.R.Reader.state c.resolve.new.self) c.in-Called.call c.in-Ok.answer c.in-Some.item
    (turns_mean g.R.Reader.reading (answers_at c.args.levels) (Called c.in-Called.call) (seen g.R.Reader.state c.turns.expander)
    (seen g.R.Reader.state c.turn.new.self) (rw c.in-Called.is at c.in_ok-item.ensures.turns))
    c.in-Ok.ensures.answers
    (rw c.in-Some.is at c.in_ok-item-in-Ok.ensures))

pub turns-preserved : goal.turns-preserved
turns-preserved g c = record {
  goes_on = λ item end h.
      c.turns.invariant.goes_on item end
      (resolves_next g.R.Reader.reading (answers_at c.args.levels) (seen g.R.Reader.state c.turns.expander) (seen g.R.Reader.state c.turn.new.self)
      (seen g.R.Reader.state c.resolve.new.self) c.in-Called.call c.in-Ok.answer
      (turns_mean g.R.Reader.reading (answers_at c.args.levels) (Called c.in-Called.call) (seen g.R.Reader.state c.turns.expander)
      (seen g.R.Reader.state c.turn.new.self) (rw c.in-Called.is at c.in_ok-item.ensures.turns))
      c.in-Ok.ensures.answers
      (rw c.in_default.is at c.in_ok-item-in-Ok.ensures) item end h);
  spent = omega arith;
}
