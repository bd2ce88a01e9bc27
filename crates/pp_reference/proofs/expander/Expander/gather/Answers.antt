use Rattle.std.proofs.Common.{[], refl, ap, arith}
use Rattle.std.specs.Prelude.{Ok, Err}
use Rattle.pp_lexer.specs.declared.token.PreprocessorError.TheVariants.{IntegerOverflow, UnexpectedEndOfInput}
use Rattle.pp_model.specs.Calls.{before, closed, inside, overfull, ended, failed}
use Rattle.pp_reference.specs.inner.Seen.{seen}
use Rattle.pp_model.proofs.calls.GatherLemmas.{after_tokens-before, after_tokens-closed}
use Rattle.pp_reference.proofs.expander.Expander.gather.Goals as goal

pub returns-in-Fault-clause-gathers : goal.returns-in-Fault-clause-gathers
returns-in-Fault-clause-gathers g c =
    c.tokens.invariant.goes_on (Err c.unasked.result) (seen g.R.Reader.state c.take.new.self)
    (failed c.tokens.depth c.tokens.last c.in-Fault.fault _ _ _ (rw c.in-Fault.is at c.in_ok-read.ensures.takes) (ap Err c.unasked.ensures))

pub returns-in-End-clause-gathers : goal.returns-in-End-clause-gathers
returns-in-End-clause-gathers g c =
    c.tokens.invariant.goes_on (Err (UnexpectedEndOfInput, c.tokens.last)) (seen g.R.Reader.state c.take.new.self)
    (ended c.tokens.depth c.tokens.last _ _ _ (rw c.in-End.is at c.in_ok-read.ensures.takes) refl)

pub returns-in-TooMany-clause-gathers : goal.returns-in-TooMany-clause-gathers
returns-in-TooMany-clause-gathers g c =
    c.tokens.invariant.goes_on (Err (IntegerOverflow, c.place-last.result)) (seen g.R.Reader.state c.take.new.self)
    (overfull c.tokens.depth c.tokens.last c.in-Token.read _ _ _ (rw c.in-Token.is at c.in_ok-read.ensures.takes) c.in-TooMany.ensures
    (rw c.place-last.ensures refl))

pub returns-in-Closes-clause-gathers : goal.returns-in-Closes-clause-gathers
returns-in-Closes-clause-gathers g c =
    rw (← after_tokens-closed c.tokens.tokens.items c.place-last.result.location)
    (c.tokens.invariant.goes_on (Ok (record { tokens = []; closing = c.place-last.result.location })) (seen g.R.Reader.state c.take.new.self)
    (closed c.tokens.depth c.tokens.last c.in-Token.read _ _ _ (rw c.in-Token.is at c.in_ok-read.ensures.takes) c.in-Closes.ensures
    (rw c.place-last.ensures refl)))

pub tokens-preserved : goal.tokens-preserved
tokens-preserved g c = record {
  goes_on = λ rest end h.
      rw (c.in_ok-push.ensures.items, ← after_tokens-before c.tokens.tokens.items c.in-Token.read rest)
      (c.tokens.invariant.goes_on (before c.in-Token.read rest) end
      (inside c.tokens.depth c.in-Within.deeper c.tokens.last c.in-Token.read _ _ _ rest _
      (rw c.in-Token.is at c.in_ok-read.ensures.takes) c.in-Within.ensures (rw c.place-last.ensures at h) refl));
  spent = omega arith;
}
