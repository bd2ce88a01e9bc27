use Rattle.std.proofs.Common.{◌∙◌, sym}
use Rattle.pp_rs.proofs.pp.preprocessor.Preprocessor.is_in_text.Goals as goal

pub returns-clause-reads : goal.returns-clause-reads
returns-clause-reads c = λ _. record {
  idle = sym c.is_idle.ensures ∙ c.if-not-is_idle.false;
  text = c.is_in_text.ensures c.if-not-is_in_text.false;
  unspent = c.if-self-2.false;
}

pub invariant_of-self : goal.invariant_of-self
invariant_of-self c = (
  c.self.invariant.0,
  c.self.invariant.1,
  λ _. record {
    idle = sym c.is_idle.ensures ∙ c.if-not-is_idle.false;
    text = c.is_in_text.ensures c.if-not-is_in_text.false;
    unspent = c.if-self-2.false;
  },
)
