use Rattle.std.proofs.Common.{◌∙◌}
use Rattle.pp_lexer.proofs.values.PreorderLemmas.{tokens_answer}
use Rattle.pp_lexer.proofs.token.+tokens.Goals as goal

pub TokensPartialEq::eq-returns : goal.TokensPartialEq::eq-returns
TokensPartialEq::eq-returns t c = rw (← c.self.view_is, ← c.other.view_is) (c.eq.ensures ∙ tokens_answer c.self.inside.items.items c.other.inside.items.items)
