use Rattle.std.proofs.Common.{codes, sym}
use Rattle.glslpp_parts.specs.Texts.{Added}
use Rattle.glslpp_parts.proofs.TextsLemmas.{past_added}
use Rattle.glslpp_parts.proofs.texts.Texts.text.Goals as goal

pub returns-in-None : goal.returns-in-None
returns-in-None c =
    sym (past_added (λ (added : Added). added.text) c.args.self.now.added c.args.number c.args.self.now.source (codes "1")
    c.if-number-eq-SOURCE_TEXT.false (sym (c.in-None.ensures {u = tt})))
