use Rattle.std.proofs.Common.{true, false, sym}
use Rattle.glslpp_parts.specs.Texts.{Added}
use Rattle.glslpp_parts.proofs.TextsLemmas.{past_added}
use Rattle.glslpp_parts.proofs.texts.Texts.is_file.Goals as goal

pub returns-in-None : goal.returns-in-None
returns-in-None c =
    sym (past_added (λ (added : Added). added.is_file) c.args.self.now.added c.args.number true false
    c.if-number-eq-SOURCE_TEXT.false (sym (c.in-None.ensures {u = tt})))
