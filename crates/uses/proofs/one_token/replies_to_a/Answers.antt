use Rattle.std.proofs.Common.{codes, refl}
use Rattle.std.proofs.lemmas.Result.{IfOk-weaker}
use Rattle.uses.proofs.AItems.{word_token, newline_token, items_of_a}
use Rattle.uses.proofs.one_token.replies_to_a.Goals as goal

pub returns : goal.returns
returns c = IfOk-weaker c.replies_to_identifier.result _ _
    (λ replies given. given word_token newline_token (codes "a") items_of_a refl refl refl) c.replies_to_identifier.ensures
