use Rattle.std.proofs.lemmas.Result.{IfOk-weaker}
use Rattle.pp_rs.proofs.runs.AfreshLemmas.{text_gives}
use Rattle.pp_rs.proofs.pp.afresh.items_of_text.Goals as goal

pub returns-clause-items : goal.returns-clause-items
returns-clause-items c =
    let new = c.new-pp.ensures in
    IfOk-weaker c.preprocess_all-items.result _ _ (λ items h. text_gives c.new-pp.result items.items c.args.text.now new.unspent new.rules new.stands h)
    c.preprocess_all-items.ensures.items
