use Rattle.std.proofs.Common.{map, subst}
use Rattle.std.proofs.lemmas.Result.{IfOk-weaker}
use Rattle.pp_lexer.specs.declared.rules.Rules.{Rules}
use Rattle.pp_model.specs.Run.{items_by, call_of}
use Rattle.pp_rs.specs.Comes.{start_by}
use Rattle.pp_rs.specs.inner.Answering.{RunFrom}
use Rattle.pp_rs.proofs.pp.call_list.replies_by.Goals as goal

pub returns : goal.returns
returns c =
    IfOk-weaker c.replies_to-replies.result _ _
    (λ replies h. subst (λ (rules : Rules). RunFrom rules (start_by c.args.rules (items_by c.args.rules c.args.source.now)) (map call_of c.args.calls.now) replies.items)
    c.with_rules-pp.ensures.rules (h _ c.with_rules-pp.ensures.stands)) c.replies_to-replies.ensures
