use Rattle.std.proofs.Common.{◌≡◌, ◌∙◌, inr, length, get_or, ap, subst, rules}
use Rattle.std.specs.Prelude.{Err}
use Rattle.std.proofs.lemmas.Iterator.Adapters.{YieldsList-from_vec}
use Rattle.std.proofs.lemmas.Iterator.Consumers.{YieldsList-turn}
use Rattle.std.proofs.lemmas.List.{length_push}
use Rattle.std.proofs.lemmas.Result.{err_from_is_err_and}
use Rattle.uses.proofs.Item.{Item}
use Rattle.uses.proofs.CodeText.{kept_more, kept_ordinary, error_there}
use Rattle.uses.proofs.code_text.ordinary_tokens.Goals as goal

pub loop-item-preserved : goal.loop-item-preserved
loop-item-preserved c =
    let all = c.args.items.items in
    let n = length c.loop-item.yielded in
    let turn = YieldsList-turn (YieldsList-from_vec {s = c.into_iter-item-iterator.result} all (search rules) (search rules))
    c.loop-item.yielded c.loop-item.item-iterator c.loop-item.yielded_by c.next.result c.next.new.self c.in-Some.item c.in-Some.is c.next.ensures.steps in
    let is = subst (λ (x : Item). x ≡ get_or all n x) c.in_ok-item.was turn.1 in
    rw (length_push c.loop-item.yielded c.in-Some.item)
    (kept_more all n c.loop-item.tokens.items _ c.in_ok-item.field-0 c.loop-item.invariant turn.0 is c.in_ok-push_ordinary.ensures.pushed)

pub returns-in_err-item-clause-error : goal.returns-in_err-item-clause-error
returns-in_err-item-clause-error c =
    let all = c.args.items.items in
    let n = length c.loop-item.yielded in
    let turn = YieldsList-turn (YieldsList-from_vec {s = c.into_iter-item-iterator.result} all (search rules) (search rules))
    c.loop-item.yielded c.loop-item.item-iterator c.loop-item.yielded_by c.next.result c.next.new.self c.in-Some.item c.in-Some.is c.next.ensures.steps in
    let is = subst (λ (x : Item). x ≡ get_or all n x) c.in_err-item.was turn.1 in
    let e = err_from_is_err_and c.from_residual.result c.from_residual.ensures.1 in
    rw (e.1 ∙ ap Err e.2) (inr (error_there all n c.in_err-item.field-0.0 c.loop-item.invariant.whole turn.0 is))

pub returns-clause-ordinary : goal.returns-clause-ordinary
returns-clause-ordinary c = kept_ordinary _ _ _ c.loop-item.invariant
