use Rattle.std.proofs.Common.{◌∷◌, ◌++◌, [], ◌∙◌, ap, sym, subst}
use Rattle.pp_rs.proofs.runs.CollectingLemmas.{Appended, appended_none, appended_more, appended_before, appended_all}
use Rattle.pp_rs.proofs.pp.all_items.gather.Goals as goal

pub items-init : goal.items-init
items-init c = appended_none c.args.pp.now c.args.items.now.items

pub items-preserved : goal.items-preserved
items-preserved c =
    let pushed = (c.in_ok-push.ensures {u = tt}).items ∙ ap (λ items. items ++ c.in-Some.item ∷ []) (c.in_ok-reserve.ensures {u = tt}).items in
    appended_more c.args.pp.now c.args.items.now.items c.items.items.items c.push.new.self.items c.items.pp c.next.new.self c.in-Some.item
    c.in-Some.ensures.steps c.items.invariant (sym c.is_refusal.ensures ∙ c.if-is_refusal.false) pushed

pub returns-then-is_refusal-clause-appended : goal.returns-then-is_refusal-clause-appended
returns-then-is_refusal-clause-appended c =
    let old = c.args.items.now.items in
    let came = subst (λ items. Appended c.args.pp.now old items c.items.pp) (sym (c.in_ok-reserve.ensures {u = tt}).items) c.items.invariant in
    appended_before c.args.pp.now old c.reserve.new.self.items c.items.pp c.next.new.self c.in-Some.item c.in-Some.ensures.steps came
    (sym c.is_refusal.ensures ∙ c.if-is_refusal.true)

pub returns-in_default-clause-all : goal.returns-in_default-clause-all
returns-in_default-clause-all c =
    let old = c.args.items.now.items in
    let came = subst (λ items. Appended c.args.pp.now old items c.items.pp) (sym (c.in_ok-reserve.ensures {u = tt}).items) c.items.invariant in
    appended_all c.args.pp.now old c.reserve.new.self.items c.items.pp c.next.new.self c.in_default.ensures.steps came
