use Rattle.std.proofs.Common.{◌∙◌, ap, sym}
use Rattle.std.specs.Prelude.{codes}
use Rattle.pp_model.specs.Faults.{word_line}
use Rattle.pp_reference.proofs.LeftLemmas.{chars-elif, chars-endif, chars-if, chars-pragma, word_stays, elif_of_block, endif_of_block, elif_outside, opened_dead, item_line}
use Rattle.pp_reference.proofs.SourceStepLemmas.{ok_more}
use Rattle.pp_reference.proofs.source_reader.faults.left_line.Goals as goal

pub returns-in-Elif : goal.returns-in-Elif
returns-in-Elif c =
    let stays = elif_of_block c.args.live c.args.block.now c.in-Directive.directive c.in-Elif.is (sym c.is_some.ensures ∙ c.if-is_some.true) in
    ok_more _ _ c.word_line.result
    (λ line is. is ∙ ap (word_line c.in-Directive.word) chars-elif
    ∙ sym (word_stays c.in-Directive.word c.args.live c.args.block.now c.in-Directive.directive c.args.sight.now (codes "elif") c.in-Directive.is stays))
    c.word_line.ensures

pub returns-in-Elif-2 : goal.returns-in-Elif-2
returns-in-Elif-2 c =
    let stays = elif_outside c.args.live c.args.block.now c.in-Directive.directive c.in-Elif-2.is (sym c.is_some.ensures ∙ c.if-is_some.false) c.if-live.true in
    ok_more _ _ c.word_line-in-Elif-2.result
    (λ line is. is ∙ ap (word_line c.in-Directive.word) chars-if
    ∙ sym (word_stays c.in-Directive.word c.args.live c.args.block.now c.in-Directive.directive c.args.sight.now (codes "if") c.in-Directive.is stays))
    c.word_line-in-Elif-2.ensures

pub returns-in-Endif : goal.returns-in-Endif
returns-in-Endif c =
    let stays = endif_of_block c.args.live c.args.block.now c.in-Directive.directive c.in-Endif.is (sym (c.if-is_some-2.ensures {u = tt})) in
    ok_more _ _ c.word_line-in-Endif.result
    (λ line is. is ∙ ap (word_line c.in-Directive.word) chars-endif
    ∙ sym (word_stays c.in-Directive.word c.args.live c.args.block.now c.in-Directive.directive c.args.sight.now (codes "endif") c.in-Directive.is stays))
    c.word_line-in-Endif.ensures

pub returns-in-If : goal.returns-in-If
returns-in-If c =
    let stays = opened_dead c.args.live c.args.block.now c.in-Directive.directive c.in-If.is c.if-not-live.true in
    ok_more _ _ c.word_line-in-If.result
    (λ line is. is ∙ ap (word_line c.in-Directive.word) chars-if
    ∙ sym (word_stays c.in-Directive.word c.args.live c.args.block.now c.in-Directive.directive c.args.sight.now (codes "if") c.in-Directive.is stays))
    c.word_line-in-If.ensures

pub returns-in-Version : goal.returns-in-Version
returns-in-Version c =
    let stays = item_line c.args.live c.args.block.now c.in-Directive.directive c.in-Version.is c.if-live-2.true in
    ok_more _ _ c.word_line-in-Version.result
    (λ line is. is ∙ ap (word_line c.in-Directive.word) chars-pragma
    ∙ sym (word_stays c.in-Directive.word c.args.live c.args.block.now c.in-Directive.directive c.args.sight.now (codes "pragma") c.in-Directive.is stays))
    c.word_line-in-Version.ensures
