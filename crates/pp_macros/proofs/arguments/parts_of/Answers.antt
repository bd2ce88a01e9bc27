use Rattle.std.proofs.Common.{◌≡◌, ◌∙◌, length, sym, arith}
use Rattle.std.proofs.lemmas.List.Edits.{between_more}
use Rattle.std.proofs.lemmas.List.{drop_more}
use Rattle.pp_macros.proofs.taking.PieceLemmas.{cut_comma, cut_token, cut_end}
use Rattle.pp_macros.proofs.arguments.parts_of.Goals as goal

pub loop-at-preserved-then-ends_argument : goal.loop-at-preserved-then-ends_argument
loop-at-preserved-then-ends_argument c =
    cut_comma c.args.tokens.now c.loop-at.parts.items c.loop-at.start c.loop-at.at c.loop-at.depth c.loop-at.invariant c.index-tokens-at.result _
    (rw (← c.index-tokens-at.is) at (drop_more c.args.tokens.now c.loop-at.at c.index-tokens-at.result (omega arith)))
    (sym c.ends_argument.ensures ∙ c.if-ends_argument.true) c.in_ok-push.ensures.items

pub loop-at-preserved : goal.loop-at-preserved
loop-at-preserved c =
    rw c.nesting_after-depth.ensures.is
    (cut_token c.args.tokens.now c.loop-at.parts.items c.loop-at.start c.loop-at.at c.loop-at.depth c.loop-at.invariant c.index-tokens-at.result
    (rw (← c.index-tokens-at.is) at (drop_more c.args.tokens.now c.loop-at.at c.index-tokens-at.result (omega arith)))
    (sym c.ends_argument.ensures ∙ c.if-ends_argument.false)
    (rw (← c.index-tokens-at.is) at (between_more c.args.tokens.now c.loop-at.start c.loop-at.at c.index-tokens-at.result c.loop-at.invariant.begun (omega arith))))

pub returns : goal.returns
returns c =
    let ended : c.loop-at.at ≡ length c.args.tokens.now = omega arith in
    let done = cut_end c.args.tokens.now c.loop-at.parts.items c.loop-at.start c.loop-at.at c.loop-at.depth c.loop-at.invariant c.push-2.new.self.items
    (sym ended) (rw ended c.in_ok-push-2.ensures.items) in
    record { same = c.take_parts.ensures.same; cut = done.0; order = done.1 }
