use Rattle.std.proofs.Common.{subst, refl, arith}
use Rattle.pp_lexer.specs.declared.rules.Rules.{Rules}
use Rattle.pp_lexer.specs.inner.PlainWords.{IsPlainComment}
use Rattle.pp_lexer.proofs.items.PassedCommentsLemmas.{comment_passed}
use Rattle.pp_lexer.proofs.lexer.LexerState.skip_comment.Goals as goal

pub range_from-requires : goal.range_from-requires
range_from-requires c = grind arith

pub returns : goal.returns
returns c =
    let w : IsPlainComment c.left-left.result.text.now c.in-Some.comment =
    subst (λ t. IsPlainComment t c.in-Some.comment) c.as_bytes.ensures.value c.in-Some.ensures in
    let b = λ (rules : Rules). comment_passed rules c.args.self.now.flags c.args.self.now.inner c.go.new.self c.left-left.result.line c.left-left.result.at
    c.left-left.result.text.now c.range_from.result.now c.in-Some.comment c.left-left.ensures.rest_is w c.range_from.ensures.value
    c.go.ensures in
    record { items = λ rules. (b rules).same; at_end = λ rules. (b rules).at_end; places = λ rules. (b rules).places; over = refl; place = refl }
