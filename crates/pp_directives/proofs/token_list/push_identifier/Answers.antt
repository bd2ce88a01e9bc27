use Rattle.std.proofs.Common.{◌∙◌, sym, ap}
use Rattle.pp_lexer.specs.declared.token.Token.{Token}
use Rattle.pp_macros.specs.inner.Bodies.{BodyTokens, with_token}
use Rattle.pp_directives.proofs.PlainWordLemmas.{identifier_token}
use Rattle.pp_directives.proofs.token_list.push_identifier.Goals as goal

pub returns-then-branch : goal.returns-then-branch
returns-then-branch c =
    rw c.if-branch.true at c.in_ok-push_parameter.ensures.body
    ∙ ap (λ (token : Token). with_token c.args.body.now token) (identifier_token c.args.word c.requires.identifier c.requires.ascii)

pub push_other-requires-clause-other : goal.push_other-requires-clause-other
push_other-requires-clause-other c =
    let same = ap (λ (body : BodyTokens). body.parameters) (rw c.if-branch.false at c.in_ok-push_parameter.ensures.body) in
    let value = ap (λ (token : Token). token.value)
    (identifier_token c.args.word c.requires.identifier c.requires.ascii ∙ sym c.in_ok-word_token.ensures.word) in
    rw (same, ← value) (c.in_ok-push_parameter.ensures.other c.if-branch.false)
