use Rattle.std.proofs.Common.{◌∙◌, sym, ap}
use Rattle.pp_macros.specs.inner.Bodies.{BodyTokens}
use Rattle.pp_directives.proofs.ContentLemmas.{content-more}
use Rattle.pp_directives.proofs.content.content_body.Goals as goal

pub content-preserved-in_ok-push : goal.content-preserved-in_ok-push
content-preserved-in_ok-push c =
    let before = c.content.invariant in
    let n = c.in_ok-token.ensures in
    let t = c.in_ok-convert_lexer_token.ensures in
    let more = c.in_ok-push.ensures in
    let taken = n.takes in
    let next = rw c.in-Some.is at n.is in
    record {
      whole = content-more _ _ c.in-Some.token next taken.rest _ _ _ _ (sym c.is_newline.ensures ∙ c.if-not-is_newline.true) (sym t.is)
          (ap (λ (body : BodyTokens). body.tokens) more) before.whole;
      unspent = taken.spent;
      parameters = ap (λ (body : BodyTokens). body.parameters) more ∙ before.parameters;
    }
