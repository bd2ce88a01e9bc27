use Rattle.std.proofs.Common.{◌≡◌, ◌∙◌, sym, ap}
use Rattle.pp_macros.specs.inner.Bodies.{BodyTokens, token_of}
use Rattle.pp_macros.proofs.defined_names.BodyLemmas.{parameter_found}
use Rattle.pp_macros.proofs.define.Body.push.Goals as goal

pub put-requires-clause-found : goal.put-requires-clause-found
put-requires-clause-found c =
    let same : c.self.inside.parameters ≡ c.args.self.now.parameters = ap (λ (body : BodyTokens). body.parameters) c.self.view_is in
    rw (c.parameter_at.ensures, ← same)
    (parameter_found c.self.inside.parameters c.args.token.value c.in-Some.position c.args.token.location (sym c.position_of.ensures ∙ c.in-Some.is)).0

pub returns-in-Some : goal.returns-in-Some
returns-in-Some c =
    let same : c.self.inside.parameters ≡ c.args.self.now.parameters = ap (λ (body : BodyTokens). body.parameters) c.self.view_is in
    let token : token_of c.args.self.now.parameters c.parameter_at.result ≡ c.args.token
    = rw (c.parameter_at.ensures, ← same)
    (parameter_found c.self.inside.parameters c.args.token.value c.in-Some.position c.args.token.location (sym c.position_of.ensures ∙ c.in-Some.is)).1 in
    rw token at c.put.ensures
