use Rattle.std.proofs.Common.{◌≡◌, ◌∙◌, sym, ap}
use Rattle.std.specs.Str.{chars}
use Rattle.pp_lexer.specs.declared.token.TokenValue.TheVariants.{Ident}
use Rattle.pp_macros.specs.inner.Bodies.{BodyTokens, token_of}
use Rattle.pp_macros.proofs.defined_names.BodyLemmas.{parameter_found}
use Rattle.pp_macros.proofs.define.Body.push_parameter.Goals as goal

pub put-requires-clause-found : goal.put-requires-clause-found
put-requires-clause-found c =
    let same : c.self.inside.parameters ≡ c.args.self.now.parameters = ap (λ (body : BodyTokens). body.parameters) c.self.view_is in
    rw (c.parameter_at.ensures, ← same)
    (parameter_found c.self.inside.parameters (Ident (chars c.args.name.now)) c.in-Some.position c.args.location (sym c.position.ensures ∙ c.in-Some.is)).0

pub returns-clause-body : goal.returns-clause-body
returns-clause-body c =
    let same : c.self.inside.parameters ≡ c.args.self.now.parameters = ap (λ (body : BodyTokens). body.parameters) c.self.view_is in
    let token : token_of c.args.self.now.parameters c.parameter_at.result ≡ record { value = Ident (chars c.args.name.now); location = c.args.location }
    = rw (c.parameter_at.ensures, ← same)
    (parameter_found c.self.inside.parameters (Ident (chars c.args.name.now)) c.in-Some.position c.args.location (sym c.position.ensures ∙ c.in-Some.is)).1 in
    rw token at c.in_ok-put.ensures
