use Rattle.std.proofs.Common.{◌≡◌, ◌∙◌, ℕ, ◌+◌, ◌<◌, List, ◌∷◌, length, drop, map, refl, sym, ap, Option, Some, None, Bor, arith, tests, [], ◌≤◌}
use Rattle.std.specs.Prelude.{MatchOption}
use Rattle.std.specs.Slice.{IsItemAt}
use Rattle.std.proofs.lemmas.List.{drop-map, drop_all, drop_more}
use Rattle.pp_directives.specs.declared.token_list.LineToken.{LineToken}
use Rattle.pp_directives.specs.inner.TokenLists.{token_of}
use Rattle.pp_directives.proofs.token_list.LineReads.token_at.Goals as goal

token_found : (tokens : List LineToken) (k : ℕ) (found : Option (Bor LineToken)) → IsItemAt tokens k found
    → MatchOption found (drop k (map token_of tokens) ≡ [])
    (λ token. drop k (map token_of tokens) ≡ token_of token.now ∷ drop (k + 1) (map token_of tokens))
token_found tokens k None is =
    let past : length tokens ≤ k = grind (arith, tests, is.0) in
    drop-map token_of k tokens ∙ ap (map token_of) (drop_all k tokens past)
token_found tokens k (Some found) is =
    let within : k < length tokens = grind (arith, tests, is.0) in
    let here : drop k tokens ≡ found.now ∷ drop (k + 1) tokens = drop_more tokens k found.now within ∙ ap (λ (t : LineToken). t ∷ drop (k + 1) tokens) (sym is.1) in
    rw (drop-map token_of k tokens, here, drop-map token_of (k + 1) tokens) refl

pub returns-clause-found : goal.returns-clause-found
returns-clause-found c =
    rw (← c.self.view_is) (token_found c.self.inside.tokens.items c.args.position c.get.result (rw c.deref.ensures.value at c.get.ensures.lookup))
