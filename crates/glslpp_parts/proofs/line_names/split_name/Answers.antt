use Rattle.std.proofs.Common.{◌≡◌, ◌+◌, arith, refl, Some}
use Rattle.std.proofs.lemmas.Bool.{false≢true}
use Rattle.std.proofs.lemmas.Str.Pattern.{split_once_first}
use Rattle.glslpp_parts.proofs.LineNamesLemmas.{cut_after_name, name_told, named_at_first}
use Rattle.glslpp_parts.proofs.line_names.split_name.Goals as goal

pub returns-clause-name : goal.returns-clause-name
returns-clause-name c =
    let rest = c.args.rest.now in
    let first = split_once_first 34 rest (Some (c.in_ok-front.front, c.in_ok-front.inner)) c.in_ok-front.ensures.cases (omega arith) in
    let named = named_at_first rest c.in_ok-front.front.now c.in_ok-before.named.now first.0 first.1 c.in_ok-before.ensures.back in
    let n = c.in_ok-name_length.field-0 in
    let fits = c.in_ok-name_length.ensures.fits in
    let end : c.saturating_add-length.result ≡ n + 2 = omega (arith, fits) in
    name_told rest c.in_ok-front.inner.now c.in_ok-before.named.now c.in_ok-name.name.now n c.saturating_add-length.result first.2 named
    c.in_ok-name_length.ensures.value end c.in_ok-name.ensures.front

pub returns-in_err-name-clause-name : goal.returns-in_err-name-clause-name
returns-in_err-name-clause-name c =
    let rest = c.args.rest.now in
    let first = split_once_first 34 rest (Some (c.in_ok-front.front, c.in_ok-front.inner)) c.in_ok-front.ensures.cases (omega arith) in
    let named = named_at_first rest c.in_ok-front.front.now c.in_ok-before.named.now first.0 first.1 c.in_ok-before.ensures.back in
    let n = c.in_ok-name_length.field-0 in
    let fits = c.in_ok-name_length.ensures.fits in
    let end : c.saturating_add-length.result ≡ n + 2 = omega (arith, fits) in
    let cut = c.in_ok-before.ensures.variant in
    let no = c.in_err-name.ensures.variant in
    let b = cut_after_name rest c.in_ok-front.inner.now c.in_ok-before.named.now _ n c.saturating_add-length.result c.utf8.rest (cut.0 refl) c.in_ok-before.ensures.back first.2 named
    c.in_ok-name_length.ensures.value end in
    absurd (false≢true (no.1 b))
