use Rattle.std.proofs.Common.{◌≡◌, ◌≤◌, ◌<◌, sym, ◌∙◌, ap, subst, length, take, get_or, true, false, arith}
use Rattle.std.specs.List.{list_all}
use Rattle.std.specs.Str.{IsUtf8}
use Rattle.pp_lexer.specs.inner.Fronts.{goes_on}
use Rattle.pp_lexer.proofs.characters.StraightLemmas.{cut_before_line_end, line_passed}
use Rattle.pp_lexer.proofs.lexer.replace_comments.skip_to_line_end.Goals as goal

pub range_from-requires : goal.range_from-requires
range_from-requires c = grind (arith, cut_before_line_end)

pub returns-clause-state : goal.returns-clause-state
returns-clause-state c =
    let text = c.left-left.result.text.now in
    let n = c.line_length-count.result in
    let u : IsUtf8 text = subst IsUtf8 c.as_bytes-bytes.ensures.value c.as_bytes-bytes.ensures.utf8 in
    let le : n ≤ length text = omega (arith, ap length c.as_bytes-bytes.ensures.value) in
    let stops : n < length text → goes_on (get_or text n 0) ≡ false =
    subst (λ t. n < length t → goes_on (get_or t n 0) ≡ false) c.as_bytes-bytes.ensures.value c.line_length-count.ensures.stops in
    let passes : list_all goes_on (take n text) ≡ true = ap (λ t. list_all goes_on (take n t)) (sym c.as_bytes-bytes.ensures.value)
    ∙ c.line_length-count.ensures.passes in
    line_passed c.args.inner.now c.at.result c.left-left.result.line c.left-left.result.at n text c.range_from.result.now u
    (cut_before_line_end n text le stops) passes c.left-left.ensures.value c.range_from.ensures.value c.at.ensures

pub returns-clause-forward : goal.returns-clause-forward
returns-clause-forward c =
    omega (arith, ap (λ r. r.offset) c.left-left.ensures.value, ap (λ r. r.offset) c.at.ensures)
