use Rattle.std.proofs.Common.{◌≡◌, ◌≤◌, ◌<◌, sym, ◌∙◌, ap, subst, length, take, get_or, true, false, arith}
use Rattle.std.specs.List.{list_all}
use Rattle.std.specs.Str.{IsUtf8, IsCharBoundary}
use Rattle.pp_lexer.specs.inner.Fronts.{is_starless}
use Rattle.pp_lexer.proofs.characters.StraightLemmas.{EndsBlockAlike, cut_after_starless, starless_passed}
use Rattle.pp_lexer.proofs.lexer.replace_comments.skip_starless.Goals as goal

pub range_from-requires : goal.range_from-requires
range_from-requires c = grind arith

pub returns : goal.returns
returns c =
    let text = c.left-left.result.text.now in
    let n = c.starless_length-count.result in
    let u : IsUtf8 text = subst IsUtf8 c.as_bytes-bytes.ensures.value c.as_bytes-bytes.ensures.utf8 in
    let le : n ≤ length text = omega (arith, ap length c.as_bytes-bytes.ensures.value) in
    let stops : n < length text → is_starless (get_or text n 0) ≡ false =
    subst (λ t. n < length t → is_starless (get_or t n 0) ≡ false) c.as_bytes-bytes.ensures.value c.starless_length-count.ensures.stops in
    let cut : IsCharBoundary text n = cut_after_starless n text le stops in
    let passes : list_all is_starless (take n text) ≡ true = ap (λ t. list_all is_starless (take n t)) (sym c.as_bytes-bytes.ensures.value)
    ∙ c.starless_length-count.ensures.passes in
    let same_end : EndsBlockAlike c.args.inner.now c.at.result =
    starless_passed c.args.inner.now c.at.result c.left-left.result.line c.left-left.result.at n text c.range_from.result.now u cut passes
    c.left-left.ensures.value c.range_from.ensures.value c.at.ensures in
    record {
      state = same_end.state;
      forward = omega (arith, ap (λ r. r.offset) c.left-left.ensures.value, ap (λ r. r.offset) c.at.ensures);
      shorter = same_end.shorter;
    }
