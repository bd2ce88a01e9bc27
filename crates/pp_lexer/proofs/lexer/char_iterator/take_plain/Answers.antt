use Rattle.std.proofs.Common.{◌≡◌, ◌<◌, ◌+◌, sym, ◌∙◌, ap, subst, length, true, arith, get_or}
use Rattle.std.specs.Str.{IsUtf8}
use Rattle.pp_lexer.specs.inner.Fronts.{is_plain}
use Rattle.pp_lexer.specs.Reading.{IsAhead, spots}
use Rattle.pp_lexer.proofs.characters.PlainFrontsLemmas.{cut_one, one_ahead}
use Rattle.pp_lexer.proofs.lexer.char_iterator.take_plain.Goals as goal

pub range_from-requires : goal.range_from-requires
range_from-requires c = grind (arith, cut_one)

pub returns : goal.returns
returns c =
    let text = c.left-left.result.text.now in
    let same = c.as_bytes-bytes.ensures.value in
    let u : IsUtf8 text = subst IsUtf8 same c.as_bytes-bytes.ensures.utf8 in
    let some : 0 < length text = omega (arith, ap length same) in
    let plain : is_plain (get_or text 0 0) ≡ true = ap (λ t. is_plain (get_or t 0 0)) (sym same) ∙ sym c.is_plain.ensures ∙ c.if-not-is_plain.false in
    subst
    (λ t. IsAhead (record { c = get_or t 0 0; line = c.left-left.result.line; begin = c.left-left.result.at; end = c.left-left.result.at + 1 })
    (spots c.at.result.offset c.at.result.rest) (spots c.args.inner.now.offset c.args.inner.now.rest))
    (sym same)
    (one_ahead c.left-left.result.line c.left-left.result.at text c.range_from.result.now c.args.inner.now c.at.result u some plain
    c.range_from.ensures.value c.left-left.ensures.value c.at.ensures)
