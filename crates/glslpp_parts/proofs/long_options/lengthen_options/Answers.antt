use Rattle.std.proofs.Common.{◌∙◌, ap, sym, map, length, ◌<◌, arith, nat_eq}
use Rattle.std.specs.Prelude.{codes, string_bytes}
use Rattle.std.specs.Cmp.Lexicographic.{pointwise}
use Rattle.std.proofs.lemmas.List.{set-get_or}
use Rattle.glslpp_parts.proofs.LongOptionsLemmas.{stays_from}
use Rattle.glslpp_parts.specs.LongOptions.{by_long_name}
use Rattle.glslpp_parts.proofs.long_options.lengthen_options.Goals as goal

pub returns-then-eq : goal.returns-then-eq
returns-then-eq c =
    let below : c.loop-word.word-index < length c.loop-word.words = omega arith in
    ap (map string_bytes) (set-get_or c.loop-word.words c.loop-word.word-index c.word-item.result)
    ∙ stays_from by_long_name string_bytes c.loop-word.words c.loop-word.word-index c.word-item.result below
    (ap (λ text. pointwise nat_eq text (codes "--")) (sym c.as_str.ensures.value) ∙ sym c.if-eq.ensures)
    ∙ sym c.loop-word.invariant
