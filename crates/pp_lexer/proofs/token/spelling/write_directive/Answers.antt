use Rattle.std.proofs.Common.{refl, arith}
use Rattle.std.proofs.lemmas.List.{append-nil, take_all}
use Rattle.std.proofs.Output.{has_written_append, has_written_of_eq}
use Rattle.pp_lexer.proofs.spelling.ItemTextLemmas.{directive_bytes, one_more}
use Rattle.pp_lexer.proofs.token.spelling.write_directive.Goals as goal

pub loop-token-init : goal.loop-token-init
loop-token-init g c = grind (arith, append-nil)

pub loop-token-preserved : goal.loop-token-preserved
loop-token-preserved g c = λ plain.
    let so_far = c.loop-token.invariant plain in
    let space = c.in_ok-write_str-2.ensures.writes so_far.plain refl in
    let word = c.in_ok-write_word.ensures space.plain refl in
    has_written_of_eq _ _ _ _ _
    (one_more c.args.word.now c.as_slice-token-items.result.now c.loop-token.token-index c.token-item.result (omega arith) c.token-item.is)
    (has_written_append _ _ _ _ _ _ so_far (has_written_append _ _ _ _ _ _ space word))

pub returns : goal.returns
returns g c = grind (arith, take_all, directive_bytes)
