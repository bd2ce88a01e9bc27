use Rattle.std.proofs.Common.{◌≡◌, ◌<◌, ◌≤◌, ◌-◌, ◌∙◌, ap, subst, length, drop, take, get_or, true, false, arith, sym}
use Rattle.std.specs.List.{list_all}
use Rattle.pp_lexer.specs.inner.Fronts.{goes_on}
use Rattle.pp_lexer.proofs.characters.PlainCommentsLemmas.{plain_line}
use Rattle.pp_lexer.proofs.numbers.PlainNumbersLemmas.{length_whole}
use Rattle.pp_lexer.proofs.lexer.plain.comment.line_comment.Goals as goal

pub returns : goal.returns
returns c =
    let bytes = c.args.bytes.now in
    let n = c.line_length-taken.result in
    let rest : take (length bytes - 2) (drop 2 bytes) ≡ drop 2 bytes = length_whole 2 bytes in
    let within : n ≤ length (drop 2 bytes) = omega (arith, c.line_length-taken.ensures.within, ap length rest) in
    let passes : list_all goes_on (take n (drop 2 bytes)) ≡ true = ap (λ t. list_all goes_on (take n t)) (sym rest)
    ∙ c.line_length-taken.ensures.passes in
    let stops : n < length (drop 2 bytes) → goes_on (get_or (drop 2 bytes) n 0) ≡ false =
    subst (λ t. n < length t → goes_on (get_or t n 0) ≡ false) rest c.line_length-taken.ensures.stops in
    plain_line bytes n c.requires.utf8 c.requires.some c.requires.slash c.requires.second within passes stops (c.ends_line.ensures c.if-not-ends_line.false)
