use Rattle.std.proofs.Common.{◌≡◌, ◌++◌, refl, arith}
use Rattle.std.specs.Fmt.{decimal}
use Rattle.std.specs.Str.{encode_utf8_all}
use Rattle.std.proofs.Output.{has_written_append, has_written_of_eq}
use Rattle.pp_lexer.specs.Spelling.{integer_literal}
use Rattle.pp_lexer.proofs.spelling.ItemTextLemmas.{integer_bytes}
use Rattle.pp_lexer.proofs.token.spelling.write_integer.Goals as goal

pub returns : goal.returns
returns g c = λ plain ok.
    let digits = c.in_ok-write.ensures.writes plain refl in
    let letters = c.write_str.ensures.writes digits.plain ok in
    let e : decimal c.args.integer.value ++ c.integer_letters.result.now ≡ encode_utf8_all (integer_literal c.args.integer) =
    grind (arith, integer_bytes) in
    has_written_of_eq _ _ _ _ _ e (has_written_append _ _ _ _ _ _ digits letters)
