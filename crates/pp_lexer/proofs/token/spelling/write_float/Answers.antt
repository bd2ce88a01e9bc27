use Rattle.std.proofs.Common.{◌≡◌, ◌++◌, refl, arith}
use Rattle.std.specs.Str.{encode_utf8_all}
use Rattle.std.proofs.Output.{has_written_append, has_written_of_eq}
use Rattle.std.proofs.lemmas.Str.{encodes-chars}
use Rattle.pp_lexer.specs.Spelling.{float_literal}
use Rattle.pp_lexer.proofs.spelling.ItemTextLemmas.{float_bytes}
use Rattle.pp_lexer.proofs.token.spelling.write_float.Goals as goal

pub returns : goal.returns
returns g c = λ plain ok.
    let float = c.args.float.now in
    let text = c.in_ok-write_str.ensures.writes plain refl in
    let width = c.write_str-2.ensures.writes text.plain ok in
    let bytes = encodes-chars c.as_str.result.now c.as_str.utf8 in
    let e : c.as_str.result.now ++ c.float_letters.result.now ≡ encode_utf8_all (float_literal float.text float.width) =
    grind (arith, float_bytes) in
    has_written_of_eq _ _ _ _ _ e (has_written_append _ _ _ _ _ _ text width)
