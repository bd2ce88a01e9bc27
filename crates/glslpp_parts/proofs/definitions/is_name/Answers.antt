use Rattle.std.proofs.Common.{arith}
use Rattle.std.proofs.lemmas.Result.{IfOk-weaker}
use Rattle.pp_lexer.specs.Rules.{pp_rs}
use Rattle.glslpp_parts.proofs.SpelledLemmas.{name_read}
use Rattle.glslpp_parts.proofs.definitions.is_name.Goals as goal

pub returns : goal.returns
returns c =
    IfOk-weaker c.is_read_as.result _ _ (λ is h. (
      (λ yes. record { short = omega arith; read = λ rules. name_read pp_rs rules c.args.text.now c.utf8.text (h.0 yes) }),
      (λ name. h.1 (name.read pp_rs)),
    )) c.is_read_as.ensures
