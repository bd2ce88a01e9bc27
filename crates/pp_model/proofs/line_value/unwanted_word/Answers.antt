use Rattle.std.proofs.Common.{◌∙◌, ap, ℕ, List}
use Rattle.std.specs.Str.{chars}
use Rattle.pp_lexer.specs.declared.token.PreprocessorError.TheVariants.{UnexpectedToken}
use Rattle.pp_lexer.specs.declared.token.TokenValue.TheVariants.{Ident}
use Rattle.pp_model.proofs.TextLemmas.{chars-defined}
use Rattle.pp_model.proofs.line_value.unwanted_word.Goals as goal

pub returns-in_ok-from_str-in-Defined : goal.returns-in_ok-from_str-in-Defined
returns-in_ok-from_str-in-Defined c =
    rw c.in-Defined.is (ap (λ (t : List ℕ). (UnexpectedToken (Ident t), c.in-Defined.place)) (c.from-name.ensures
    ∙ ap chars (c.in_ok-from_str-in-Defined.ensures {u = tt}).ok ∙ chars-defined))
