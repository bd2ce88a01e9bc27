use Rattle.std.proofs.Common.{◌++◌, ◌∙◌, ap}
use Rattle.std.specs.Str.{chars}
use Rattle.std.proofs.lemmas.Str.{IsUtf8-string_bytes, chars-nil}
use Rattle.pp_lexer.specs.Spelling.{spelling}
use Rattle.pp_rs.specs.TokenRefs.{value_of}
use Rattle.glslpp_parts.proofs.SpelledLemmas.{spelled_read}
use Rattle.glslpp_parts.proofs.words.spelled_word.Goals as goal

pub returns : goal.returns
returns c =
    let pushed = (c.in_ok-push_to.ensures {u = tt}).appended in
    λ rules. spelled_read rules (value_of c.args.value) _ (IsUtf8-string_bytes c.push_to.new.text)
    (pushed ∙ ap (λ t. t ++ spelling (value_of c.args.value)) (ap chars c.new-word.ensures.bytes ∙ chars-nil))
