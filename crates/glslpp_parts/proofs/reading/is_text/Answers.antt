use Rattle.std.proofs.Common.{◌∙◌, ap, sym}
use Rattle.std.specs.Cmp.Lexicographic.{bytes_decides}
use Rattle.std.specs.Str.{chars}
use Rattle.std.proofs.Math.Utf8.{encodes}
use Rattle.std.proofs.lemmas.Str.{encodes-chars}
use Rattle.glslpp_parts.proofs.reading.is_text.Goals as goal

pub returns : goal.returns
returns c =
    let decides = bytes_decides c.as_str.result.now c.args.word.now in (
      (λ h. sym c.as_str.ensures ∙ ap chars (decides.0 (sym c.eq.ensures ∙ h))),
      (λ e. c.eq.ensures ∙ decides.1 (sym (encodes-chars c.as_str.result.now c.as_str.utf8) ∙ ap encodes (c.as_str.ensures ∙ e)
          ∙ encodes-chars c.args.word.now c.utf8.word)),
    )
