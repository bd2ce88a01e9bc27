use Rattle.std.proofs.Common.{◌∙◌, ap, sym}
use Rattle.std.specs.Cmp.Lexicographic.{bytes_decides}
use Rattle.std.specs.Str.{chars}
use Rattle.std.proofs.Math.Utf8.{encodes}
use Rattle.std.proofs.lemmas.Str.{chars-IsAscii, encodes-chars}
use Rattle.glslpp_parts.proofs.reading.is_ascii_text.Goals as goal

pub returns : goal.returns
returns c =
    let decides = bytes_decides c.args.ascii.now c.args.text.now in
    let same = chars-IsAscii c.args.ascii.now c.requires in (
      (λ h. sym same ∙ ap chars (decides.0 (sym c.eq.ensures ∙ h))),
      (λ e. c.eq.ensures ∙ decides.1 (sym (encodes-chars c.args.ascii.now c.utf8.ascii) ∙ ap encodes (same ∙ e)
          ∙ encodes-chars c.args.text.now c.utf8.text)),
    )
