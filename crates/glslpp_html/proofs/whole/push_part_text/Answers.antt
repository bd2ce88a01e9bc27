use Rattle.std.proofs.Common.{refl, string_bytes}
use Rattle.std.specs.Str.{chars}
use Rattle.std.proofs.lemmas.Str.{IsUtf8-string_bytes}
use Rattle.glslpp_html.specs.Pages.{beginning_of}
use Rattle.glslpp_html.proofs.Characters.{chars_pushed, two_pushed}
use Rattle.glslpp_html.proofs.whole.push_part_text.Goals as goal

pub returns : goal.returns
returns c =
    let part = c.args.part.now in
    let begun = string_bytes c.push_beginning.new.text in
    two_pushed c.push_str.result (string_bytes c.args.text.now) begun (string_bytes c.push_str.new.self) (beginning_of part) (chars part.text.now)
    c.in_ok-push_beginning.ensures
    (chars_pushed c.push_str.result begun (string_bytes c.push_str.new.self) part.text.now (chars part.text.now)
    (IsUtf8-string_bytes c.push_beginning.new.text) c.push_str.ensures.bytes refl)
