use Rattle.std.proofs.Common.{◌∙◌, ◌++◌, ap, refl, string_bytes}
use Rattle.std.specs.Str.{chars}
use Rattle.std.proofs.lemmas.Str.{IsUtf8-string_bytes, chars-nil}
use Rattle.glslpp_html.specs.Pages.{name_line}
use Rattle.glslpp_html.proofs.Characters.{chars_appended}
use Rattle.glslpp_html.proofs.Showing.{from_nothing}
use Rattle.glslpp_html.proofs.whole.whole_text.Goals as goal

pub returns : goal.returns
returns c =
    let named = string_bytes c.push_name.new.text in
    chars_appended named (string_bytes c.push_str.new.self) c.args.file.text.now (chars c.args.file.text.now) (IsUtf8-string_bytes c.push_name.new.text)
    c.in_ok-push_str.ensures.bytes refl
    ∙ ap (λ t. t ++ chars c.args.file.text.now)
    (from_nothing named (string_bytes c.new-text.result) (name_line c.args.file.name.now) c.new-text.ensures.bytes c.in_ok-push_name.ensures)
