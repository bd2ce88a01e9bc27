use Rattle.std.proofs.Common.{codes, refl, string_bytes}
use Rattle.std.specs.Str.{chars}
use Rattle.std.proofs.lemmas.Str.{IsUtf8-string_bytes}
use Rattle.glslpp_html.proofs.Characters.{chars_appended, chars_pushed, chars_same, two_pushed}
use Rattle.glslpp_html.proofs.whole.push_name.Goals as goal

pub returns : goal.returns
returns c =
    two_pushed c.push_str-2.result (string_bytes c.args.text.now) (string_bytes c.push_str.new.self) (string_bytes c.push_str-2.new.self)
    (chars c.args.name.now) (codes "\n")
    (chars_appended (string_bytes c.args.text.now) (string_bytes c.push_str.new.self) c.args.name.now (chars c.args.name.now)
    (IsUtf8-string_bytes c.args.text.now) c.in_ok-push_str.ensures.bytes refl)
    (chars_pushed c.push_str-2.result (string_bytes c.push_str.new.self) (string_bytes c.push_str-2.new.self) (codes "\n") (codes "\n")
    (IsUtf8-string_bytes c.push_str.new.self) c.push_str-2.ensures.bytes (chars_same (codes "\n") refl))
