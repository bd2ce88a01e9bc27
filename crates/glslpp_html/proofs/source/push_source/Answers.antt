use Rattle.std.proofs.Common.{◌∙◌, ◌++◌, ap, length, refl, sym, string_bytes}
use Rattle.std.specs.Prelude.{is_ok, if◌then◌else◌}
use Rattle.std.proofs.lemmas.Str.{IsUtf8-string_bytes}
use Rattle.glslpp_html.proofs.Sources.{none_written, whole_written}
use Rattle.glslpp_html.proofs.source.push_source.Goals as goal

pub push_lines-requires : goal.push_lines-requires
push_lines-requires c = none_written _ c.utf8.source refl c.new.ensures.bytes

pub returns : goal.returns
returns c =
    let lined = c.in_ok-push_lines.ensures.source in
    let same = c.in_ok-push_up_to.ensures.source ∙ lined in
    whole_written c.push_str.result (string_bytes c.args.page.now) (string_bytes c.push_str.new.self) c.push_up_to.new.self c.args.source.now
    (IsUtf8-string_bytes c.args.page.now) c.in_ok-push_up_to.ensures.written same
    (c.in_ok-push_up_to.ensures.whole (ap length (sym lined)))
    (c.push_str.ensures.bytes ∙ ap (λ text. if is_ok c.push_str.result then string_bytes c.args.page.now ++ text else string_bytes c.args.page.now)
    c.as_str.ensures.value)
