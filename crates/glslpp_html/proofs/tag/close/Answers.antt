use Rattle.std.proofs.Common.{◌≡◌, ◌++◌, codes, refl, string_bytes}
use Rattle.std.specs.Str.{chars}
use Rattle.std.proofs.lemmas.Str.{IsUtf8-string_bytes}
use Rattle.glslpp_html.specs.Shown.{closing}
use Rattle.glslpp_html.proofs.Characters.{chars_same, chars_appended, chars_pushed, on_ok}
use Rattle.glslpp_html.proofs.Showing.{closed, tag_more}
use Rattle.glslpp_html.proofs.tag.close.Goals as goal

pub returns : goal.returns
returns c =
    let old = string_bytes c.args.page.now in
    let first = string_bytes c.push_str.new.self in
    let second = string_bytes c.push_str-2.new.self in
    let name = c.name.result.now in
    let new = string_bytes c.push_str-3.new.self in
    on_ok c.push_str-3.result _ _
    (λ (e : chars new ≡ chars second ++ codes ">"). tag_more old new (codes "/" ++ chars name) (closing (chars name) c.name.ensures)
    (closed (chars old) (chars first) (chars second) (chars new) (chars name)
    (chars_appended old first (codes "</") (codes "</") (IsUtf8-string_bytes c.args.page.now) c.in_ok-push_str.ensures.bytes (chars_same (codes "</") refl))
    (chars_appended first second name (chars name) (IsUtf8-string_bytes c.push_str.new.self) c.in_ok-push_str-2.ensures.bytes refl) e))
    (chars_pushed c.push_str-3.result second new (codes ">") (codes ">") (IsUtf8-string_bytes c.push_str-2.new.self) c.push_str-3.ensures.bytes
    (chars_same (codes ">") refl))
