use Rattle.std.proofs.Common.{◌≡◌, ◌++◌, codes, refl, string_bytes}
use Rattle.std.specs.Str.{chars}
use Rattle.std.proofs.lemmas.Str.{IsUtf8-string_bytes}
use Rattle.glslpp_html.specs.Shown.{opening}
use Rattle.glslpp_html.proofs.Characters.{chars_same, chars_appended, chars_pushed, on_ok}
use Rattle.glslpp_html.proofs.Showing.{opened, tag_more}
use Rattle.glslpp_html.proofs.tag.open.Goals as goal

pub returns : goal.returns
returns c =
    let old = string_bytes c.args.page.now in
    let first = string_bytes c.push_str.new.self in
    let second = string_bytes c.push_str-2.new.self in
    let third = string_bytes c.push_attributes.new.page in
    let name = c.name.result.now in
    let new = string_bytes c.push_str-3.new.self in
    let has = c.in_ok-push_attributes.ensures {u = tt} in
    on_ok c.push_str-3.result _ _
    (λ (e : chars new ≡ chars third ++ codes ">"). tag_more old new (chars name ++ has.0) (opening (chars name) has.0 c.name.ensures has.2)
    (opened (chars old) (chars first) (chars second) (chars third) (chars new) (chars name) has.0
    (chars_appended old first (codes "<") (codes "<") (IsUtf8-string_bytes c.args.page.now) c.in_ok-push_str.ensures.bytes (chars_same (codes "<") refl))
    (chars_appended first second name (chars name) (IsUtf8-string_bytes c.push_str.new.self) c.in_ok-push_str-2.ensures.bytes refl) has.1 e))
    (chars_pushed c.push_str-3.result third new (codes ">") (codes ">") (IsUtf8-string_bytes c.push_attributes.new.page) c.push_str-3.ensures.bytes
    (chars_same (codes ">") refl))
