use Rattle.std.proofs.Common.{◌≡◌, ◌++◌, codes, refl, string_bytes}
use Rattle.std.specs.Str.{chars}
use Rattle.std.proofs.lemmas.Str.{IsUtf8-string_bytes}
use Rattle.std.specs.List.{flat_map}
use Rattle.glslpp_html.specs.Shown.{value_character}
use Rattle.glslpp_html.proofs.Characters.{chars_same, chars_appended, chars_pushed, on_ok}
use Rattle.glslpp_html.proofs.Showing.{begun, has_none, one_attribute, value_in_value}
use Rattle.glslpp_html.proofs.tag.push_attribute.Goals as goal

pub returns : goal.returns
returns c =
    let old = string_bytes c.args.page.now in
    let first = string_bytes c.push_str.new.self in
    let second = string_bytes c.push_value.new.page in
    let beginning = c.beginning.result.now in
    let value = flat_map value_character (chars c.args.value.now) in
    let new = string_bytes c.push_str-2.new.self in
    on_ok c.push_str-2.result _ _
    (λ (e : chars new ≡ chars second ++ codes "\""). (
      chars beginning ++ value ++ codes "\"",
      begun (chars old) (chars first) (chars second) (chars new) (chars beginning) value
          (chars_appended old first beginning (chars beginning) (IsUtf8-string_bytes c.args.page.now) c.in_ok-push_str.ensures.bytes refl)
          c.in_ok-push_value.ensures e,
      one_attribute (chars beginning) value c.beginning.ensures (value_in_value (chars c.args.value.now)),
    ))
    (chars_pushed c.push_str-2.result second new (codes "\"") (codes "\"") (IsUtf8-string_bytes c.push_value.new.page) c.push_str-2.ensures.bytes
    (chars_same (codes "\"") refl))

pub returns-then-is_empty : goal.returns-then-is_empty
returns-then-is_empty c = has_none (string_bytes c.args.page.now)
