use Rattle.std.proofs.Common.{◌≡◌, ◌∙◌, ◌++◌, ◌∷◌, [], ap, string_bytes}
use Rattle.std.specs.Str.{chars}
use Rattle.std.proofs.lemmas.Str.{IsUtf8-string_bytes}
use Rattle.glslpp_parts.proofs.CharactersLemmas.{chars_one, chars_pushed, on_ok}
use Rattle.glslpp_parts.proofs.dependencies.push_escaped.Goals as goal

pub returns : goal.returns
returns c =
    let first = string_bytes c.push_escape.new.text in
    let new = string_bytes c.push.new.self in
    on_ok c.push.result _ _
    (λ (e : chars new ≡ chars first ++ c.args.c ∷ []). e ∙ ap (λ t. t ++ c.args.c ∷ []) c.in_ok-push_escape.ensures)
    (chars_pushed c.push.result first new _ (c.args.c ∷ []) (IsUtf8-string_bytes c.push_escape.new.text) c.push.ensures.bytes (chars_one c.args.c c.ranges.c.0))
