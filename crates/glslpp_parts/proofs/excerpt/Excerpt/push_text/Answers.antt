use Rattle.std.proofs.Common.{string_bytes}
use Rattle.std.proofs.lemmas.Result.{on_ok_weaker}
use Rattle.glslpp_parts.specs.inner.Adding.{IsLonger}
use Rattle.glslpp_parts.proofs.ItemsLemmas.{pushed, longer_more}
use Rattle.glslpp_parts.proofs.excerpt.Excerpt.push_text.Goals as goal

pub returns : goal.returns
returns c =
    let shown = longer_more _ _ _ (c.in_ok-push_shown.ensures {u = tt})
    (longer_more _ _ _ (c.in_ok-push_shown-2.ensures {u = tt}) (c.in_ok-push_shown-3.ensures {u = tt})) in
    let first : IsLonger (string_bytes c.args.text.now) (string_bytes c.push_str.new.self) =
    record { more = c.mark.result.now; text = (c.in_ok-push_str.ensures {u = tt}).bytes } in
    let last : IsLonger (string_bytes c.push_shown-3.new.text) (string_bytes c.push_str-2.new.self) =
    record { more = c.mark-2.result.now; text = (c.in_ok-push_str-2.ensures {u = tt}).bytes } in
    on_ok_weaker c.push.result
    (λ e. longer_more _ _ _ (longer_more _ _ _ first (longer_more _ _ _ shown last)) (record { more = _; text = e }))
    (pushed c.push.result _ _ _ c.push.ensures.bytes)
