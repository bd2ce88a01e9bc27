use Rattle.std.proofs.Common.{◌++◌, codes, string_bytes}
use Rattle.std.proofs.lemmas.Result.{on_ok_weaker}
use Rattle.glslpp_parts.proofs.ItemsLemmas.{pushed, longer_more, item_of}
use Rattle.glslpp_parts.proofs.json.push_directive.Goals as goal

pub returns : goal.returns
returns c =
    let longer = longer_more _ _ _ (c.in_ok-push_string.ensures {u = tt}) (c.in_ok-push_place.ensures {u = tt}) in
    on_ok_weaker c.push_str.result
    (λ g. item_of (string_bytes c.args.output.now) (string_bytes c.write.new.self) _ (string_bytes c.push_str.new.self) longer g
    (codes "\"kind\":\"" ++ (c.directive_kind-kind.result.now ++ codes "\",\"text\":")) c.in_ok-write.ensures.bytes) (pushed c.push_str.result _ _ _ c.push_str.ensures.bytes)
