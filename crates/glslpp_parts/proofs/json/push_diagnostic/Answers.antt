use Rattle.std.proofs.Common.{◌++◌, codes, string_bytes}
use Rattle.std.proofs.lemmas.Result.{on_ok_weaker}
use Rattle.glslpp_parts.proofs.ItemsLemmas.{pushed, longer_more, item_of}
use Rattle.glslpp_parts.proofs.json.push_diagnostic.Goals as goal

pub returns : goal.returns
returns c =
    let longer = longer_more _ _ _ (c.in_ok-push_site.ensures {u = tt})
    (longer_more _ _ _ (c.in_ok-push_message.ensures {u = tt})
    (longer_more _ _ _ (c.in_ok-push_notes.ensures {u = tt}) (c.in_ok-push_inclusions.ensures {u = tt}))) in
    on_ok_weaker c.push_str.result
    (λ g. item_of (string_bytes c.args.output.now) (string_bytes c.write.new.self) _ (string_bytes c.push_str.new.self) longer g
    (codes "\"severity\":\"" ++ (c.name-severity.result.now ++ codes "\",")) c.in_ok-write.ensures.bytes) (pushed c.push_str.result _ _ _ c.push_str.ensures.bytes)
