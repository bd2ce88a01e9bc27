use Rattle.std.proofs.Common.{◌++◌, ◌∙◌, [], ◌∷◌, ap, arith, append_assoc, string_bytes}
use Rattle.std.proofs.Math.ListN.{replicate}
use Rattle.std.proofs.lemmas.List.{replicate_more}
use Rattle.glslpp_parts.proofs.line_names.push_blanks.Goals as goal

pub loop-done-preserved : goal.loop-done-preserved
loop-done-preserved c =
    let pushed = c.in_ok-push.ensures {u = tt} in
    pushed.bytes ∙ ap (λ t. string_bytes c.loop-done.text ++ t) (pushed.ascii (omega arith))
    ∙ ap (λ t. t ++ 32 ∷ []) c.loop-done.invariant ∙ append_assoc (string_bytes c.args.text.now) (replicate c.loop-done.done 32) (32 ∷ [])
    ∙ ap (λ t. string_bytes c.args.text.now ++ t) (replicate_more c.loop-done.done 32)
