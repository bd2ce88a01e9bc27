use Rattle.glslpp_parts.proofs.LineNamesLemmas.{one_more_escaped, one_more_of_name}
use Rattle.glslpp_parts.proofs.line_names.name_length.Goals as goal
use Rattle.glslpp_parts.proofs.line_names.name_length.Goals.{then-is_escaped, else-is_escaped+else-bytes-length-eq34}

pub loop-length-preserved : goal.loop-length-preserved
loop-length-preserved c =
    let bytes = c.as_bytes-bytes.result.now in
    let i = c.loop-length.length in
    elim c.if-is_escaped.branch [
      | then-is_escaped w ↦ rw w.is_escaped-is (one_more_escaped bytes i 0 _ c.loop-length-test.true (rw w.if-is_escaped.true at c.loop-length.invariant))
      | else-is_escaped+else-bytes-length-eq34 w ↦ rw w.is_escaped-is (one_more_of_name bytes i 0 _ c.loop-length-test.true w.if-bytes-length-eq34.false (rw w.if-is_escaped.false at c.loop-length.invariant))
    ]
