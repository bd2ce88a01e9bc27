use Rattle.std.proofs.Common.{◌++◌, take, ◌∙◌}
use Rattle.pp_print.proofs.WriteLemmas.{appends_more, written_more}
use Rattle.pp_print.proofs.output.write_all.Goals as goal

pub loop-rest-preserved : goal.loop-rest-preserved
loop-rest-preserved g c =
    let before = c.loop-rest.invariant in
    let rest = c.loop-rest.rest.now in
    let count = c.in-Ok.count in
    record {
      ok = c.in-Ok.ensures.kept ∙ before.ok;
      written = (
        before.written.0 ++ take count rest,
        written_more _ before.written.0 rest count before.written.1,
        appends_more _ _ _ before.written.0 (take count rest) before.written.2 c.in-Ok.ensures.bytes,
      );
    }
