use Rattle.std.proofs.Common.{string_bytes}
use Rattle.std.proofs.lemmas.Result.{on_ok_weaker}
use Rattle.glslpp_parts.proofs.ReportsLemmas.{placed_at}
use Rattle.glslpp_parts.proofs.report.Reporter.push_place.Goals as goal

pub returns-in-InSource : goal.returns-in-InSource
returns-in-InSource c =
    rw c.in-InSource.is
    (on_ok_weaker c.write.result
    (placed_at c.in-InSource.place.name.now (string_bytes c.args.text.now) (string_bytes c.write.new.self)
    c.in-InSource.line c.in-InSource.column) c.write.ensures.bytes)
