use Rattle.std.proofs.Common.{string_bytes}
use Rattle.std.proofs.lemmas.Result.{on_ok_weaker}
use Rattle.glslpp_parts.specs.declared.diagnostic.Severity.TheVariants.{Note}
use Rattle.glslpp_parts.specs.Reports.{file_of_site}
use Rattle.glslpp_parts.proofs.ReportsLemmas.{longer_by}
use Rattle.glslpp_parts.proofs.report.Reporter.push_note.Goals as goal

pub returns : goal.returns
returns c =
    on_ok_weaker c.push_lines.result
    (longer_by c.args.self.now.style (file_of_site c.args.self.now.file.now c.args.site) Note c.args.message.now
    (string_bytes c.args.text.now) (string_bytes c.push_lines.new.text)) c.push_lines.ensures
