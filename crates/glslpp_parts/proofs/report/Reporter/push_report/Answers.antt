use Rattle.std.proofs.Common.{string_bytes}
use Rattle.std.proofs.lemmas.Result.{on_ok_weaker}
use Rattle.glslpp_parts.specs.Reports.{file_of_site}
use Rattle.glslpp_parts.proofs.ReportsLemmas.{reported_on}
use Rattle.glslpp_parts.proofs.report.Reporter.push_report.Goals as goal

pub returns : goal.returns
returns c =
    on_ok_weaker c.push_notes.result
    (reported_on c.args.self.now.style (file_of_site c.args.self.now.file.now c.args.diagnostic.now.site) c.args.diagnostic.now.severity (string_bytes c.args.diagnostic.now.message)
    (string_bytes c.args.text.now) (string_bytes c.push_lines.new.text) (string_bytes c.push_notes.new.text)
    (rw c.as_str-message.ensures.value at (c.in_ok-push_lines.ensures {u = tt}))) c.push_notes.ensures
