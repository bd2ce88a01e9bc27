use Rattle.std.proofs.Common.{[], string_bytes}
use Rattle.std.proofs.lemmas.Result.{on_ok_weaker}
use Rattle.glslpp_parts.specs.Reports.{file_of_site}
use Rattle.glslpp_parts.proofs.ReportsLemmas.{reported, reported_on}
use Rattle.glslpp_parts.proofs.report.Reporter.push_lines.Goals as goal

pub returns : goal.returns
returns c =
    on_ok_weaker c.push_excerpt.result
    (reported_on c.args.self.now.style (file_of_site c.args.self.now.file.now c.args.site) c.args.severity c.args.message.now (string_bytes c.args.text.now)
    (string_bytes c.writeln.new.self) (string_bytes c.push_excerpt.new.text)
    (reported c.args.self.now.style (file_of_site c.args.self.now.file.now c.args.site) c.args.severity c.args.message.now (string_bytes c.args.text.now)
    (string_bytes c.push_bold.new.text) (string_bytes c.push_place.new.text) (string_bytes c.push_severity.new.text)
    (string_bytes c.writeln.new.self) [] (c.in_ok-push_bold.ensures {u = tt}) (c.in_ok-push_place.ensures {u = tt})
    (c.in_ok-push_severity.ensures {u = tt}) c.in_ok-writeln.ensures.bytes)) c.push_excerpt.ensures
