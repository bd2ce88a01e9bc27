use Rattle.std.proofs.Common.{◌-◌, length}
use Rattle.pp_reference.proofs.source_reader.SourceReader.+shown_length.Given as goal

abbrev pub decreases-shown_length : goal.decreases-shown_length
decreases-shown_length l = length l.line.now - l.count
