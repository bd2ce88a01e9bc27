use Rattle.pp_model.proofs.taking.TakingLemmas.{argument_reads_one, line_reads_one}
use Rattle.pp_model.proofs.laws.one_reading.Goals as goal

pub returns : goal.returns
returns c = record { argument = argument_reads_one; line = line_reads_one }
