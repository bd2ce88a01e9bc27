use Rattle.pp_print.proofs.ARunLemmas.{a_run_of}
use Rattle.pp_print.proofs.SourceRunLemmas.{one_run_of, first_tokens_of}
use Rattle.pp_print.proofs.laws.runs.Goals as goal

pub returns-clause-some : goal.returns-clause-some
returns-clause-some c = a_run_of

pub returns-clause-one : goal.returns-clause-one
returns-clause-one c = one_run_of

pub returns-clause-first : goal.returns-clause-first
returns-clause-first c = first_tokens_of
