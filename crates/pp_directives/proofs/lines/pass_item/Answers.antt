use Rattle.std.proofs.Common.{ap, Ok}
use Rattle.pp_macros.specs.inner.SourceLexed.{unreported_at}
use Rattle.pp_directives.proofs.LineReadingLemmas.{fault_goes_on}
use Rattle.pp_directives.proofs.UnreportedLemmas.{met_none}
use Rattle.pp_directives.proofs.lines.pass_item.Goals as goal

pub returns-in-Err-Fault : goal.returns-in-Err-Fault
returns-in-Err-Fault c =
    let p = rw c.in-Err-Fault.field-0-is at c.in-Err-Fault.ensures in
    record {
      is = ap Ok (fault_goes_on c.args.lexer.now.rest c.in-Err-Fault.fault p.reads.is);
      takes = rw c.take_error_place.ensures.others (record { rest = p.reads.takes.rest; further = p.reads.takes.further; spent = p.reads.takes.spent });
      fault = tt;
      errors = met_none c.in-Err-Fault.fault _ _ _ p.reads.errors (ap unreported_at c.take_error_place.ensures.others);
    }
