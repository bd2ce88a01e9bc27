use Rattle.pp_directives.proofs.LineEndLemmas.{error_on}
use Rattle.pp_directives.proofs.lines.pass_to_end.Goals as goal

pub returns-in-Err-Fault-clause-reads : goal.returns-in-Err-Fault-clause-reads
returns-in-Err-Fault-clause-reads c =
    let e = rw c.in-Err-Fault.field-0-is at c.in-Err-Fault.ensures in
    error_on c.args.passes c.in-Err-Fault.fault c.args.lexer.now c.peek_word.new.self c.next_token.new.self c.take_error_place.new.self
    c.if-passes.true c.peek_word.ensures.same e.is e.takes e.errors c.take_error_place.ensures.others
