use Rattle.pp_directives.proofs.PartsShownLemmas.{ended_by}
use Rattle.pp_directives.proofs.lines.endif_end.Goals as goal

pub returns-then-live_around : goal.returns-then-live_around
returns-then-live_around c =
    ended_by c.args.passes c.args.word c.ended_line.result c.args.live_around c.args.lexer.now c.ended_line.new.lexer c.if-live_around.true c.ended_line.ensures
