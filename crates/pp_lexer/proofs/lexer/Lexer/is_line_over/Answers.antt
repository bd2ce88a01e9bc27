use Rattle.pp_lexer.specs.Segments.{segments}
use Rattle.pp_lexer.proofs.items.LineStartLemmas.{first_begins, end_over}
use Rattle.pp_lexer.proofs.lexer.Lexer.is_line_over.Goals as goal

pub returns-clause-next : goal.returns-clause-next
returns-clause-next c =
    let s = c.self.inside.state in
    rw (← c.self.view_is) (first_begins (segments c.self.inside.rules s.inner.rest) s.flags s.inner.last)

pub returns-clause-end : goal.returns-clause-end
returns-clause-end c =
    let s = c.self.inside.state in
    rw (← c.self.view_is) (end_over (segments c.self.inside.rules s.inner.rest) s.flags s.inner.last)
