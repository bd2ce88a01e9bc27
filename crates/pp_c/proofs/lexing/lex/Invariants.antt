use Rattle.pp_c.specs.inner.Lexes.{Lexes}
use Rattle.pp_c.proofs.lexing.lex.Given as goal

abbrev pub invariant-items : goal.invariant-items
invariant-items l = Lexes l.initial.lexer l.lexer l.fn.output l.output
