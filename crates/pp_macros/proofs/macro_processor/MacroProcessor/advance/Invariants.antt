use Rattle.std.proofs.Common.{◌≡◌, None}
use Rattle.pp_macros.specs.inner.Giving.{PausesEach}
use Rattle.pp_macros.specs.inner.Left.{work_of, IsSound}
use Rattle.pp_macros.specs.inner.Nesting.{seen_by}
use Rattle.pp_macros.proofs.macro_processor.MacroProcessor.advance.Given as goal

-- the pauses so far
abbrev pub invariant-turns : goal.invariant-turns
invariant-turns g l = record {
  pauses : PausesEach (seen_by l.fn.self.below (g.L.MeLexer.reader l.fn.lexer)) l.fn.self.here l.self.here;
  sound : IsSound l.self.here (seen_by l.fn.self.below (g.L.MeLexer.reader l.fn.lexer));
  free : l.self.here.held ≡ None;
  below : l.self.below ≡ l.fn.self.below;
}

abbrev pub decreases-turns : goal.decreases-turns
decreases-turns g l = work_of 0 l.self.here (seen_by l.fn.self.below (g.L.MeLexer.reader l.fn.lexer))
