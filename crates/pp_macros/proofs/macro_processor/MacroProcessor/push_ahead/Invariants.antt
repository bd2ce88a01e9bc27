use Rattle.std.proofs.Common.{◌≡◌, None}
use Rattle.pp_macros.specs.inner.Defined.{names_in}
use Rattle.pp_macros.specs.inner.Expander.{LeadsToNext}
use Rattle.pp_macros.specs.inner.Left.{regions}
use Rattle.pp_macros.specs.inner.Nesting.{AreKnown, seen_by}
use Rattle.pp_macros.specs.inner.Reach.{total}
use Rattle.pp_macros.specs.inner.Reader.{definitions_of}
use Rattle.pp_macros.proofs.macro_processor.MacroProcessor.push_ahead.Given as goal

-- pauses keep what is taken next, and the tokens
abbrev pub invariant-pauses : goal.invariant-pauses
invariant-pauses g l = record {
  free : l.self.here.held ≡ None;
  leads : LeadsToNext l.fn.self.here (seen_by l.fn.self.below ((goal.MeLexer-dyn g l.fn.lexer.now).reader l.fn.lexer.now.1)) l.self.here (seen_by l.fn.self.below ((goal.MeLexer-dyn g l.fn.lexer.now).reader l.fn.lexer.now.1));
  below : l.self.below ≡ l.fn.self.below;
  same : l.tokens.items ≡ l.fn.tokens.items;
  known : AreKnown (names_in (definitions_of ((goal.MeLexer-dyn g l.fn.lexer.now).reader l.fn.lexer.now.1))) l.self;
}

abbrev pub decreases-pauses : goal.decreases-pauses
decreases-pauses g l = total (regions l.self.here (seen_by l.fn.self.below ((goal.MeLexer-dyn g l.fn.lexer.now).reader l.fn.lexer.now.1)))
