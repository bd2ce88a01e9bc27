use Rattle.std.proofs.Common.{◌≡◌}
use Rattle.pp_macros.specs.inner.Defined.{names_in}
use Rattle.pp_macros.specs.inner.Left.{regions}
use Rattle.pp_macros.specs.inner.Reader.{definitions_of}
use Rattle.pp_macros.specs.inner.Nesting.{AreKnown, MayWait, seen_by}
use Rattle.pp_macros.specs.inner.Reach.{total}
use Rattle.pp_macros.specs.inner.Expander.{LeadsToNext}
use Rattle.pp_macros.proofs.macro_processor.MacroProcessor.take_next.Given as goal

-- a pause keeps what is taken next
abbrev pub invariant-loop-step : goal.invariant-loop-step
invariant-loop-step o l = record {
  leads : LeadsToNext l.fn.self.here (seen_by l.fn.self.below ((goal.MeLexer-dyn o l.fn.lexer.now).reader l.fn.lexer.now.1)) l.self.here (seen_by l.self.below ((goal.MeLexer-dyn o l.lexer.now).reader l.lexer.now.1));
  below : l.self.below ≡ l.fn.self.below;
  waits : MayWait l.self.below ((goal.MeLexer-dyn o l.lexer.now).reader l.lexer.now.1);
  known : AreKnown (names_in (definitions_of ((goal.MeLexer-dyn o l.lexer.now).reader l.lexer.now.1))) l.self;
}

abbrev pub decreases-loop-step : goal.decreases-loop-step
decreases-loop-step o l = total (regions l.self.here (seen_by l.self.below ((goal.MeLexer-dyn o l.lexer.now).reader l.lexer.now.1)))
