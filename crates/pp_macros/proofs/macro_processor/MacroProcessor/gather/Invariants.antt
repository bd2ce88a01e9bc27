use Rattle.std.proofs.Common.{◌≡◌}
use Rattle.pp_macros.specs.inner.Reading.{AllReadOrdinary}
use Rattle.pp_macros.specs.inner.Expander.{place_after}
use Rattle.pp_macros.specs.inner.Defined.{names_in}
use Rattle.pp_macros.specs.inner.Left.{regions}
use Rattle.pp_macros.specs.inner.Reader.{definitions_of}
use Rattle.pp_macros.specs.inner.Nesting.{AreKnown, MayWait, seen_by}
use Rattle.pp_macros.specs.inner.Reach.{total}
use Rattle.pp_macros.proofs.taking.ExpanderLemmas.{Gathering}
use Rattle.pp_macros.proofs.macro_processor.MacroProcessor.gather.Given as goal

-- each token that is gathered stands before those that follow
abbrev pub invariant-tokens : goal.invariant-tokens
invariant-tokens o l = record {
  goes_on : Gathering l.fn.paren l.fn.self.here (seen_by l.fn.self.below ((goal.MeLexer-dyn o l.fn.lexer.now).reader l.fn.lexer.now.1)) l.tokens.items l.depth (place_after l.fn.paren l.tokens.items)
      l.self.here (seen_by l.self.below ((goal.MeLexer-dyn o l.lexer.now).reader l.lexer.now.1));
  holds : AllReadOrdinary l.tokens.items;
  below : l.self.below ≡ l.fn.self.below;
  waits : MayWait l.self.below ((goal.MeLexer-dyn o l.lexer.now).reader l.lexer.now.1);
  known : AreKnown (names_in (definitions_of ((goal.MeLexer-dyn o l.lexer.now).reader l.lexer.now.1))) l.self;
}

abbrev pub decreases-tokens : goal.decreases-tokens
decreases-tokens o l = total (regions l.self.here (seen_by l.self.below ((goal.MeLexer-dyn o l.lexer.now).reader l.lexer.now.1)))
