use Rattle.std.proofs.Common.{◌≡◌}
use Rattle.pp_macros.specs.inner.Nesting.{open_names}
use Rattle.pp_macros.specs.inner.Reading.{painted_from}
use Rattle.pp_macros.proofs.macro_processor.MacroProcessor.paint_from.Given as goal

-- the tokens before this one are painted
abbrev pub invariant-loop-at : goal.invariant-loop-at
invariant-loop-at o l = painted_from (open_names l.self) l.at l.tokens ≡ painted_from (open_names l.self) l.start l.fn.tokens
