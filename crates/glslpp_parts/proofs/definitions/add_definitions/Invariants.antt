use Rattle.std.proofs.Common.{drop}
use Rattle.pp_rs.specs.Kept.{Preprocessing}
use Rattle.glslpp_parts.specs.Definitions.{AreAdded}
use Rattle.glslpp_parts.specs.Texts.{Texts}
use Rattle.glslpp_parts.proofs.definitions.add_definitions.Given as goal

-- with those that are left added, all are
abbrev pub invariant-loop-definition : goal.invariant-loop-definition
invariant-loop-definition l =
    (texts : Texts) (items : Preprocessing) → AreAdded (drop l.definition-index l.definitions) l.texts l.items texts items
    → AreAdded l.definitions l.fn.texts l.fn.items texts items
