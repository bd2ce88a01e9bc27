use Rattle.std.proofs.Common.{◌≡◌, map}
use Rattle.pp_macros.specs.inner.Bodies.{noted_in, unnumbered}
use Rattle.pp_macros.specs.inner.Defined.{names_in, AreNumbered}
use Rattle.pp_macros.proofs.define.note_numbers.Given as goal

-- only numbers were changed, and they are right if they were
abbrev pub invariant-loop-entry : goal.invariant-loop-entry
invariant-loop-entry l = record {
  same : map unnumbered l.body ≡ map unnumbered l.initial.body;
  noted : AreNumbered (names_in l.definitions) (noted_in l.initial.body) → AreNumbered (names_in l.definitions) (noted_in l.body);
}
