use Rattle.std.proofs.Common.{◌≡◌, length, drop}
use Rattle.pp_macros.specs.inner.Bodies.{AreEntries, AreFound, AreSeen, body_of, noted_in}
use Rattle.pp_macros.proofs.define.mark_last.Given as goal

-- the entries from here on are marked, and `seen` marks the parameters that they have
abbrev pub invariant-loop-index : goal.invariant-loop-index
invariant-loop-index l = record {
  count : length l.entries ≡ length l.initial.entries;
  body : body_of l.parameters l.entries ≡ body_of l.parameters l.initial.entries;
  noted : noted_in l.entries ≡ noted_in l.initial.entries;
  found : AreFound l.parameters l.entries;
  marked : AreEntries l.parameters (drop l.index l.entries);
  seen : AreSeen l.parameters (body_of l.parameters (drop l.index l.entries)) l.seen.items;
  as_parameters : length l.seen.items ≡ length l.parameters;
}
