use Rattle.std.proofs.Common.{◌≡◌, ◌∙◌, ◌+◌, ◌-◌, ◌<◌, ◌++◌, length, length-set, take, drop, arith}
use Rattle.std.proofs.Math.Seq.{take-append_seam}
use Rattle.std.proofs.lemmas.List.{drop-set}
use Rattle.pp_macros.specs.inner.Bodies.{AreEntries, AreSeen, body_of}
use Rattle.pp_macros.proofs.defined_names.BodyLemmas.{MarksOne, marks_one}
use Rattle.pp_macros.proofs.define.mark_last.Goals as goal

pub loop-index-preserved : goal.loop-index-preserved
loop-index-preserved c =
    let parameters = c.args.parameters.now in
    let entries = c.loop-index.entries in
    let before = c.loop-index.invariant in
    let marks = c.mark_entry.ensures in
    let i = c.loop-index.index - 1 in
    let e = c.mark_entry.new.entry in
    let rest = body_of parameters (drop (i + 1) entries) in
    let within : i < length entries = omega (arith, c.loop-index-test.true, c.loop-index.auto.index, c.loop-index.auto.entries) in
    let after : i + 1 ≡ c.loop-index.index = omega (arith, c.loop-index-test.true) in
    let later : AreEntries parameters (drop (i + 1) entries) = rw after before.marked in
    let seen : AreSeen parameters rest c.deref_mut.result.now = rw (c.deref_mut.ensures.value, after) before.seen in
    let written : take c.loop-index.seen.len (c.mark_entry.new.seen ++ drop (length c.mark_entry.new.seen) c.loop-index.seen.items) ≡ c.mark_entry.new.seen
    = let n : c.loop-index.seen.len ≡ length c.mark_entry.new.seen = omega arith in rw n (take-append_seam _ _) in
    let one : MarksOne parameters entries i e
    = marks_one parameters entries i c.index-entries-index.result e within marks.token marks.bare (marks.entry rest seen) before.found later in
    record {
      count = length-set entries i e ∙ before.count;
      body = one.body ∙ before.body;
      noted = one.noted ∙ before.noted;
      found = one.found;
      marked = one.marked;
      seen = rw (written, drop-set entries i e within) (marks.seen rest seen);
      as_parameters = rw written (omega arith);
    }
