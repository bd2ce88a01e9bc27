use Rattle.std.proofs.Common.{◌∙◌, refl, arith}
use Rattle.pp_c.proofs.BatchLemmas.{given_none, if_err}
use Rattle.pp_c.proofs.FillLemmas.{held_in, reads_last, reads_on, runs_out, settles, settles_last}
use Rattle.pp_c.specs.inner.Batches.{waiting_in}
use Rattle.pp_c.proofs.stream.batch.Batch.fill.Goals as goal

pub items-init : goal.items-init
items-init c = record {
  most = refl;
  got = rw c.requires.begins.none (given_none _ _ _ _ c.requires.begins.small c.requires.unspent c.requires.begins.some c.requires.begins.room);
}

pub read-requires : goal.read-requires
read-requires c = c.items.invariant.got.reads.unspent

-- memory or the budget runs out
pub returns-in_err-end-clause-short : goal.returns-in_err-end-clause-short
returns-in_err-end-clause-short c =
    if_err _ (runs_out _ _ _ _ c.requires.begins.small c.items.pp c.items.self c.items.invariant.most c.items.invariant.got c.read.new.self (c.in_err-end.ensures {u = tt}).short)

-- the batch ends before an item
pub returns-in-Some-clause-given : goal.returns-in-Some-clause-given
returns-in-Some-clause-given c =
    reads_last _ _ _ _ c.requires.begins.small c.items.pp c.items.self c.items.invariant.most c.items.invariant.got c.in-Some.end c.read.new.pp c.read.new.self
    (rw c.in-Some.is at (c.in_ok-end.ensures {u = tt}).reads)

-- an item waits
pub give_waiting-requires : goal.give_waiting-requires
give_waiting-requires c =
    let reads = rw c.in_default.is at (c.in_ok-end.ensures {u = tt}).reads in
    let got = reads_on _ _ _ _ c.requires.begins.small c.items.pp c.items.self c.items.invariant.most c.items.invariant.got c.read.new.pp c.read.new.self reads in
    rw ((c.read.ensures).most ∙ c.items.invariant.most) got.more

pub returns-in-Some-give_waiting-clause-given : goal.returns-in-Some-give_waiting-clause-given
returns-in-Some-give_waiting-clause-given c =
    let reads = rw c.in_default.is at (c.in_ok-end.ensures {u = tt}).reads in
    let got = reads_on _ _ _ _ c.requires.begins.small c.items.pp c.items.self c.items.invariant.most c.items.invariant.got c.read.new.pp c.read.new.self reads in
    let held = held_in (waiting_in c.read.new.self) reads.0 in
    settles_last _ _ _ _ c.requires.begins.small c.read.new.pp c.read.new.self c.give_waiting.new.self held.0 held.1 got c.in-Some-give_waiting.end (rw (held.1, c.in-Some-give_waiting.is) at c.give_waiting.ensures)

pub items-preserved : goal.items-preserved
items-preserved c =
    let reads = rw c.in_default.is at (c.in_ok-end.ensures {u = tt}).reads in
    let got = reads_on _ _ _ _ c.requires.begins.small c.items.pp c.items.self c.items.invariant.most c.items.invariant.got c.read.new.pp c.read.new.self reads in
    let held = held_in (waiting_in c.read.new.self) reads.0 in
    let gives = rw (held.1, c.in_default-give_waiting.is) at c.give_waiting.ensures in
    record {
      most = gives.0.most ∙ c.read.ensures.most ∙ c.items.invariant.most;
      got = settles _ _ _ _ c.requires.begins.small c.read.new.pp c.read.new.self c.give_waiting.new.self held.0 held.1 got gives;
    }

pub items-smaller : goal.items-smaller
items-smaller c =
    let reads = rw c.in_default.is at (c.in_ok-end.ensures {u = tt}).reads in
    let got = reads_on _ _ _ _ c.requires.begins.small c.items.pp c.items.self c.items.invariant.most c.items.invariant.got c.read.new.pp c.read.new.self reads in
    let held = held_in (waiting_in c.read.new.self) reads.0 in
    let gives = rw (held.1, c.in_default-give_waiting.is) at c.give_waiting.ensures in
    let after = settles _ _ _ _ c.requires.begins.small c.read.new.pp c.read.new.self c.give_waiting.new.self held.0 held.1 got gives in
    omega (arith, after.within, gives.0.count, c.read.ensures.more)
