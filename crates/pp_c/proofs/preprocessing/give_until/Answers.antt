use Rattle.std.proofs.Common.{◌≡◌, ◌∙◌, true, sym}
use Rattle.pp_c.proofs.ProgressLemmas.{approaches_item, approaches_end, goes_more, goes_to_end}
use Rattle.pp_c.specs.inner.Making.{is_front}
use Rattle.pp_c.proofs.preprocessing.give_until.Goals as goal

pub items-preserved-in-Some : goal.items-preserved-in-Some
items-preserved-in-Some c =
    let given = rw c.in-Some.is at (c.in_ok-asks.ensures {u = tt}).given in
    let going : is_front c.items.progress.end ≡ true = sym c.is_front.ensures ∙ c.items-test.true in
    record {
      unspent = given.gives.given.spent;
      approaches = rw c.take.ensures (approaches_item c.args.count c.args.progress.now c.items.progress c.items.invariant.approaches going c.if-progress-count.true c.in-Some.asks);
      goes = rw c.take.ensures (goes_more c.args.pp.now c.args.output.now c.args.progress.now c.items.pp c.items.output c.items.progress c.give_next.new.pp c.give_next.new.output
          going c.items.invariant.goes c.in-Some.asks given);
    }

pub items-preserved : goal.items-preserved
items-preserved c =
    let given = rw c.in-None.is at (c.in_ok-asks.ensures {u = tt}).given in
    let going : is_front c.items.progress.end ≡ true = sym c.is_front.ensures ∙ c.items-test.true in
    record {
      unspent = given.gives.given.spent;
      approaches = approaches_end c.args.count c.args.progress.now c.items.progress c.items.invariant.approaches going c.if-progress-count.true;
      goes = goes_to_end c.args.pp.now c.args.output.now c.args.progress.now c.items.pp c.items.output c.items.progress c.give_next.new.pp c.give_next.new.output
          going c.items.invariant.goes given;
    }
