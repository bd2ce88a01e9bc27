use Rattle.std.proofs.Common.{◌∙◌, refl, ap, sym, arith}
use Rattle.std.specs.Prelude.{option_map}
use Rattle.pp_c.proofs.BatchLemmas.{fits_by}
use Rattle.pp_c.specs.Preprocessed.{given_entries}
use Rattle.pp_c.specs.inner.Batches.{item_in}
use Rattle.pp_c.proofs.stream.batch.Batch.give_waiting.Goals as goal

pub overflow_add-self : goal.overflow_add-self
overflow_add-self c = let less = rw c.in-Some.is at c.requires in omega (arith, less)

pub returns-else-asks : goal.returns-else-asks
returns-else-asks c =
    let small = c.has_room.ensures.small in
    let fits = c.has_room.ensures.room.0 c.if-not-has_room.false in
    rw c.in-Some.is (
      record {
        fits = λ room. fits_by c.args.self.now.output (given_entries (item_in c.in-Some.next)) small room (rw c.room.ensures at fits.0) (rw c.room.ensures at fits.1);
        takes = c.give-2.ensures;
        count = refl;
        most = refl;
        waiting = ap (option_map item_in) c.take.ensures.after;
      },
      sym c.asks-asks.ensures ∙ c.if-asks.false,
    )
