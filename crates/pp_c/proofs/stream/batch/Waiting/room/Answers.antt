use Rattle.std.proofs.Common.{◌∙◌}
use Rattle.pp_c.proofs.TakingLemmas.{room_of_all}
use Rattle.pp_c.specs.Preprocessed.{given_entries}
use Rattle.pp_c.specs.inner.Batches.{item_in}
use Rattle.pp_c.proofs.stream.batch.Waiting.room.Goals as goal

pub returns : goal.returns
returns c = c.sizes.ensures ∙ c.give.ensures.sizes ∙ room_of_all c.new-counted.result.sizes (given_entries (item_in c.args.self.now)) c.new-counted.ensures.sizes
