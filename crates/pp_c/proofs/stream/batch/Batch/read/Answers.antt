use Rattle.std.proofs.Common.{◌∙◌, None, Some, ap, refl, sym}
use Rattle.std.specs.Prelude.{option_map}
use Rattle.pp_c.proofs.BatchLemmas.{if_err}
use Rattle.pp_c.proofs.ReadLemmas.{most_kept, no_fewer, reads_end, reads_full, reads_item, reads_short, reads_token, same_twice}
use Rattle.pp_c.specs.inner.Batches.{item_in}
use Rattle.pp_c.proofs.stream.batch.Batch.read.Goals as goal

-- a token waits
pub returns-then-is_some-2-clause-reads : goal.returns-then-is_some-2-clause-reads
returns-then-is_some-2-clause-reads c =
    reads_token _ _ _ _ (rw c.in_default.is at c.give_tokens.ensures) (sym c.is_some-in_default.ensures ∙ c.if-is_some-2.true)

pub returns-then-is_some-2-clause-most : goal.returns-then-is_some-2-clause-most
returns-then-is_some-2-clause-most c =
    let gave = rw c.in_default.is at c.give_tokens.ensures in
    most_kept _ _ _ _ None gave (gave.sink refl)

pub returns-then-is_some-2-clause-more : goal.returns-then-is_some-2-clause-more
returns-then-is_some-2-clause-more c =
    let gave = rw c.in_default.is at c.give_tokens.ensures in
    no_fewer _ _ _ _ None gave (gave.sink refl)

-- the batch is full
pub returns-then-is_full-clause-reads : goal.returns-then-is_full-clause-reads
returns-then-is_full-clause-reads c =
    reads_full _ _ _ _ (rw c.in_default.is at c.give_tokens.ensures) (sym c.is_some-in_default.ensures ∙ c.if-is_some-2.false)
    (sym c.is_full.ensures ∙ c.if-is_full.true)

pub returns-then-is_full-clause-most : goal.returns-then-is_full-clause-most
returns-then-is_full-clause-most c =
    let gave = rw c.in_default.is at c.give_tokens.ensures in
    most_kept _ _ _ _ None gave (gave.sink refl)

pub returns-then-is_full-clause-more : goal.returns-then-is_full-clause-more
returns-then-is_full-clause-more c =
    let gave = rw c.in_default.is at c.give_tokens.ensures in
    no_fewer _ _ _ _ None gave (gave.sink refl)

-- the end is read
pub returns-else-is_full-clause-reads : goal.returns-else-is_full-clause-reads
returns-else-is_full-clause-reads c =
    reads_end _ _ _ _ (rw c.in_default.is at c.give_tokens.ensures) (sym c.is_some-in_default.ensures ∙ c.if-is_some-2.false)
    (sym c.is_full.ensures ∙ c.if-is_full.false)

pub returns-else-is_full-clause-most : goal.returns-else-is_full-clause-most
returns-else-is_full-clause-most c =
    let gave = rw c.in_default.is at c.give_tokens.ensures in
    most_kept _ _ _ _ None gave (gave.sink refl)

pub returns-else-is_full-clause-more : goal.returns-else-is_full-clause-more
returns-else-is_full-clause-more c =
    let gave = rw c.in_default.is at c.give_tokens.ensures in
    no_fewer _ _ _ _ None gave (gave.sink refl)

-- memory runs out
pub returns-in_err-unless_refused-clause-short : goal.returns-in_err-unless_refused-clause-short
returns-in_err-unless_refused-clause-short c =
    if_err _ (reads_short _ _ _ _ c.in-Some.item (rw c.in-Some.is at c.give_tokens.ensures))

pub returns-in_err-unless_refused-clause-most : goal.returns-in_err-unless_refused-clause-most
returns-in_err-unless_refused-clause-most c =
    let gave = rw c.in-Some.is at c.give_tokens.ensures in
    most_kept _ _ _ _ (Some c.in-Some.item) gave (same_twice _ _ gave.refused)

pub returns-in_err-unless_refused-clause-more : goal.returns-in_err-unless_refused-clause-more
returns-in_err-unless_refused-clause-more c =
    let gave = rw c.in-Some.is at c.give_tokens.ensures in
    no_fewer _ _ _ _ (Some c.in-Some.item) gave (same_twice _ _ gave.refused)

-- an item is read
pub returns-clause-reads : goal.returns-clause-reads
returns-clause-reads c =
    let gave = rw c.in-Some.is at c.give_tokens.ensures in
    reads_item _ _ _ _ c.in-Some.item gave (c.in_ok-unless_refused.ensures {u = tt}).given (record c.give_tokens.new.sink { waiting = c.replace.new.dest })
    (rw (c.place.ensures, c.include_line.ensures) at (ap (option_map item_in) c.replace.ensures.after)) refl refl

pub returns-clause-most : goal.returns-clause-most
returns-clause-most c =
    let gave = rw c.in-Some.is at c.give_tokens.ensures in
    most_kept _ _ _ _ (Some c.in-Some.item) gave (same_twice _ _ gave.refused)

pub returns-clause-more : goal.returns-clause-more
returns-clause-more c =
    let gave = rw c.in-Some.is at c.give_tokens.ensures in
    no_fewer _ _ _ _ (Some c.in-Some.item) gave (same_twice _ _ gave.refused)
