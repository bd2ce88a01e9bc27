use Rattle.std.proofs.Common.{length, ap, arith, subst}
use Rattle.std.specs.String.{string_bytes}
use Rattle.std.proofs.lemmas.Str.{IsUtf8-string_bytes}
use Rattle.pp_rs.specs.Afresh.{text_of, HasShortText}
use Rattle.pp_rs.proofs.runs.AfreshLemmas.{read_afresh, items_of_read, output_is_read, bytes_are, AreItemsOfText}
use Rattle.pp_rs.proofs.pp.afresh.are_read_afresh.Goals as goal

pub returns-then-len-ge-SOURCE_LIMIT : goal.returns-then-len-ge-SOURCE_LIMIT
returns-then-len-ge-SOURCE_LIMIT c =
    let text = c.in_ok-text.text in
    let bytes = bytes_are (string_bytes text) _ (IsUtf8-string_bytes text) c.in_ok-text.ensures in
    let long : HasShortText c.args.tokens.now → ⊥ = λ short. omega (arith, ap length bytes) in
    record { same = (λ yes. cc, λ h. absurd (long h.0)); output = λ output. absurd (long output.room); refused = tt }

items_given : (c : goal.After-drop-text-2) → AreItemsOfText (text_of c.args.tokens.now) c.in_ok-items.items.items
items_given c =
    let bytes = bytes_are c.as_str.result.now _ c.as_str.utf8 (rw c.as_str.ensures.value c.in_ok-text.ensures) in
    subst (λ text. AreItemsOfText text c.in_ok-items.items.items) bytes c.in_ok-items.ensures.items

pub returns-clause-same : goal.returns-clause-same
returns-clause-same c =
    let text = c.in_ok-text.text in
    let bytes = bytes_are (string_bytes text) _ (IsUtf8-string_bytes text) c.in_ok-text.ensures in
    let short : HasShortText c.args.tokens.now = omega (arith, ap length bytes, c) in (
      λ yes. (
        short,
        read_afresh c.args.tokens.now c.in_ok-items.items.items (items_given c) (rw c.deref.ensures.value at (c.have_values-are_same.ensures.0 yes)),
      ),
      λ h.
          let same = items_of_read c.args.tokens.now c.in_ok-items.items.items h.1 (items_given c) in
          c.have_values-are_same.ensures.1 (rw c.deref.ensures.value same),
    )

pub returns-clause-output : goal.returns-clause-output
returns-clause-output c = λ output.
    let read = output_is_read c.args.tokens.now output c.requires.ordinary in
    let same = items_of_read c.args.tokens.now c.in_ok-items.items.items read (items_given c) in
    c.have_values-are_same.ensures.1 (rw c.deref.ensures.value same)
