use Rattle.std.proofs.Common.{◌∙◌, ap}
use Rattle.pp_rs.specs.Output.{output}
use Rattle.uses.proofs.Reading.{none_read, token_read, end_read}
use Rattle.uses.proofs.variants.text_of_rest.Goals as goal

pub items-init : goal.items-init
items-init c = rw c.new-tokens.ensures.items (none_read c.args.pp.now c.requires)

pub items-preserved : goal.items-preserved
items-preserved c = rw c.in_ok-push.ensures.items (token_read c.args.pp.now c.items.pp c.next.new.self c.items.tokens.items c.items.invariant c.in_ok-item.field-0
    (rw c.in_ok-item.was at c.in-Some.ensures.steps))

pub returns : goal.returns
returns c = λ state stands. (
  c.items.tokens.items,
  end_read c.args.pp.now c.items.pp c.next.new.self c.items.tokens.items c.items.invariant c.in_default.ensures.steps state stands,
  c.in_ok-spell_items.ensures ∙ ap output c.deref.ensures.value,
)
