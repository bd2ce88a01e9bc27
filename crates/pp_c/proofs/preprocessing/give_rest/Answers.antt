use Rattle.std.proofs.Common.{◌∙◌, arith, refl, sym, Some, None}
use Rattle.pp_c.proofs.NextLemmas.{next_item, next_end}
use Rattle.pp_c.proofs.RestLemmas.{rest_none, rest_small, rest_given, rest_more, rest_end}
use Rattle.pp_c.specs.Preprocessed.{asks}
use Rattle.pp_c.specs.inner.Making.{given_of, IsSmall}
use Rattle.pp_c.proofs.preprocessing.give_rest.Goals as goal

pub items-init : goal.items-init
items-init c = rest_none c.args.pp.now c.args.output.now c.requires

pub items-preserved : goal.items-preserved
items-preserved c =
    let small : IsSmall c.args.output.now = record { items = omega arith; texts = omega arith } in
    let gives = c.in-Some.ensures in
    let given = c.in_ok-give_unless_refused.ensures {u = tt} in
    let before = rest_given c.args.pp.now c.args.output.now small _ _ c.items.invariant _ _ gives.given in
    let item = given_of c.in-Some.item c.place.result c.include_line.result in
    rest_more _ _ _ _ _ _ (rest_small _ _ small _ _ before) before (asks item) (record {
      answer = Some item;
      gives = rw (c.place.ensures, c.include_line.ensures) (next_item _ _ before.unspent c.in-Some.item given.reported gives.next);
      takes = rw (gives.sink given.reported) at given.given;
      is_more = refl;
    })

pub items-smaller : goal.items-smaller
items-smaller c = c.in-Some.ensures.less_left

pub returns : goal.returns
returns c =
    let small : IsSmall c.args.output.now = record { items = omega arith; texts = omega arith } in
    let gives = c.in_default.ensures in
    let before = rest_given c.args.pp.now c.args.output.now small _ _ c.items.invariant _ _ gives.given in
    rest_end _ _ _ _ _ _ (rest_small _ _ small _ _ before) before c.args.progress (sym c.is_front.ensures ∙ c.if-not-is_front.false) (record {
      answer = None;
      gives = next_end _ _ before.unspent gives.next;
      takes = gives.sink refl;
      is_more = refl;
    })
