use Rattle.std.proofs.Common.{◌∙◌, List, ap, arith}
use Rattle.std.specs.Vec.{with_items}
use Rattle.std.proofs.lemmas.List.{with_items_is}
use Rattle.pp_lexer.specs.declared.token.Token.{Token}
use Rattle.pp_model.specs.Definitions.{Definition}
use Rattle.pp_macros.specs.inner.Bodies.{noted_in}
use Rattle.pp_macros.proofs.defined_names.BodyLemmas.{numbers_changed}
use Rattle.pp_macros.proofs.define.Macro.new.Goals as goal

pub invariant_of-result : goal.invariant_of-result
invariant_of-result c =
    let is = with_items_is c.define.inside.body c.note_numbers.new.body
    (omega (arith, c.define.inside.body.ok.0, c.note_numbers.auto.body, c.deref_mut.ensures.len)) in
    let same = numbers_changed c.define.inside.parameters.items c.define.inside.body.items c.note_numbers.new.body
    (rw c.deref_mut.ensures.value at c.note_numbers.ensures.same) in
    rw is (same.1 c.define.invariant.0)

pub returns-clause-is : goal.returns-clause-is
returns-clause-is c =
    let is = with_items_is c.define.inside.body c.note_numbers.new.body
    (omega (arith, c.define.inside.body.ok.0, c.note_numbers.auto.body, c.deref_mut.ensures.len)) in
    let same = numbers_changed c.define.inside.parameters.items c.define.inside.body.items c.note_numbers.new.body
    (rw c.deref_mut.ensures.value at c.note_numbers.ensures.same) in
    ap (λ (d : Definition). record {
      name = c.args.name.value;
      number = c.args.number;
      definition = d;
      noted = noted_in (with_items c.define.inside.body c.note_numbers.new.body).items;
    })
    (ap (λ (tokens : List Token). record {
      function_like = c.define.inside.function_like;
      parameters = c.define.inside.parameters.items;
      body = tokens;
      text = c.define.inside.text;
    }) (rw is same.0)
    ∙ c.define.view_is)
