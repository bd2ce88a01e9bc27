use Rattle.std.proofs.Common.{◌∙◌, Some, ap}
use Rattle.pp_c.proofs.NextLemmas.{next_item, asks_of}
use Rattle.pp_c.specs.inner.Making.{given_of, GivesNext}
use Rattle.pp_rs.specs.Kept.{rules_of}
use Rattle.pp_c.proofs.preprocessing.give_next.Goals as goal

pub returns-clause-given : goal.returns-clause-given
returns-clause-given c =
    let given = c.in_ok-give_unless_refused.ensures {u = tt} in
    let item = given_of c.in-Some.item c.place.result c.include_line-asked.result in
    let gives : GivesNext c.args.pp.now (Some item) c.next.new.self =
    rw (c.place.ensures, c.include_line-asked.ensures) (next_item c.args.pp.now c.next.new.self c.requires c.in-Some.item given.reported (c.in-Some.ensures {u = tt}).steps) in
    record {
      answer = Some item;
      gives = gives;
      takes = given.given;
      is_more = ap Some (c.is_some.ensures
          ∙ asks_of (rules_of c.args.pp.now) c.in-Some.item c.place.result c.include_line-asked.result (rw (← c.include_line-asked.ensures) at gives.given.asks));
    }
