use Rattle.std.proofs.Common.{◌∙◌, ap, sym, arith}
use denote.Enum.Declared.{tag_of}
use Rattle.pp_c.specs.contracts.status.Status.{the_type}
use Rattle.pp_c.proofs.PreprocessedLemmas.{are_written}
use Rattle.pp_c.proofs.ResultLemmas.{if_ok, if_ok_at}
use Rattle.pp_c.proofs.StatusLemmas.{by_number, answers_by, asks_for_texts, has_texts, ok_if_items, how_ended}
use Rattle.pp_c.specs.inner.Settings.{takes_texts}
use Rattle.pp_c.specs.declared.status.End.TheVariants.{Include}
use Rattle.std.specs.Prelude.{IsTrue}
use Rattle.pp_c.specs.Preprocessed.{entries_of}
use Rattle.pp_c.proofs.answer.Goals as goal

pub returns-clause-given : goal.returns-clause-given
returns-clause-given c = λ h.
    let s = c.status_after.ensures in
    let it = how_ended c.preprocess-end.result c.status_after.result s.done s.partial s.asking s.too_small c.preprocess-end.ensures.given h in
    let gives = it.holds in
    let same_items = sym c.new-output.ensures.same_items ∙ sym gives.takes.same_items in
    let same_texts = sym c.new-output.ensures.same_texts ∙ sym gives.takes.same_texts in
    record {
      end = it.end;
      done = it.done;
      partial = it.partial;
      asking = it.asking;
      given = gives.given;
      are_items = gives.are_items;
      stops = gives.stops;
      asked = gives.asked;
      written = are_written (entries_of gives.given) c.new-output.result c.preprocess-end.new.output c.args.items.now _ c.args.texts.now _ c.sizes-wanted.result
          (omega arith) (omega arith) c.new-output.ensures.items c.new-output.ensures.texts c.new-output.ensures.sizes gives.takes
          (c.items-1.given.1.1 same_items) (c.texts-1.given.1.1 same_texts) c.sizes-wanted.ensures;
    }

pub returns-clause-answered : goal.returns-clause-answered
returns-clause-answered c = λ h.
    let s = c.status_after.ensures in
    if_ok c.preprocess-end.result (ok_if_items c.preprocess-end.result c.status_after.result s.done s.partial s.asking s.too_small h) c.preprocess-end.ensures.answered

pub returns-clause-text : goal.returns-clause-text
returns-clause-text c = λ h.
    let s = c.status_after.ensures in
    c.preprocess-end.ensures.text (ok_if_items c.preprocess-end.result c.status_after.result s.done s.partial s.asking s.too_small h)

pub returns-clause-fit : goal.returns-clause-fit
returns-clause-fit c = λ h.
    let s = c.status_after.ensures in
    c.preprocess-end.ensures.fit (ok_if_items c.preprocess-end.result c.status_after.result s.done s.partial s.asking s.too_small h)

pub returns-clause-not_utf8 : goal.returns-clause-not_utf8
returns-clause-not_utf8 c = (
  λ e. c.preprocess-end.ensures.not_utf8.0 (c.status_after.ensures.not_utf8.0 (by_number c.status_after.result 2 e)),
  λ h. ap (tag_of the_type) (c.status_after.ensures.not_utf8.1 (c.preprocess-end.ensures.not_utf8.1 h)),
)

pub returns-clause-long_source : goal.returns-clause-long_source
returns-clause-long_source c = λ h. ap (tag_of the_type) (c.status_after.ensures.too_long.1 (c.preprocess-end.ensures.long_source h))

pub returns-clause-too_long : goal.returns-clause-too_long
returns-clause-too_long c = λ e. c.preprocess-end.ensures.too_long (c.status_after.ensures.too_long.0 (by_number c.status_after.result 3 e))

pub returns-clause-bad_definition : goal.returns-clause-bad_definition
returns-clause-bad_definition c = λ e. c.preprocess-end.ensures.bad_definition (c.status_after.ensures.bad_definition.0 (by_number c.status_after.result 4 e))

pub returns-clause-over_budget : goal.returns-clause-over_budget
returns-clause-over_budget c = λ e. c.preprocess-end.ensures.over_budget (c.status_after.ensures.over_budget.0 (by_number c.status_after.result 6 e))

pub returns-clause-too_deep : goal.returns-clause-too_deep
returns-clause-too_deep c = λ e. c.preprocess-end.ensures.too_deep (c.status_after.ensures.too_deep.0 (by_number c.status_after.result 10 e))

pub returns-clause-answer : goal.returns-clause-answer
returns-clause-answer c =
    let s = c.status_after.ensures in
    answers_by (IsTrue (takes_texts c.args.setting)) c.status_after.result s.good_options s.no_stream
    (λ e.
    let gives = if_ok_at _ c.preprocess-end.result Include (s.asking e) c.preprocess-end.ensures.given in
    asks_for_texts c.args.setting.passes gives.given gives.asked)
    (λ e. has_texts (takes_texts c.args.setting) c.args.definitions.now (c.preprocess-end.ensures.too_deep (s.too_deep.0 e)))
