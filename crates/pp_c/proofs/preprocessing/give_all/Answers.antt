use Rattle.std.proofs.Common.{◌≡◌, ◌<◌, ◌∙◌, true, length, get_or, refl, ap, arith}
use Rattle.std.proofs.lemmas.List.{drop_more, take_all}
use Rattle.std.proofs.lemmas.List.Elements.{All-more}
use Rattle.pp_c.proofs.AllLemmas.{none_added, same_rules, one_added, all_given, front_given}
use Rattle.pp_c.proofs.RefusingLemmas.{err_result, refusal_of_all}
use Rattle.pp_c.proofs.WrittenLemmas.{next_same, written_more, written_all}
use Rattle.pp_c.specs.Calls.{answered_in, is_text, CanEnter, HasLongContent, LacksWords}
use Rattle.pp_c.specs.inner.Settings.{takes_texts}
use Rattle.pp_rs.specs.Kept.{rules_of}
use Rattle.pp_c.specs.declared.items.Definition.{Definition}
use Rattle.pp_c.proofs.preprocessing.give_all.Goals as goal

abbrev zeros : Definition
zeros = record {
  name_start = 0;
  name_length = 0;
  content_start = 0;
  content_length = 0;
  after = 0;
  error = 0;
  start = 0;
  end = 0;
  line = 0;
}

pub loop-i-init : goal.loop-i-init
loop-i-init c = record {
  added = none_added c.args.setting c.args.pp.now c.args.output.now c.args.words.now c.args.definitions.now _ refl c.requires.unspent (record { items = omega arith; texts = omega arith });
  fit = λ k d h. absurd (omega (arith, h));
  written = refl;
}

pub loop-i-preserved : goal.loop-i-preserved
loop-i-preserved c =
    let within : c.loop-i.i < length c.args.definitions.now = omega arith in
    let now = c.loop-i.invariant.written in
    let entered = rw c.is_some-texts.ensures at (c.in_ok-enter.ensures {u = tt}) in
    let until = c.in_ok-give_until.ensures {u = tt} in
    let reply = answered_in (takes_texts c.args.setting) (rules_of c.args.pp.now) c.args.words.now in
    let same = next_same reply c.args.definitions.now c.loop-i.definitions c.loop-i.i zeros within now in
    let rules = same_rules c.args.setting c.args.pp.now c.args.output.now c.args.words.now c.args.definitions.now c.loop-i.i c.loop-i.progress c.give_until.new.progress
    c.loop-i.pp c.give_until.new.pp c.loop-i.output c.give_until.new.output c.loop-i.invariant.added until.given in
    record {
      added = one_added c.args.setting c.args.pp.now c.args.output.now c.args.words.now c.args.definitions.now c.loop-i.i c.loop-i.progress c.give_until.new.progress
          c.loop-i.pp c.give_until.new.pp c.enter.new.pp c.loop-i.output c.give_until.new.output (get_or c.args.definitions.now c.loop-i.i zeros) c.enter.new.definition
          (drop_more c.args.definitions.now c.loop-i.i zeros within) c.loop-i.invariant.added (rw same at (rw c.up_to-after.ensures at until.until)) until.unspent until.given (rw same at entered.added);
      fit = All-more (CanEnter (takes_texts c.args.setting) c.args.words.now) c.args.definitions.now c.loop-i.i zeros within c.loop-i.invariant.fit (rw same at entered.fits);
      written = written_more reply c.args.definitions.now c.loop-i.definitions c.loop-i.i zeros within now c.enter.new.definition
          (entered.added.written ∙ ap (λ r. answered_in (takes_texts c.args.setting) r c.args.words.now (get_or c.loop-i.definitions c.loop-i.i zeros)) rules);
    }

pub returns-in_err-enter-clause-err : goal.returns-in_err-enter-clause-err
returns-in_err-enter-clause-err c =
    let within : c.loop-i.i < length c.args.definitions.now = omega arith in
    let texts = takes_texts c.args.setting in
    let same = next_same (answered_in texts (rules_of c.args.pp.now) c.args.words.now) c.args.definitions.now c.loop-i.definitions c.loop-i.i zeros within c.loop-i.invariant.written in
    rw (err_result c.from_residual-in_err-enter.result c.in_err-enter.field-0.0 c.from_residual-in_err-enter.ensures.1)
    (refusal_of_all (HasLongContent c.args.words.now) (LacksWords texts c.args.words.now) (λ d. is_text texts d ≡ true) c.args.definitions.now c.loop-i.i zeros c.in_err-enter.field-0.0 within
    (rw (same, c.is_some-texts.ensures) at c.in_err-enter.ensures.err))

pub returns-in_default-clause-given : goal.returns-in_default-clause-given
returns-in_default-clause-given c =
    all_given c.args.setting c.args.pp.now c.args.output.now c.args.words.now c.args.definitions.now c.loop-i.i c.loop-i.progress c.loop-i.pp c.give_rest.new.pp c.loop-i.output
    c.give_rest.new.output (omega arith) c.in_default.is (c.requires.bounded c.in_default.is) c.loop-i.invariant.added (c.in_ok-give_rest.ensures {u = tt})

pub returns-clause-given : goal.returns-clause-given
returns-clause-given c =
    let until = c.in_ok-give_until-2.ensures {u = tt} in
    front_given c.args.setting c.in-Some.most c.args.pp.now c.args.output.now c.args.words.now c.args.definitions.now c.loop-i.i c.loop-i.progress c.give_until-2.new.progress
    c.loop-i.pp c.give_until-2.new.pp c.loop-i.output c.give_until-2.new.output (omega arith) c.in-Some.is c.loop-i.invariant.added until.until until.given

pub returns-clause-answered : goal.returns-clause-answered
returns-clause-answered c =
    written_all (answered_in (takes_texts c.args.setting) (rules_of c.args.pp.now) c.args.words.now) c.args.definitions.now c.loop-i.definitions c.loop-i.i (omega arith) c.loop-i.invariant.written

pub returns-clause-fit : goal.returns-clause-fit
returns-clause-fit c = rw (take_all c.loop-i.i c.args.definitions.now (omega arith)) at c.loop-i.invariant.fit
