use Rattle.pp_c.proofs.PreprocessedLemmas.{gives_items}
use Rattle.pp_c.proofs.ResultLemmas.{if_ok_then}
use Rattle.pp_c.proofs.preprocessing.preprocess.Goals as goal

pub returns-clause-given : goal.returns-clause-given
returns-clause-given c =
    if_ok_then c.give_within-end.result (λ end h. rw (← c.in-Ok-Ok.ensures.cases.0, ← c.in-Ok-Ok.ensures'.cases.0)
    (gives_items c.args.setting end c.in-Ok-Ok.source.now c.in-Ok-Ok.words.now c.args.definitions.now c.with_rules-pp.result c.give_within-end.new.pp c.args.output.now
    c.give_within-end.new.output c.with_rules-pp.ensures.stands c.with_rules-pp.ensures.errors c.with_rules-pp.ensures.rules h)) c.give_within-end.ensures.given
