use Rattle.std.proofs.Common.{refl}
use Rattle.pp_rs.specs.Kept.{is_spent, error_place, call_place, item_text, rules_of}
use Rattle.pp_rs.proofs.runs.StartLemmas.{start_stands, start_errors}
use Rattle.pp_rs.proofs.pp.preprocessor.Preprocessor.with_rules.Goals as goal

pub returns-clause-unspent : goal.returns-clause-unspent
unfolding is_spent
returns-clause-unspent c = refl

pub returns-clause-stands : goal.returns-clause-stands
returns-clause-stands c = rw (c.new.ensures, c.new-2.ensures, c.from_text.ensures) (start_stands c.args.rules c.args.input.now)

pub returns-clause-errors : goal.returns-clause-errors
returns-clause-errors c = rw (c.new.ensures, c.new-2.ensures, c.from_text.ensures) (start_errors c.args.rules c.args.input.now)

pub returns-clause-place : goal.returns-clause-place
unfolding error_place
returns-clause-place c = refl

pub returns-clause-call : goal.returns-clause-call
unfolding call_place
returns-clause-call c = rw (c.new.ensures, c.from_text.ensures) refl

pub returns-clause-rules : goal.returns-clause-rules
unfolding rules_of
returns-clause-rules c = refl

pub returns-clause-text : goal.returns-clause-text
unfolding item_text
returns-clause-text c = rw c.from_text.ensures refl
