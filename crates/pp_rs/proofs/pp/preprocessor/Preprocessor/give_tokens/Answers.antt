use Rattle.std.proofs.Common.{◌∙◌, ap, sym}
use Rattle.pp_rs.specs.Kept.{is_spent, rules_of}
use Rattle.pp_rs.proofs.runs.GivingLemmas.{giving_nothing, giving_stops}
use Rattle.pp_rs.proofs.pp.preprocessor.Preprocessor.give_tokens.Goals as goal

-- memory had run out
pub returns-then-is_spent : goal.returns-then-is_spent
returns-then-is_spent g c = giving_nothing _ _ _ _ _ (sym c.is_spent.ensures ∙ c.if-is_spent.true)

pub give_all-requires : goal.give_all-requires
give_all-requires g c = record { unspent = sym c.is_spent.ensures ∙ c.if-is_spent.false }

-- memory runs out
pub returns-in-Err : goal.returns-in-Err
unfolding is_spent rules_of
returns-in-Err g c = rw c.out_of_memory.ensures (giving_stops _ _ _ _ _ _ _ (c.in-Err.ensures {u = tt}).refused (ap (λ p. p.spent) c.spend.ensures)
    (ap rules_of c.spend.ensures ∙ (c.give_all.ensures).rules))
