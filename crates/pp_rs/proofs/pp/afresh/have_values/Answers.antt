use Rattle.std.proofs.Common.{rules}
use Rattle.std.proofs.lemmas.Bool.Decides.{same_from_decides}
use Rattle.std.proofs.lemmas.Iterator.{YieldsList-from_slice, YieldsList-from_zip}
use Rattle.std.proofs.lemmas.Iterator.Search.{all_from_yields_List}
use Rattle.pp_rs.proofs.runs.ItemValuesLemmas.{item_has, item_has_decides, have_each_tested}
use Rattle.pp_rs.proofs.pp.afresh.have_values.Goals as goal

pub returns-then-items-tokens : goal.returns-then-items-tokens
returns-then-items-tokens c =
    have_each_tested c.all.result c.args.items.now c.args.tokens.now (search rules)
    (all_from_yields_List _ c.all.new.self _ _ c.all.ensures.ran
    (YieldsList-from_zip (YieldsList-from_slice c.args.items.now cc) (YieldsList-from_slice c.args.tokens.now cc))
    (λ p r f called. (search rules, same_from_decides r (item_has p.0.now p.1.now.value) (search rules) (item_has_decides p.0.now p.1.now.value))))
