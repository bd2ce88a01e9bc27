use Rattle.std.proofs.Common.{rules, tests}
use Rattle.std.proofs.lemmas.Iterator.{YieldsList-from_slice, YieldsList-from_zip}
use Rattle.std.proofs.lemmas.Iterator.Search.{all_from_yields_List}
use Rattle.pp_macros.specs.declared.define.BodyEntry.{BodyEntry}
use Rattle.pp_macros.specs.inner.Bodies.{is_same_entry}
use Rattle.pp_macros.proofs.defined_names.BodyLemmas.{entries_decide}
use Rattle.pp_macros.proofs.define.have_same_values.Goals as goal

pub returns-then-old-new : goal.returns-then-old-new
returns-then-old-new c parameters p q =
    rw (all_from_yields_List (λ (p : BodyEntry × BodyEntry). is_same_entry p.0 p.1) c.all.new.self _ _ c.all.ensures.ran
    (YieldsList-from_zip (YieldsList-from_slice c.args.old.now cc) (YieldsList-from_slice c.args.new.now cc)) (λ x b q k. search (rules, tests)))
    (entries_decide parameters c.args.old.now c.args.new.now (search rules) p q)
