use Rattle.std.proofs.Common.{◌≡◌, ◌∙◌, length, false, Some, ◌≤◌, ◌<◌, arith}
use Rattle.std.specs.BTreeMap as tree
use Rattle.std.specs.String.{string_cmp}
use Rattle.pp_model.specs.Names.{is_in}
use Rattle.pp_macros.proofs.defined_names.NameKeysLemmas.{text_name}
use Rattle.pp_macros.proofs.defined_names.ParameterNamesLemmas.{finds_few_more, finds_other_more}
use Rattle.pp_macros.proofs.parameter_names.ParameterNames.with.Goals as goal
use Rattle.pp_macros.proofs.parameter_names.ParameterNames.with.Goals.{then-len-ge-FEW+in_ok-try_clone+in_ok-insert, else-len-ge-FEW}

pub invariant_of-result : goal.invariant_of-result
invariant_of-result c =
    let names = c.self.inside.names.items in
    let count : c.len.result ≡ length names = c.len.ensures ∙ c.self.inside.names.ok.0 in
    let new : is_in c.args.name names ≡ false = rw (c.self.view_is) c.requires in
    rw (c.in_ok-push.ensures.items)
    (elim c.if-len-ge-FEW.branch [
      | then-len-ge-FEW+in_ok-try_clone+in_ok-insert w ↦
          let copied : text_name w.from-key.result ≡ c.args.name = w.from-key.ensures ∙ w.in_ok-try_clone.ensures in
          let put : tree.Updates string_cmp c.self.inside.positions w.insert.new.self w.from-key.result (Some (length names)) =
          rw (w.len-then-len-ge-FEW.ensures ∙ c.self.inside.names.ok.0) at w.in_ok-insert.ensures.updates in
          let long : 8 ≤ length names = omega (arith, w.if-len-ge-FEW.true, count) in
          rw (w.positions-is, ← copied)
          (finds_other_more 8 c.self.inside.positions w.insert.new.self w.from-key.result names put long (rw copied new) c.self.invariant)
      | else-len-ge-FEW w ↦
          let short : length names < 8 = omega (arith, w.if-len-ge-FEW.false, count) in
          rw (w.positions-is) (finds_few_more 8 c.self.inside.positions.entries names c.args.name short new c.self.invariant)
    ])
