use Rattle.std.proofs.Common.{◌≡◌, length, arith}
use Rattle.pp_macros.proofs.taking.PartLemmas.{one_empty_is}
use Rattle.pp_macros.proofs.argument_lists.ArgumentLists.is_one_empty.Goals as goal

pub returns-in-len1 : goal.returns-in-len1
returns-in-len1 c =
    let one : length c.as_slice.result.now ≡ 1 = omega (arith, c.in-len1.len_below, c.in-len1.len_at_least) in
    rw (← c.self.view_is, c.as_slice.ensures.value)
    (one_empty_is c.self.inside.tokens.items c.self.inside.parts.items _ (rw c.as_slice.ensures.value at one) c.self.invariant.1)
