use Rattle.std.proofs.Common.{◌≡◌, ◌++◌, ◌∷◌, [], ◌-◌, ◌<◌, ℕ, List, length, take, sym, ap, ◌∙◌, arith, length-set}
use Rattle.std.specs.Prelude.{slice_set}
use Rattle.std.proofs.lemmas.Grind.{take-set_at}
use Rattle.std.proofs.Math.Seq.{take-length}
use Rattle.pp_macros.proofs.blocks.Blocks.replace_last.Goals as goal
use Rattle.pp_macros.proofs.blocks.Blocks.replace_last.Goals.{in-Some, in_default}

set_last : {X : Type 0} (xs : List X) (n : ℕ) (x : X) → n ≡ length xs → 0 < length xs → slice_set xs (n - 1) x ≡ take (length xs - 1) xs ++ x ∷ []
set_last xs n x e some =
    let last = length xs - 1 in
    let all : take (length xs) (slice_set xs last x) ≡ slice_set xs last x = ap (λ k. take k (slice_set xs last x)) (sym (length-set xs last x))
    ∙ take-length (slice_set xs last x) in
    rw e (sym all ∙ take-set_at xs last (length xs) x (omega arith) (omega arith))

pub returns-clause-is : goal.returns-clause-is
returns-clause-is c =
    let v = c.self.inside.open in
    let some : 0 < length v.items = rw (← c.self.view_is) at c.requires in
    rw (← c.self.view_is)
    (elim c.match-last_mut.branch [
      | in-Some w ↦ rw w.self-inside-is (set_last v.items v.len c.args.block v.ok.0 some)
      | in_default w ↦ let more : 0 < v.len = omega (arith, v.ok.0) in let bad = w.in_default.ensures.variant.1 more in absurd (cc)
    ])
