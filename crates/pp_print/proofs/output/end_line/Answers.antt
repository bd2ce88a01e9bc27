use Rattle.std.proofs.Common.{◌≡◌, length, string_bytes, arith, ◌∙◌}
use Rattle.std.specs.Prelude.{string_len}
use Rattle.pp_print.proofs.TextLemmas.{nothing_begun, line_ended}
use Rattle.pp_print.proofs.output.end_line.Goals as goal

pub returns-in_default : goal.returns-in_default
returns-in_default c = λ begun is.
    let none = rw c.in_default.is at c.pop.ensures.none in
    nothing_begun begun _ _ is (omega (arith, none)) (omega (arith, c.pop.ensures.bound))

pub returns : goal.returns
returns c = λ begun is.
    let n : string_len c.args.line ≡ length (string_bytes c.args.line) = omega arith in
    let cut = rw c.in-Some.is at c.pop.ensures.bytes in
    let shorter = rw c.in-Some.is at c.pop.ensures.shorter in
    (rw (c.push.ensures.ascii (omega arith)) at (c.in_ok-push.ensures {u = tt}).bytes)
    ∙ line_ended begun _ _ _ _ is n (omega (arith, shorter)) cut (rw c.in-Some.is at c.pop.ensures.ascii)
