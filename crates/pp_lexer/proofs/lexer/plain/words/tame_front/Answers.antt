use Rattle.std.proofs.Common.{arith, ◌+◌, sym, subst}
use Rattle.pp_lexer.proofs.words.TameLemmas.{Front, more_free, one_feed, one_digit, feeds_few}
use Rattle.pp_lexer.proofs.lexer.plain.words.tame_front.Goals as goal
use Rattle.pp_lexer.proofs.lexer.plain.words.tame_front.Goals.{then-byte-eq10, else-byte-eq10+else-not-is_inner_digit}

pub overflow_add-newlines : goal.overflow_add-newlines
overflow_add-newlines c =
    let few = feeds_few c.args.bytes.now c.bytes.at in
    omega (arith, c.bytes.invariant.counted, few, c.bytes-test.true)

pub bytes-preserved : goal.bytes-preserved
bytes-preserved c =
    let bytes = c.args.bytes.now in
    let at = c.bytes.at in
    let r = c.free_length-at.result in
    let h = more_free bytes at r c.bytes.newlines c.bytes.invariant c.free_length-at.ensures.within c.free_length-at.ensures.passes in
    elim c.if-byte-eq10.branch [
      | then-byte-eq10 w ↦
          subst (Front bytes (at + r + 1)) (sym w.newlines-is) (one_feed bytes (at + r) c.bytes.newlines h (omega arith) (omega arith))
      | else-byte-eq10+else-not-is_inner_digit w ↦
          let d = w.is_inner_digit.ensures w.if-not-is_inner_digit.false in
          subst (Front bytes (at + r + 1)) (sym w.newlines-is)
          (one_digit bytes (at + r) c.bytes.newlines h (omega arith) d.digit d.some d.after)
    ]

pub returns-then-at-bytes-clause-tame : goal.returns-then-at-bytes-clause-tame
returns-then-at-bytes-clause-tame c =
    (more_free c.args.bytes.now c.bytes.at c.free_length-at.result c.bytes.newlines c.bytes.invariant c.free_length-at.ensures.within
    c.free_length-at.ensures.passes).tame

pub returns-then-at-bytes-clause-newlines : goal.returns-then-at-bytes-clause-newlines
returns-then-at-bytes-clause-newlines c =
    (more_free c.args.bytes.now c.bytes.at c.free_length-at.result c.bytes.newlines c.bytes.invariant c.free_length-at.ensures.within
    c.free_length-at.ensures.passes).counted

pub returns-then-not-is_inner_digit-clause-tame : goal.returns-then-not-is_inner_digit-clause-tame
returns-then-not-is_inner_digit-clause-tame c =
    (more_free c.args.bytes.now c.bytes.at c.free_length-at.result c.bytes.newlines c.bytes.invariant c.free_length-at.ensures.within
    c.free_length-at.ensures.passes).tame

pub returns-then-not-is_inner_digit-clause-newlines : goal.returns-then-not-is_inner_digit-clause-newlines
returns-then-not-is_inner_digit-clause-newlines c =
    (more_free c.args.bytes.now c.bytes.at c.free_length-at.result c.bytes.newlines c.bytes.invariant c.free_length-at.ensures.within
    c.free_length-at.ensures.passes).counted
