use Rattle.std.proofs.Common.{◌≡◌, ◌≤◌, get_or, arith, sym}
use Rattle.pp_lexer.proofs.numbers.PlainNumbersLemmas.{plain_integer, plain_unsigned}
use Rattle.pp_lexer.proofs.lexer.plain.number.plain_integer.Goals as goal
use Rattle.pp_lexer.proofs.lexer.plain.number.plain_integer.Goals.{else-bytes-eq48-via-then-bytes-eq48+else-digits-gt1, else-bytes-eq48-via-else-bytes-eq48}

pub returns-then-ends_number : goal.returns-then-ends_number
returns-then-ends_number c =
    let octal : get_or c.args.bytes.now 0 0 ≡ 48 → c.args.digits ≤ 1 =
    elim c.else-bytes-eq48.branch [
      | else-bytes-eq48-via-then-bytes-eq48+else-digits-gt1 w ↦ λ e. omega arith
      | else-bytes-eq48-via-else-bytes-eq48 w ↦ λ e. omega arith
    ] in
    plain_integer c.args.bytes.now c.args.digits c.in_ok-value.value c.requires.utf8 (omega arith) c.requires.within c.requires.digits octal
    (omega arith) (sym c.in_ok-value.ensures)
    (c.ends_number.ensures c.if-ends_number.true)

pub returns-then-ends_in_suffix : goal.returns-then-ends_in_suffix
returns-then-ends_in_suffix c =
    let octal : get_or c.args.bytes.now 0 0 ≡ 48 → c.args.digits ≤ 1 =
    elim c.else-bytes-eq48.branch [
      | else-bytes-eq48-via-then-bytes-eq48+else-digits-gt1 w ↦ λ e. omega arith
      | else-bytes-eq48-via-else-bytes-eq48 w ↦ λ e. omega arith
    ] in
    plain_unsigned c.args.bytes.now c.args.digits c.in_ok-value.value c.requires.utf8 (omega arith) c.requires.within c.requires.digits octal
    (omega arith) (sym c.in_ok-value.ensures)
    (c.ends_in_suffix.ensures c.if-ends_in_suffix.true)
