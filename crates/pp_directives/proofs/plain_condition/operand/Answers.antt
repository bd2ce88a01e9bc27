use Rattle.std.proofs.Common.{◌∙◌, sym}
use Rattle.std.proofs.lemmas.Str.{chars-IsAscii}
use Rattle.pp_directives.specs.WordTokens.{word_token}
use Rattle.pp_directives.proofs.PlainConditionLemmas.{gives_operand, gives_inside}
use Rattle.pp_directives.proofs.plain_condition.operand.Goals as goal

pub returns-then-not-is_left_paren-clause-gives : goal.returns-then-not-is_left_paren-clause-gives
returns-then-not-is_left_paren-clause-gives c =
    rw c.in_ok-first.ensures.takes (gives_operand c.args.definitions.now c.in_ok-free_name.field-0.now (word_token c.in_ok-first.first) c.next.new.self c.is_defined.result
    c.in_ok-free_name.ensures.name (rw (chars-IsAscii c.in_ok-free_name.field-0.now c.in_ok-free_name.ensures.ascii) at c.is_defined.ensures))

pub returns-clause-gives : goal.returns-clause-gives
returns-clause-gives c =
    rw (c.in_ok-first.ensures.takes, c.in_ok-next.ensures.takes, c.in_ok-next-2.ensures.takes)
    (gives_inside c.args.definitions.now c.in_ok-name.name.now (word_token c.in_ok-first.first) (word_token c.in_ok-next.field-0) (word_token c.in_ok-next-2.field-0)
    c.next-3.new.self
    c.is_defined-2.result (sym c.is_left_paren.ensures ∙ c.if-not-is_left_paren.false) c.in_ok-name.ensures.name
    (sym c.is_right_paren.ensures ∙ c.if-not-is_right_paren.false)
    (rw (chars-IsAscii c.in_ok-name.name.now c.in_ok-name.ensures.ascii) at c.is_defined-2.ensures))
