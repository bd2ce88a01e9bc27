use Rattle.std.proofs.Common.{◌∙◌, ap, sym, Some}
use Rattle.std.proofs.lemmas.Str.{chars-IsAscii}
use Rattle.pp_macros.specs.inner.Defined.{Macro}
use Rattle.pp_directives.specs.WordTokens.{word_token}
use Rattle.pp_directives.proofs.PlainConditionLemmas.{gives_plain, gives_name, gives_defined, gives_body}
use Rattle.pp_directives.proofs.plain_condition.word_symbol.Goals as goal

pub returns-in-Some-clause-gives : goal.returns-in-Some-clause-gives
returns-in-Some-clause-gives c =
    gives_plain c.args.definitions.now (word_token c.args.word.now) c.args.line.now c.in-Some.symbol (sym c.in-Some.ensures)

pub returns-then-is_defined_name-clause-gives : goal.returns-then-is_defined_name-clause-gives
returns-then-is_defined_name-clause-gives c =
    gives_defined c.args.definitions.now c.in_ok-name.name.now (word_token c.args.word.now) c.args.line.now c.operand.new.line c.in_ok-answer.answer
    c.in_ok-name.ensures.name (sym c.is_defined_name.ensures ∙ c.if-is_defined_name.true) c.in_ok-answer.ensures.gives c.truth.result
    c.truth.ensures

pub returns-in-None-clause-gives : goal.returns-in-None-clause-gives
returns-in-None-clause-gives c =
    gives_name c.args.definitions.now c.in_ok-name.name.now (word_token c.args.word.now) c.args.line.now c.in_ok-name.ensures.name
    (sym c.is_defined_name.ensures ∙ c.if-is_defined_name.false)
    (sym (rw (chars-IsAscii c.in_ok-name.name.now c.in_ok-name.ensures.ascii) at c.in-None.ensures.definition))

pub returns-in-Some-get-clause-gives : goal.returns-in-Some-get-clause-gives
returns-in-Some-get-clause-gives c =
    gives_body c.args.definitions.now c.in_ok-name.name.now (word_token c.args.word.now) c.args.line.now c.deref.result.now.definition c.body_symbol.result
    c.in_ok-name.ensures.name
    (sym c.is_defined_name.ensures ∙ c.if-is_defined_name.false)
    (sym (rw (chars-IsAscii c.in_ok-name.name.now c.in_ok-name.ensures.ascii, c.in-Some-get.found-is) at c.in-Some-get.ensures.definition)
    ∙ ap (λ (m : Macro). Some m.definition) (sym c.deref.ensures)) c.body_symbol.ensures
