use Rattle.std.proofs.Common.{◌∙◌, ap, string_bytes}
use Rattle.std.specs.Str.{chars}
use Rattle.std.specs.Prelude.{Err}
use Rattle.std.proofs.lemmas.Result.{err_from_is_err_and}
use Rattle.std.proofs.lemmas.Str.{chars-nil}
use Rattle.uses.proofs.Reading.{none_read}
use Rattle.uses.proofs.Minified.{token_pushed, error_after_pushed, all_pushed}
use Rattle.uses.proofs.minifier.text_of_items.Goals as goal

pub items-init : goal.items-init
items-init c = record { tokens = _; read = none_read c.args.pp.now c.requires.unspent; pushed = ap chars c.new-text.ensures.bytes ∙ chars-nil }

pub items-preserved : goal.items-preserved
items-preserved c = token_pushed c.args.pp.now c.items.pp c.next.new.self (chars (string_bytes c.items.text)) c.items.invariant c.in_ok-token.token _
    (rw c.in_ok-token.was at c.in-Some.ensures.steps) c.in_ok-pushed.ensures.pushed

pub returns-in_err-token-clause-error : goal.returns-in_err-token-clause-error
returns-in_err-token-clause-error c =
    let e = err_from_is_err_and c.from_residual.result c.from_residual.ensures.1 in
    rw (e.1 ∙ ap Err e.2) (error_after_pushed c.args.pp.now c.items.pp c.next.new.self (chars (string_bytes c.items.text)) c.items.invariant
    c.in_err-token.field-0.0 (rw c.in_err-token.was at c.in-Some.ensures.steps) c.requires.rules)

pub returns-clause-text : goal.returns-clause-text
returns-clause-text c =
    all_pushed c.args.pp.now c.items.pp c.next.new.self (chars (string_bytes c.items.text)) c.items.invariant c.in_default.ensures.steps
