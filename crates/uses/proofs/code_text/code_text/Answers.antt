use Rattle.std.proofs.Common.{◌∙◌, inl, inr, ap}
use Rattle.std.specs.Prelude.{Err}
use Rattle.std.specs.Result.{ok_prefix}
use Rattle.std.proofs.lemmas.Result.{err_from_is_err_and}
use Rattle.pp_lexer.specs.Spelling.{spelled_text, values_of}
use Rattle.pp_model.specs.Run.{items_of}
use Rattle.pp_rs.specs.Comes.{start}
use Rattle.uses.proofs.CodeText.{run_ends, run_fails, if_ok_then}
use Rattle.uses.proofs.code_text.code_text.Goals as goal

pub returns-in_err-tokens-clause-error : goal.returns-in_err-tokens-clause-error
returns-in_err-tokens-clause-error c =
    let new = c.new-pp.ensures in
    let items = c.in_ok-items.field-0.items in
    let e = err_from_is_err_and c.from_residual-in_err-tokens.result c.from_residual-in_err-tokens.ensures.1 in
    rw (e.1 ∙ ap Err e.2) (elim c.in_err-tokens.ensures.error [
      | inl refused ↦ inl refused
      | inr found ↦ inr (
        ok_prefix items,
        run_fails c.new-pp.result items (start (items_of c.args.source.now)) new.unspent new.rules new.stands c.in_ok-items.ensures.items _ found,
      )
    ])

pub returns-clause-text : goal.returns-clause-text
returns-clause-text c =
    let new = c.new-pp.ensures in
    let items = c.in_ok-items.field-0.items in
    let run =
    run_ends c.new-pp.result items (start (items_of c.args.source.now)) new.unspent new.rules new.stands c.in_ok-items.ensures.items c.in_ok-tokens.ensures.whole in
    if_ok_then c.spell_tokens.result _ _ _ (λ text spelled. (
      ok_prefix items,
      run,
      spelled ∙ ap (λ tokens. spelled_text (values_of tokens)) (c.as_slice.ensures.value ∙ c.in_ok-tokens.ensures.kept),
    )) c.spell_tokens.ensures
