use Rattle.std.proofs.Common.{[], ◌∷◌}
use Rattle.std.proofs.lemmas.Result.{IfOk-weaker}
use Rattle.pp_model.specs.RunToEnd.{to_first_error}
use Rattle.pp_lexer.specs.Rules.{pp_rs}
use Rattle.pp_model.specs.Emitting.{answers_at, expansion_limit}
use Rattle.pp_model.specs.Run.{items_of, next}
use Rattle.uses.proofs.OneToken.{identifier_runs, all_replies}
use Rattle.uses.proofs.one_token.replies_to_identifier.Goals as goal

pub returns : goal.returns
returns c = IfOk-weaker c.replies.result _ _ (λ replies run word newline name items is_word is_newline other.
    let source = c.args.source.now in
    let calls = next ∷ next ∷ [] in
    all_replies replies.items name word.location
    (c.runs.ensures.run pp_rs source calls (to_first_error replies.items) _ (c.runs_to_end.ensures.begins pp_rs source calls replies.items run)
    (identifier_runs (answers_at expansion_limit) (items_of source) word newline name items is_word is_newline other)))
    c.replies.ensures
