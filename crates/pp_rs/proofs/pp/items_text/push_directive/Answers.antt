use Rattle.std.proofs.Common.{◌∙◌, ◌++◌, ◌∷◌, [], ap, sym, arith, append_assoc, string_bytes}
use Rattle.std.specs.List.{flat_map}
use Rattle.std.specs.Str.{encode_utf8_all}
use Rattle.std.proofs.lemmas.List.{append-nil, take_all}
use Rattle.pp_lexer.specs.Spelling.{spelling}
use Rattle.pp_lexer.proofs.spelling.ItemTextLemmas.{token_bytes, directive_bytes, one_more}
use Rattle.pp_rs.proofs.pp.items_text.push_directive.Goals as goal

pub loop-token-init : goal.loop-token-init
loop-token-init c =
    (c.in_ok-push_str.ensures {u = tt}).bytes ∙ ap (λ t. string_bytes c.args.text.now ++ t) (sym (append-nil c.args.word.now))

pub loop-token-preserved : goal.loop-token-preserved
loop-token-preserved c =
    let space = c.in_ok-push.ensures {u = tt} in
    let spelled = c.in_ok-push_spelling.ensures {u = tt} in
    let old = string_bytes c.args.text.now in
    let word = encode_utf8_all (spelling c.token-item.result.value) in
    spelled.appended ∙ ap (λ t. t ++ word) (space.bytes ∙ ap (λ t. string_bytes c.loop-token.text ++ t) (space.ascii (omega arith)))
    ∙ append_assoc (string_bytes c.loop-token.text) (32 ∷ []) word
    ∙ ap (λ t. t ++ ((32 ∷ []) ++ word)) c.loop-token.invariant ∙ append_assoc old _ ((32 ∷ []) ++ word)
    ∙ ap (λ t. old ++ t)
    (one_more c.args.word.now c.as_slice-token-items.result.now c.loop-token.token-index c.token-item.result (omega arith) c.token-item.is)

pub returns-clause-appended : goal.returns-clause-appended
returns-clause-appended c =
    let tokens = c.as_slice-token-items.result.now in
    c.loop-token.invariant
    ∙ ap (λ t. string_bytes c.args.text.now ++ t) (
    ap (λ ts. c.args.word.now ++ flat_map token_bytes ts) (take_all c.loop-token.token-index tokens (omega arith))
    ∙ directive_bytes c.args.word.now tokens c.args.tokens.now c.utf8.word c.as_slice-token-items.ensures)
