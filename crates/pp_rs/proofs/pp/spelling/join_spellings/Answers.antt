use Rattle.std.proofs.Common.{◌++◌, ◌∙◌, ap, arith, string_bytes, IsTrue}
use Rattle.pp_lexer.specs.TokenValue.{is_ordinary}
use Rattle.std.proofs.lemmas.Str.{IsUtf8-string_bytes}
use Rattle.pp_rs.proofs.runs.SpellingLemmas.{spelled_none, spelled_first, spelled_more, spelled_all, all_after_first}
use Rattle.pp_rs.proofs.pp.spelling.join_spellings.Goals as goal

pub returns-in_default : goal.returns-in_default
returns-in_default c = let h = c.in_default.ensures {u = tt} in spelled_none _ c.args.tokens.now h.cases c.new-text.ensures.bytes

pub loop-token-init : goal.loop-token-init
loop-token-init c =
    let h = c.in-Some.ensures in
    let k = (c.in_ok-push_value.ensures {u = tt}).appended in
    spelled_first _ _ _ _ _ h.cases.0 c.new-text.ensures.bytes k

pub push_value-requires-in-loop-token : goal.push_value-requires-in-loop-token
push_value-requires-in-loop-token c =
    all_after_first (λ t. IsTrue (is_ordinary t.value)) _ c.in-Some.others.now _ c.token-item.result c.loop-token.token-index c.requires
    c.in-Some.ensures.cases.0 (omega arith) c.token-item.is

pub loop-token-preserved : goal.loop-token-preserved
loop-token-preserved c =
    let p = c.in_ok-push.ensures {u = tt} in
    let k = (c.in_ok-push_value-2.ensures {u = tt}).appended in
    spelled_more _ _ c.in-Some.others.now c.loop-token.token-index c.loop-token.invariant _ _ _ (IsUtf8-string_bytes c.loop-token.text)
    (omega arith) c.token-item.is
    (p.bytes ∙ ap (λ t. string_bytes c.loop-token.text ++ t) (p.ascii (omega arith))) k

pub returns : goal.returns
returns c = spelled_all _ _ c.in-Some.others.now c.loop-token.token-index c.loop-token.invariant (omega arith)
