use Rattle.std.proofs.Common.{◌∙◌, ◌++◌, ap, sym, string_bytes}
use Rattle.std.proofs.lemmas.List.{append-nil}
use Rattle.std.proofs.lemmas.Result.{IfOk-weaker}
use Rattle.std.proofs.lemmas.Str.{IsUtf8-string_bytes}
use Rattle.pp_rs.proofs.runs.SpellingLemmas.{unspelled, bytes-pushed}
use Rattle.pp_rs.proofs.pp.items_text.push_spelling.Goals as goal

pub returns-then-is_ordinary-clause-appended : goal.returns-then-is_ordinary-clause-appended
returns-then-is_ordinary-clause-appended c =
    IfOk-weaker c.push_value.result _ _ (λ done h. bytes-pushed _ _ _ (IsUtf8-string_bytes c.push_value.new.text) (IsUtf8-string_bytes c.args.text.now) h)
    c.push_value.ensures.appended

pub returns-clause-appended : goal.returns-clause-appended
returns-clause-appended c =
    let none = unspelled c.args.token.now.value (sym c.is_ordinary.ensures ∙ c.if-is_ordinary.false) in
    sym (ap (λ t. string_bytes c.args.text.now ++ t) none ∙ append-nil (string_bytes c.args.text.now))
