use Rattle.std.proofs.Common.{◌∙◌, ◌++◌, ap, sym, refl, true, false, [], ◌∷◌, append-nil, string_bytes}
use Rattle.std.specs.Str.{chars, encode_utf8_all}
use Rattle.std.proofs.lemmas.Str.{IsUtf8-string_bytes, chars-append}
use Rattle.pp_lexer.specs.ItemText.{item_text}
use Rattle.uses.specs.Minified.{separator}
use Rattle.uses.proofs.Texts.{chars_one}
use Rattle.uses.proofs.Minified.{word_pushed, item_pushed}
use Rattle.uses.proofs.minifier.push_item.Goals as goal

pub returns-then-is_ordinary-clause-pushed : goal.returns-then-is_ordinary-clause-pushed
returns-then-is_ordinary-clause-pushed c =
    let before = string_bytes c.args.text.now in
    let word = string_bytes c.push_token.new.text in
    let words = word_pushed before word c.separator.result.now (string_bytes c.push_str.new.self) (string_bytes c.push_str-2.new.self) c.args.token.now.value
    (IsUtf8-string_bytes c.args.text.now) (IsUtf8-string_bytes c.push_token.new.text) c.separator.utf8
    (c.in_ok-push_token.ensures.appended ∙ ap (λ b. b ++ encode_utf8_all (item_text c.args.token.now.value)) c.new-word.ensures.bytes)
    (c.separator.ensures ∙ ap (λ t. separator (chars t) (chars c.as_str-2.result.now)) c.as_str.ensures.value ∙ ap (λ w. separator (chars before) (chars w)) c.as_str-2.ensures.value)
    c.in_ok-push_str.ensures.bytes (c.in_ok-push_str-2.ensures.bytes ∙ ap (λ w. string_bytes c.push_str.new.self ++ w) c.as_str-3.ensures.value) in
    item_pushed (chars before) _ c.args.token.now.value true (sym c.if-is_ordinary.true ∙ c.is_ordinary.ensures) (words ∙ sym (append-nil _))

pub returns-clause-pushed : goal.returns-clause-pushed
returns-clause-pushed c =
    let before = string_bytes c.args.text.now in
    let word = string_bytes c.push_token.new.text in
    let words = word_pushed before word c.separator.result.now (string_bytes c.push_str.new.self) (string_bytes c.push_str-2.new.self) c.args.token.now.value
    (IsUtf8-string_bytes c.args.text.now) (IsUtf8-string_bytes c.push_token.new.text) c.separator.utf8
    (c.in_ok-push_token.ensures.appended ∙ ap (λ b. b ++ encode_utf8_all (item_text c.args.token.now.value)) c.new-word.ensures.bytes)
    (c.separator.ensures ∙ ap (λ t. separator (chars t) (chars c.as_str-2.result.now)) c.as_str.ensures.value ∙ ap (λ w. separator (chars before) (chars w)) c.as_str-2.ensures.value)
    c.in_ok-push_str.ensures.bytes (c.in_ok-push_str-2.ensures.bytes ∙ ap (λ w. string_bytes c.push_str.new.self ++ w) c.as_str-3.ensures.value) in
    let end = ap chars c.in_ok-push.ensures.bytes ∙ chars-append (string_bytes c.push_str-2.new.self) _ (IsUtf8-string_bytes c.push_str-2.new.self)
    ∙ ap (λ e. chars (string_bytes c.push_str-2.new.self) ++ e) (chars_one 10 refl) ∙ ap (λ t. t ++ 10 ∷ []) words in
    item_pushed (chars before) _ c.args.token.now.value false (sym c.if-is_ordinary.false ∙ c.is_ordinary.ensures) end
