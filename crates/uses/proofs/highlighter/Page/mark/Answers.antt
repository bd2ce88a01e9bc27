use Rattle.std.proofs.Common.{◌∙◌, ◌++◌, ap, codes, refl, string_bytes}
use Rattle.std.specs.Str.{chars}
use Rattle.std.proofs.lemmas.Str.{IsUtf8-string_bytes, chars-append}
use Rattle.uses.proofs.Pages.{tag_written, end_written, span_chars, span_stays}
use Rattle.uses.proofs.highlighter.Page.mark.Goals as goal

pub push_up_to-requires-3 : goal.push_up_to-requires-3
push_up_to-requires-3 c =
    let before = c.push_up_to-2.new.self in
    tag_written before _ (codes "span class=\"" ++ chars c.args.class.now ++ codes "\"") c.in_ok-push_up_to.ensures.written
    (span_stays (chars c.args.class.now) c.requires.class) refl refl
    (ap chars c.in_ok-write.ensures.bytes ∙ chars-append (string_bytes before.text) _ (IsUtf8-string_bytes before.text)
    ∙ ap (λ t. chars (string_bytes before.text) ++ t) (span_chars c.args.class.now c.utf8.class))

pub returns-clause-written : goal.returns-clause-written
returns-clause-written c = end_written c.push_str.result c.push_up_to-3.new.self _ c.in_ok-push_up_to-2.ensures.written refl refl c.push_str.ensures.bytes
