use Rattle.std.proofs.Common.{◌≡◌, ◌∙◌, ◌++◌, ap, append_assoc, string_bytes, sym}
use Rattle.glslpp_parts.proofs.LineNamesLemmas.{line_as_is, line_blanked}
use Rattle.glslpp_parts.proofs.line_names.push_without_name.Goals as goal

pub returns-2 : goal.returns-2
returns-2 c = line_as_is c.args.line.now (string_bytes c.args.blanked.now) (string_bytes c.push_str-4.new.self) c.in_ok-push_str-4.ensures.bytes

pub returns : goal.returns
returns c =
    let old = string_bytes c.args.blanked.now in
    let front = c.in-Some-strip_suffix.front.now in
    let parts = c.in-Some-split_name in
    let cut = c.in-Some-strip_suffix.ensures.cases in
    let line : c.args.line.now ≡ front ++ c.in-Some.rest.now = cut.1.1 ∙ ap (λ t. t ++ c.in-Some.rest.now) (sym cut.2) in
    let whole : c.args.line.now ≡ ((front ++ parts.before.now) ++ parts.name.now) ++ parts.behind.now =
    line ∙ ap (λ t. front ++ t) parts.ensures.whole ∙ simp append_assoc in
    line_blanked c.args.line.now (front ++ parts.before.now) parts.name.now parts.behind.now old
    (string_bytes c.push_str-2.new.self) (string_bytes c.push_blanks.new.text) (string_bytes c.push_str-3.new.self)
    whole (c.in_ok-push_str-2.ensures.bytes ∙ ap (λ t. t ++ parts.before.now) c.in_ok-push_str.ensures.bytes ∙ append_assoc old front parts.before.now)
    c.in_ok-push_blanks.ensures c.in_ok-push_str-3.ensures.bytes
