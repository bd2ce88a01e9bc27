use Rattle.std.proofs.Common.{◌∙◌, ℕ, ap, drop, not, sym, take, rules, tests}
use Rattle.std.specs.Char.{is_ascii_digit}
use Rattle.std.specs.List.{position_or_len}
use Rattle.std.proofs.lemmas.Iterator.{YieldsList-from_slice}
use Rattle.std.proofs.lemmas.Iterator.Search.{position_from_yields_List}
use Rattle.std.proofs.lemmas.List.Sums.{prefix_len-le-length}
use Rattle.glslpp_parts.proofs.LineNamesLemmas.{cut_there, digits_end, end_of_digits, length_of_front}
use Rattle.glslpp_parts.proofs.line_names.split_digits.Goals as goal

pub returns : goal.returns
returns c =
    let text = c.args.text.now in
    let is_no_digit = λ (b : ℕ). not (is_ascii_digit b) in
    let found = position_from_yields_List is_no_digit _ _ c.position.result c.position.ensures.ran (YieldsList-from_slice text cc) (λ x b q h. search (rules, tests)) in
    let end = c.unwrap_or-end.ensures ∙ end_of_digits (position_or_len is_no_digit text) _ c.position.result (prefix_len-le-length (λ b. not (is_no_digit b)) text) found in
    let cut = c.split_at_checked.ensures in
    let parts = cut_there text c.unwrap_or-end.result c.split_at_checked.result _ c.unwrap_or.result c.unwrap_or.ensures (digits_end text c.unwrap_or-end.result c.utf8.text end)
    cut.variant cut.front cut.back in
    record {
      digits = parts.0 ∙ ap (λ n. take n text) end;
      rest = parts.1 ∙ ap (λ n. drop n text) (end ∙ sym (length_of_front is_no_digit text));
    }
