use Rattle.std.proofs.Common.{List, ℕ, subst, string_bytes}
use Rattle.test_shown.specs.Shown.{value_text, IsWith}
use Rattle.test_shown.proofs.push_unexpected.Goals as goal

pub returns : goal.returns
returns c = record {
  between = string_bytes c.push_value.new.text;
  value = subst (λ (old : List ℕ). IsWith (value_text c.args.value.now) old (string_bytes c.push_value.new.text))
      c.in_ok-push_str.ensures.bytes (c.in_ok-push_value.ensures {u = tt});
  rest = c.in_ok-push_str-2.ensures.bytes;
}
