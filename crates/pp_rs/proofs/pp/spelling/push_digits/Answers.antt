use Rattle.std.proofs.Common.{rules}
use Rattle.std.proofs.lemmas.Str.{IsUtf8-string_bytes}
use Rattle.pp_rs.proofs.runs.SpellingLemmas.{integer-pushed, first_grown}
use Rattle.pp_rs.proofs.pp.spelling.push_digits.Goals as goal

pub returns-clause-appended : goal.returns-clause-appended
returns-clause-appended c =
    integer-pushed c.push_letters.result c.args.integer _ _ _ _ (IsUtf8-string_bytes c.args.text.now) (IsUtf8-string_bytes c.push_decimal.new.text)
    (search rules) (c.in_ok-push_decimal.ensures {u = tt}).appended (search rules) c.push_letters.ensures.bytes

pub returns-clause-refused : goal.returns-clause-refused
returns-clause-refused c = first_grown c.push_letters.result _ _ _ _ _ (c.in_ok-push_decimal.ensures {u = tt}).appended c.push_letters.ensures.bytes
