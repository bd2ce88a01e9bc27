use Rattle.std.proofs.Common.{arith, string_bytes}
use Rattle.std.proofs.lemmas.Str.{IsUtf8-string_bytes}
use Rattle.pp_rs.proofs.runs.SpellingLemmas.{space_pushed}
use Rattle.pp_rs.proofs.pp.token_ref.StringTokenSink.take.Goals as goal

pub returns-clause-taken : goal.returns-clause-taken
returns-clause-taken c =
    space_pushed c.push.result _ (string_bytes c.push_to.new.text) _ _ (IsUtf8-string_bytes c.push_to.new.text) (rw (c.push.ensures.ascii (omega arith)) at c.push.ensures.bytes)
    (c.in_ok-push_to.ensures {u = tt}).appended
