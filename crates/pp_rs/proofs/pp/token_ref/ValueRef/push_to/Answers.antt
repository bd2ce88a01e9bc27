use Rattle.std.proofs.lemmas.Str.{IsUtf8-string_bytes}
use Rattle.pp_rs.proofs.runs.SpellingLemmas.{chars-pushed, not-pushed}
use Rattle.pp_rs.proofs.pp.token_ref.ValueRef.push_to.Goals as goal

pub returns-in-Ident-clause-appended : goal.returns-in-Ident-clause-appended
returns-in-Ident-clause-appended c =
    let h = chars-pushed c.push_str.result _ _ _ (IsUtf8-string_bytes c.args.text.now) c.push_str.ensures.bytes in
    rw c.in-Ident.is h

pub returns-in-Ident-clause-refused : goal.returns-in-Ident-clause-refused
returns-in-Ident-clause-refused c = not-pushed c.push_str.result _ _ _ c.push_str.ensures.bytes
