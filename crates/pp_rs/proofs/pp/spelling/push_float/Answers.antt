use Rattle.std.proofs.Common.{◌≡◌, length, subst, sym, arith, string_bytes}
use Rattle.std.specs.String.Boundary.{IsSplitPoint}
use Rattle.std.proofs.lemmas.Str.{IsUtf8-string_bytes}
use Rattle.pp_rs.proofs.runs.SpellingLemmas.{cut_before, chars-float_letters}
use Rattle.pp_rs.proofs.pp.spelling.push_float.Goals as goal

pub truncate-requires : goal.truncate-requires
truncate-requires c = λ fits.
    let now = string_bytes c.push_both.new.text in
    let old = string_bytes c.args.text.now in
    let n : c.len-length.result ≡ length old = omega arith in
    subst (λ k. IsSplitPoint now k) (sym n)
    (cut_before now old (IsUtf8-string_bytes c.push_both.new.text) (IsUtf8-string_bytes c.args.text.now) (c.in-Err.ensures {u = tt}).refused)

pub returns-clause-appended : goal.returns-clause-appended
returns-clause-appended c = grind (arith, chars-float_letters)
