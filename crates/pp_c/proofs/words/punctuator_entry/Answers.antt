use Rattle.std.proofs.Common.{ap, ◌∙◌, refl}
use Rattle.std.specs.Int.Bits.{or_zero_r}
use Rattle.std.specs.Str.{chars}
use Rattle.pp_rs.specs.Punctuators.{punctuator}
use Rattle.pp_rs.proofs.runs.SpellingLemmas.{chars-punctuator}
use Rattle.pp_c.proofs.TextLemmas.{bytes_of_chars}
use Rattle.pp_c.proofs.words.punctuator_entry.Goals as goal

pub returns : goal.returns
returns c =
    let u = ap chars c.spelling.ensures ∙ chars-punctuator c.args.punct in
    rw (c.numbered_item_at.ensures, c.number_of_punctuator.ensures, or_zero_r c.args.flags, bytes_of_chars c.spelling.result.now (punctuator c.args.punct) c.spelling.utf8 u) refl
