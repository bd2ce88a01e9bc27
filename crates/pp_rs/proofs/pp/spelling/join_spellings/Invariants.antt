use Rattle.std.proofs.Common.{◌≡◌, ◌++◌, drop, string_bytes}
use Rattle.std.specs.Str.{chars}
use Rattle.pp_lexer.specs.Spelling.{spelled_text, values_of}
use Rattle.pp_rs.proofs.runs.SpellingLemmas.{spaced_spellings}
use Rattle.pp_rs.proofs.pp.spelling.join_spellings.Given as goal

-- what is written, and the tokens left after it, are the whole text
abbrev pub invariant-loop-token : goal.invariant-loop-token
invariant-loop-token l =
    chars (string_bytes l.text) ++ spaced_spellings (values_of (drop l.token-index l.others)) ≡ spelled_text (values_of l.tokens)
