use Rattle.std.proofs.Common.{◌≡◌, ◌++◌, List, ℕ}
use Rattle.glslpp_parts.specs.WordFiles.{words_of_file}
use Rattle.glslpp_parts.specs.inner.Cutting.{joined}
use Rattle.glslpp_parts.proofs.word_file.words_of_file.Given as goal

-- with the characters that are left the words are those of the whole text
abbrev pub invariant-characters : goal.invariant-characters
invariant-characters l = (rest : List ℕ) → joined l.cutter rest ≡ words_of_file (l.yielded ++ rest)
