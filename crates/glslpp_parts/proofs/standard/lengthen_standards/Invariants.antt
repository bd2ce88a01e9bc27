use Rattle.std.proofs.Common.{◌≡◌, ◌++◌, take, drop, map}
use Rattle.std.specs.Prelude.{string_bytes}
use Rattle.glslpp_parts.specs.LongOptions.{each_option}
use Rattle.glslpp_parts.specs.Standards.{lengthened}
use Rattle.glslpp_parts.proofs.standard.lengthen_standards.Given as goal

-- with the words that are left, all are lengthened
abbrev pub invariant-loop-word : goal.invariant-loop-word
invariant-loop-word l =
    each_option lengthened (map string_bytes l.fn.words)
    ≡ map string_bytes (take l.word-index l.words) ++ each_option lengthened (map string_bytes (drop l.word-index l.words))
