use Rattle.std.proofs.Common.{◌≡◌, ◌++◌, take, drop, map}
use Rattle.std.specs.Prelude.{string_bytes}
use Rattle.glslpp_parts.specs.LongOptions.{by_long_name, each_option}
use Rattle.glslpp_parts.proofs.long_options.lengthen_options.Given as goal

-- with the words that are left, all are lengthened
abbrev pub invariant-loop-word : goal.invariant-loop-word
invariant-loop-word l =
    each_option by_long_name (map string_bytes l.fn.words)
    ≡ map string_bytes (take l.word-index l.words) ++ each_option by_long_name (map string_bytes (drop l.word-index l.words))
