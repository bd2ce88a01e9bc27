use Rattle.std.proofs.Common.{map, take, string_bytes}
use Rattle.uses.specs.Variants.{AreVariants}
use Rattle.uses.proofs.variants.build_variants.Given as goal

abbrev pub invariant-loop-content : goal.invariant-loop-content
invariant-loop-content l = AreVariants l.source (map (λ content. content.now) (take l.content-index l.contents)) (string_bytes l.variants)
