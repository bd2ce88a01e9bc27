use Rattle.std.proofs.Common.{[], string_bytes}
use Rattle.uses.specs.Variants.{none}
use Rattle.uses.proofs.OneVariant.{variants_more}
use Rattle.uses.proofs.variants.build_variants.Goals as goal

pub loop-content-init : goal.loop-content-init
loop-content-init c = rw c.new-variants.ensures.bytes none

pub loop-content-preserved : goal.loop-content-preserved
loop-content-preserved c = variants_more c.args.source.now c.args.contents.now c.loop-content.content-index (record { ref_ptr = (0, 0); now = [] })
    (string_bytes c.loop-content.variants) _ (string_bytes c.in_ok-variant.variant) c.loop-content-test.true c.loop-content.invariant
    c.in_ok-variant.ensures c.in_ok-write.ensures.bytes
