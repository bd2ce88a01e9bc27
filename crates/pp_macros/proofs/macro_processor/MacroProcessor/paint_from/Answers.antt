use Rattle.std.proofs.Common.{◌∙◌, add-one, ap, arith, refl, sym}
use Rattle.pp_model.specs.Painting.{painted_among}
use Rattle.pp_macros.specs.inner.Nesting.{open_names}
use Rattle.pp_macros.proofs.taking.PaintedRunLemmas.{painted_more, painted_past}
use Rattle.pp_macros.proofs.macro_processor.MacroProcessor.paint_from.Goals as goal

pub loop-at-init : goal.loop-at-init
loop-at-init g c = refl

pub loop-at-preserved : goal.loop-at-preserved
loop-at-preserved g c =
    rw add-one (painted_more (open_names c.args.self.now) c.loop-at.at c.loop-at.tokens c.index-tokens-at.result c.paint.new.read (omega arith) c.index-tokens-at.is
    (c.paint.ensures ∙ ap (painted_among (open_names c.args.self.now)) (sym c.index-tokens-at.is)) ∙ c.loop-at.invariant)

pub returns : goal.returns
returns g c = sym (painted_past (open_names c.args.self.now) c.loop-at.at c.loop-at.tokens (omega arith)) ∙ c.loop-at.invariant
