use Rattle.pp_model.specs.LineValues.{symbol_of}
use Rattle.pp_model.proofs.ListLemmas.{mapped_more}
use Rattle.pp_model.proofs.line_value.symbols_of.Goals as goal

pub loop-word-preserved : goal.loop-word-preserved
loop-word-preserved c =
    mapped_more symbol_of _ _ c.word-item.result c.symbol_of.result _ _ c.loop-word-test.true c.word-item.is c.symbol_of.ensures
    c.loop-word.invariant c.in_ok-push.ensures.items
