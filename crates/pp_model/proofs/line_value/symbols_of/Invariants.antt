use Rattle.std.proofs.Common.{◌≡◌, map, take}
use Rattle.pp_model.specs.LineValues.{symbol_of}
use Rattle.pp_model.proofs.line_value.symbols_of.Given as goal

abbrev pub invariant-loop-word : goal.invariant-loop-word
invariant-loop-word l = l.symbols.items ≡ map symbol_of (take l.word-index l.words)
