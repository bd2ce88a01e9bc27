use Rattle.std.proofs.Common.{length}
use Rattle.pp_directives.proofs.PlainConditionLemmas.{SymbolsOn}
use Rattle.pp_directives.proofs.plain_condition.plain_symbols.Given as goal

abbrev pub invariant-words : goal.invariant-words
invariant-words l = SymbolsOn l.fn.line l.scope.numbering l.scope.definitions.now l.symbols.items l.rest

abbrev pub decreases-words : goal.decreases-words
decreases-words l = length l.rest
