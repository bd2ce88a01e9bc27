use Rattle.pp_macros.specs.inner.Left.{work_of}
use Rattle.pp_macros.specs.inner.Reader.{of_list}
use Rattle.pp_directives.proofs.LineReadLemmas.{ItemsOn}
use Rattle.pp_directives.specs.inner.ReadingWords.{rest_of}
use Rattle.pp_directives.proofs.line_words.WordReader.next_item.Given as goal

abbrev pub invariant-items : goal.invariant-items
invariant-items l = ItemsOn l.self.levels l.self.scope.numbering l.self.scope.definitions.now l.initial.line.expander.here (rest_of l.initial.line) l.line.expander.here (rest_of l.line)

abbrev pub decreases-items : goal.decreases-items
decreases-items l = work_of l.self.levels l.line.expander.here (of_list (rest_of l.line))
