use Rattle.pp_macros.specs.inner.Left.{work_of}
use Rattle.pp_macros.specs.inner.Reader.{of_list}
use Rattle.pp_directives.proofs.LineWordsLemmas.{WordsOn}
use Rattle.pp_directives.specs.inner.ReadingWords.{rest_of}
use Rattle.pp_directives.proofs.line_words.WordReader.read_words.Given as goal

abbrev pub invariant-words : goal.invariant-words
invariant-words l = WordsOn l.self.kind l.self.directive l.self.levels l.self.scope.numbering l.self.scope.definitions.now l.initial.line.expander.here (rest_of l.initial.line)
    l.words.items l.line.expander.here (rest_of l.line)

abbrev pub decreases-words : goal.decreases-words
decreases-words l = work_of l.self.levels l.line.expander.here (of_list (rest_of l.line))
