use Rattle.pp_macros.specs.inner.Left.{regions}
use Rattle.pp_macros.specs.inner.Reach.{total}
use Rattle.pp_macros.specs.inner.Reader.{ReadsFlat, of_source}
use Rattle.pp_macros.proofs.taking.ExpanderLemmas.{idle}
use Rattle.pp_directives.specs.inner.PlainText.{IsInText}
use Rattle.pp_directives.proofs.source_reader.DirectiveProcessorMeLexer.push_flat.Given as goal

-- the tokens so far, of which none is a parenthesis, and the text is still live
abbrev pub invariant-words : goal.invariant-words
invariant-words l = record {
  flat : ReadsFlat (of_source l.fn.self) l.fn.tokens.items (of_source l.self) l.tokens.items;
  in_text : IsInText l.self;
}

abbrev pub decreases-words : goal.decreases-words
decreases-words l = total (regions idle (of_source l.self))
