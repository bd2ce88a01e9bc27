use Rattle.pp_directives.proofs.source_reader.DirectiveProcessorMeLexer.step.Goals as goal

pub returns-in-Ok-clause-reads : goal.returns-in-Ok-clause-reads
returns-in-Ok-clause-reads c = rw (c.of_text.ensures, c.text-text.ensures) c.in-Ok.ensures.reads
