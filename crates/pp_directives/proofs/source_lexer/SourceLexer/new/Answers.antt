use Rattle.pp_lexer.specs.Spots.{spots_of}
use Rattle.pp_directives.proofs.EndedLemmas.{start_ended}
use Rattle.pp_directives.proofs.ErrorsShownLemmas.{start_shown}
use Rattle.pp_directives.proofs.UnreportedLemmas.{start_has_places}
use Rattle.pp_directives.proofs.source_lexer.SourceLexer.new.Goals as goal

pub invariant_of-result : goal.invariant_of-result
invariant_of-result c = rw c.with_rules.ensures (λ e. (start_ended c.args.rules (spots_of c.args.input.now), start_shown c.args.rules (spots_of c.args.input.now), start_has_places c.args.rules (spots_of c.args.input.now)))
