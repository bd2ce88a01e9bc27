use Rattle.std.proofs.Common.{refl}
use Rattle.pp_lexer.specs.Spots.{spots_of}
use Rattle.pp_directives.proofs.EndedLemmas.{start_ended}
use Rattle.pp_directives.proofs.ErrorsShownLemmas.{start_shown}
use Rattle.pp_directives.proofs.UnreportedLemmas.{start_has_places}
use Rattle.pp_directives.proofs.directives.DirectiveProcessor.include.Goals as goal

pub replace-lexer-requires-clause-readable : goal.replace-lexer-requires-clause-readable
replace-lexer-requires-clause-readable c =
    let p = c.self.inside in
    let spots = spots_of c.args.text.now in
    rw c.with_rules.ensures (record { unspent = refl; ended = start_ended p.rules spots; shown = start_shown p.rules spots; placed = start_has_places p.rules spots })
