use Rattle.std.proofs.Common.{◌∙◌, sym, subst}
use Rattle.std.proofs.lemmas.List.Elements.{All-map}
use Rattle.pp_model.specs.Painting.{read_in}
use Rattle.pp_model.specs.declared.read.Read.{Read}
use Rattle.pp_macros.specs.Held.{HoldsOrdinary}
use Rattle.pp_macros.specs.inner.Reading.{AllReadOrdinary}
use Rattle.pp_directives.proofs.line_words.line_words.Goals as goal

pub line-lexer-requires : goal.line-lexer-requires
line-lexer-requires c = subst AllReadOrdinary (sym (c.deref_mut.ensures.value ∙ c.in_ok-reads.ensures))
    (All-map (λ (read : Read). HoldsOrdinary read.token.value) (read_in c.args.tokens.now.directive.text) c.args.tokens.now.tokens c.requires)
