use Rattle.std.proofs.Common.{◌∷◌, ◌++◌, [], ◌∙◌, sym, ap, refl, rules}
use Rattle.std.specs.Prelude.{FitsSigned}
use Rattle.std.specs.Int.{w64}
use Rattle.std.proofs.lemmas.Int.{to_z-of_z}
use Rattle.pp_macros.specs.inner.Source.{SuspendedText}
use Rattle.pp_directives.proofs.TextEndLemmas.{resumes}
use Rattle.pp_directives.proofs.directives.DirectiveProcessor.leave.Goals as goal

pub returns : goal.returns
returns c =
    let p = c.self.inside in
    let inner = c.outer.inside in
    let fits : FitsSigned w64 inner.line_offset = search rules in
    let outer : SuspendedText = record {
      text = inner.text;
      rest = inner.lexer.rest;
      places = inner.lexer.places;
      over = inner.lexer.over;
      blocks = inner.blocks;
      line_offset = inner.line_offset;
      has_text = inner.has_text;
      has_directive = inner.has_directive;
      dead_for_good = inner.dead_for_good;
    } in
    let rest = c.pop.new.self.items in
    rw (← c.self.view_is, to_z-of_z w64 inner.line_offset fits)
    (resumes p.rules p.text p.earlier_text p.earlier_directive p.around.items rest outer p.definitions p.blocks p.line_offset p.has_text p.has_directive
    p.dead_for_good p.contents p.lexer c.replace.new.self inner.lexer (sym c.is_spent.ensures ∙ c.if-is_spent.false) c.outer.invariant refl refl refl
    c.replace.ensures.after (c.in-Some.ensures.items ∙ ap (λ (t : SuspendedText). rest ++ t ∷ []) (sym c.outer.view_is)))
