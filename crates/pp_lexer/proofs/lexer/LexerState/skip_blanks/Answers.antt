use Rattle.std.proofs.Common.{sym, ◌∙◌}
use Rattle.pp_lexer.specs.declared.rules.Rules.{Rules}
use Rattle.pp_lexer.proofs.items.PassingLemmas.{blank_passed}
use Rattle.pp_lexer.proofs.lexer.LexerState.skip_blanks.Goals as goal

pub blanks-preserved : goal.blanks-preserved
blanks-preserved c =
    let b = λ (rules : Rules). blank_passed rules c.blanks.self.flags c.blanks.self.inner c.peek_char.new.self c.next_char.new.self c.in-Some.c c.in-Some.ensures.value
    (sym c.if-not-is_blank_char.false ∙ c.is_blank_char.ensures) c.peek_char.ensures.same c.next_char.ensures.state in
    record {
      items = λ rules. (b rules).same ∙ c.blanks.invariant.items rules;
      at_end = λ rules. (b rules).at_end ∙ c.blanks.invariant.at_end rules;
      places = λ rules. (b rules).places ∙ c.blanks.invariant.places rules;
      over = c.blanks.invariant.over;
      place = c.blanks.invariant.place;
    }
