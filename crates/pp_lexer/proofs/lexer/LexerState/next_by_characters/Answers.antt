use Rattle.std.proofs.Common.{sym, ◌∙◌, subst}
use Rattle.pp_lexer.specs.inner.Passing.{IsPlaced}
use Rattle.pp_lexer.proofs.items.LexLemmas.{lexed_before, lexed_front, lexed_refused, lexed_end, placed_before, placed_refused, placed_front, placed_end}
use Rattle.pp_lexer.proofs.lexer.LexerState.next_by_characters.Goals as goal

pub returns-in_default : goal.returns-in_default
returns-in_default c =
    let f = c.skip_blanks.new.self.flags in
    let r = c.skip_blanks.new.self.inner in
    let by = c.args.rules in
    let q = c.peek_spot.new.self in
    let same = c.skip_blanks.ensures.same in
    let none = sym c.in_default.is ∙ c.peek_spot.ensures.value in
    record {
      lexed = lexed_before by _ _ _ _ _ _ _ (same.items by) (same.at_end by) same.over
          (lexed_end by f c.final_newline.new.flags r q c.last_consumed-last.result _ none c.peek_spot.ensures.same c.last_consumed-last.ensures
          c.final_newline.ensures.value c.final_newline.ensures.rest c.final_newline.ensures.comments);
      placed = placed_before by _ _ _ _ _ _ _ _ _ (same.places by) same.place
          (subst (λ place. IsPlaced by f r c.skip_blanks.new.self.place c.final_newline.new.flags q place) (sym c.place_at_end-self.ensures)
          (placed_end by f c.final_newline.new.flags r q c.last_consumed-last.result c.skip_blanks.new.self.place none c.peek_spot.ensures.same
          c.last_consumed-last.ensures c.final_newline.ensures.places));
    }

pub returns-in_err-value : goal.returns-in_err-value
returns-in_err-value c = record {
  lexed = lexed_before c.args.rules _ _ _ _ _ _ _ (c.skip_blanks.ensures.same.items c.args.rules) (c.skip_blanks.ensures.same.at_end c.args.rules) c.skip_blanks.ensures.same.over
      (lexed_refused c.args.rules c.skip_blanks.new.self.flags c.skip_blanks.new.self.inner c.peek_spot.new.self c.parse_word.new.inner c.in-Some.first _ _
      c.in-Some.ensures.value c.skip_blanks.ensures.stops c.peek_spot.ensures.same c.from_residual.ensures.0 c.in_err-value.ensures.value);
  placed = placed_refused _ _ c.from_residual.ensures.0;
}

pub returns : goal.returns
returns c =
    let f = c.skip_blanks.new.self.flags in
    let r = c.skip_blanks.new.self.inner in
    let by = c.args.rules in
    let same = c.skip_blanks.ensures.same in
    record {
      lexed = lexed_before by _ _ _ _ _ _ _ (same.items by) (same.at_end by) same.over
          (lexed_front by f r c.peek_spot.new.self c.parse_word.new.inner c.in-Some.first c.last_consumed-last-2.result c.in_ok-value.value _ _
          c.in-Some.ensures.value c.skip_blanks.ensures.stops c.peek_spot.ensures.same c.in_ok-value.ensures.value c.in_ok-value.ensures.state
          c.last_consumed-last-2.ensures c.item_of.ensures c.ends_line-at_line_end.ensures);
      placed = placed_before by _ _ _ _ _ _ _ _ _ (same.places by) same.place
          (placed_front by f r c.peek_spot.new.self c.parse_word.new.inner c.in-Some.first c.last_consumed-last-2.result c.in_ok-value.value _
          c.skip_blanks.new.self.place c.in-Some.ensures.value c.skip_blanks.ensures.stops c.peek_spot.ensures.same c.in_ok-value.ensures.value
          c.in_ok-value.ensures.state c.last_consumed-last-2.ensures c.ends_line-at_line_end.ensures);
    }
