-- The word of plain text that a lexer comes to next.
use Rattle.std.proofs.Common.{◌≡◌, ℕ, suc, ◌+◌, ◌-◌, Bool, false, ◌||◌, List, [], ◌∷◌, length, take, drop, get_or, refl, sym, ◌∙◌, ap, subst, arith, inl, inr, Some, Ok, Bor}
use Rattle.std.proofs.lemmas.List.{length-take-le, length-drop, get_or-take}
use Rattle.std.specs.Str.{IsAscii}
use Rattle.pp_lexer.specs.declared.rules.Rules.{Rules}
use Rattle.pp_lexer.specs.declared.token.Location.{Location}
use Rattle.pp_lexer.specs.declared.lexer.Flags.{Flags}
use Rattle.pp_lexer.specs.declared.lexer.plain.Form.{Form}
use Rattle.pp_lexer.specs.declared.lexer.plain_item.PlainItem.{PlainItem}
use Rattle.pp_lexer.specs.Items.{Lexeme}
use Rattle.pp_lexer.specs.Kept.{flags_after, reading_after, CanPass}
use Rattle.pp_lexer.specs.Lexed.{Seen, first_item, after_first_item, comments_before, first_place, places_after_first}
use Rattle.pp_lexer.specs.PlainItems.{value_of, token_of, IsNextWord}
use Rattle.pp_lexer.specs.Reading.{Reading}
use Rattle.pp_lexer.specs.inner.AfterSpaces.{after_spaces, IsAfterSpaces}
use Rattle.pp_lexer.specs.inner.Fronts.{spots_from}
use Rattle.pp_lexer.specs.inner.Passing.{lexed, seen_of, comments_at_end, places_left, IsPlaced, IsLexed, IsLexTaken}
use Rattle.pp_lexer.specs.inner.PlainWords.{IsPlainWord}
use Rattle.pp_lexer.proofs.items.LexLemmas.{lexed_before, placed_before}
use Rattle.pp_lexer.proofs.items.PlainLexLemmas.{lexed_plain, placed_plain}

-- what is given was taken
pub taken : (rules : Rules) (f g : Flags) (r q : Reading) (item : Lexeme) → IsLexed rules f r (Ok (Some item)) g q
    → IsLexTaken rules f r g q (Ok (Some item))
taken rules f g r q item (inl h) = let refused = h.value in cc
taken rules f g r q item (inr h) = h

item_first : (ss rest : List Seen) (at_end had : Bool) (item : Lexeme) → Some item ≡ first_item ss → rest ≡ after_first_item ss
    → had ≡ comments_before ss at_end → ss ≡ record { item = item; had_comments = had } ∷ rest
item_first ss rest at_end had item h k e = grind arith

-- a place that is noted whatever was noted before it
place_first : (ps rest : List Location) (new : Location) → ((old : Location) → new ≡ first_place ps old) → rest ≡ places_after_first ps → ps ≡ new ∷ rest
place_first [] rest new h r =
    let k : new.line ≡ suc new.line = ap (λ l. l.line) (h (record new { line = suc new.line })) in
    absurd (omega (arith, k))
place_first (p ∷ ps) rest new h r = let k : new ≡ p = h new in rw (r, k) refl

module _ (f : Flags) (r : Reading) (place : Location) (line at n : ℕ) (text : List ℕ) (spaced : Bool) (form : Form) (spelling rest : Bor (List ℕ))
    (after : IsAfterSpaces line at text spaced r) (w : IsPlainWord text (value_of form (take n text)) n)
    (spelled : spelling.now ≡ take n text) (left : rest.now ≡ drop n text) where
  abbrev pub word : PlainItem
  word = record {
    form = form;
    spelling = spelling;
    location = record { start = at; end = at + n; line = line };
    leading_whitespace = f.leading_whitespace || spaced;
    start_of_line = f.start_of_line;
    rest = rest;
  }

  sized : length spelling.now ≡ n
  sized = ap length spelled ∙ length-take-le n text w.within

  last_byte : get_or spelling.now (length spelling.now - 1) 0 ≡ get_or text (n - 1) 0
  last_byte = grind (arith, sized, get_or-take)

  there : reading_after word ≡ record {
    rest = spots_from line (at + n) (drop n text);
    last = record { c = get_or text (n - 1) 0; line = line; begin = at + n - 1; end = at + n };
  }
  there = grind (arith, last_byte)

  plain : IsPlainWord text (value_of form spelling.now) n
  plain = subst (λ x. IsPlainWord text (value_of form x) n) (sym spelled) w

  module _ (rules : Rules) where
    given : IsLexed rules f r (Ok (Some (Ok (token_of word)))) (flags_after f.had_comments) (reading_after word)
    given =
        let g = after_spaces spaced f in
        lexed_before rules f g (flags_after f.had_comments) r after.there (reading_after word) _ (after.seen rules f) (after.at_end rules f) refl
        (lexed_plain rules g after.there line at text after.left.rest_is (value_of form spelling.now) n plain (reading_after word) there)

    placed : (old : Location) → IsPlaced rules f r old (flags_after f.had_comments) (reading_after word) word.location
    placed old =
        let g = after_spaces spaced f in
        placed_before rules f g (flags_after f.had_comments) r after.there (reading_after word) old old _ (after.places rules f) refl
        (placed_plain rules g after.there line at text after.left.rest_is (value_of form spelling.now) n plain (reading_after word) old there)

    given_first : Some (Ok (token_of word)) ≡ first_item (seen_of rules f r)
    given_first = grind (arith, given)

    pub next_word : IsNextWord (lexed rules f r place false) word
    next_word = record { unspent = refl; is = sym given_first; ascii = subst IsAscii (sym spelled) w.ascii }

    pub can_pass : CanPass (lexed rules f r place false) word
    can_pass =
        let t = taken rules f (flags_after f.had_comments) r (reading_after word) (Ok (token_of word)) given in
        let room = after.left.room in
        let lines = after.left.lines in
        let within = w.within in
        record {
          items = item_first (seen_of rules f r) _ (comments_at_end rules f r) f.had_comments (Ok (token_of word)) given_first t.rest t.comments;
          places = place_first (places_left rules f r) _ word.location (λ old. (placed old).place) (placed place).rest;
          at_end = sym t.at_end;
          some = let some = w.some in omega (arith, sized, some);
          sized = ap (λ k. at + k) (sym sized);
          room = omega (arith, ap length left, length-drop n text, room, within);
          lines = omega (arith, lines);
        }
