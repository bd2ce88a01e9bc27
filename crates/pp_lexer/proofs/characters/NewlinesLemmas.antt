-- Newlines at the front of a plain text.
use Rattle.std.proofs.Common.{◌≡◌, ℕ, ◌+◌, ◌<◌, List, [], ◌∷◌, length, drop, get_or, true, false, ◌==◌, refl, sym, ◌∙◌, ap, subst, arith, inl, Some, Ok}
use Rattle.std.specs.Str.{chars, IsUtf8}
use Rattle.std.proofs.lemmas.Str.{IsCharBoundary-after_ascii, chars-nil}
use Rattle.pp_lexer.specs.declared.rules.Rules.{Rules}
use Rattle.pp_lexer.specs.declared.token.Location.{Location}
use Rattle.pp_lexer.specs.declared.lexer.char_iterator.Spot.{Spot}
use Rattle.pp_lexer.specs.declared.lexer.item.TokenValue.TheVariants.{NewLine}
use Rattle.pp_lexer.specs.declared.lexer.Flags.{Flags}
use Rattle.pp_lexer.specs.Comments.{replaced}
use Rattle.pp_lexer.specs.Continuations.{continued}
use Rattle.pp_lexer.specs.Cursor.{Placed}
use Rattle.pp_lexer.specs.inner.Fronts.{spots_from}
use Rattle.pp_lexer.specs.Lines.{pieces}
use Rattle.pp_lexer.specs.inner.Lines.{newline_piece}
use Rattle.pp_lexer.specs.inner.Passing.{IsPlaced, IsLexed}
use Rattle.pp_lexer.specs.inner.PlainWords.{IsPlainNewline}
use Rattle.pp_lexer.specs.inner.Readers.{placed_from}
use Rattle.pp_lexer.specs.Reading.{Reading, letters, spots, first_of, first_char, advanced_of, advanced}
use Rattle.pp_lexer.specs.Words.{word_at}
use Rattle.pp_lexer.proofs.characters.AdvancedLemmas.{advanced_zero}
use Rattle.pp_lexer.proofs.characters.CommentsLemmas.{replaced-plain, no_slash}
use Rattle.pp_lexer.proofs.characters.ContinuationsLemmas.{continued-plain}
use Rattle.pp_lexer.proofs.characters.FrontsLemmas.{ascii_chars, utf8_after}
use Rattle.pp_lexer.proofs.characters.PlainFrontsLemmas.{drop_none}
use Rattle.pp_lexer.proofs.items.LexLemmas.{lexed_front, placed_front}
use Rattle.pp_lexer.proofs.items.PlainLexLemmas.{no_blank_first}
use Rattle.pp_lexer.proofs.words.WordAtLemmas.{newline_first}

pub pieces_newline : (text : List ℕ) → IsUtf8 text → (0 < length text → (get_or text 0 0 < 128) × ((get_or text 0 0 == 13) ≡ false))
    → pieces (10 ∷ chars text) ≡ newline_piece 1 ∷ pieces (chars text)
pieces_newline [] u h = rw chars-nil refl
pieces_newline (b ∷ text) u h = grind (arith, ascii_chars)

-- the newline, and what stands on the next line
pub newline_at : (line at : ℕ) (text : List ℕ) → IsUtf8 (10 ∷ text) → (0 < length text → (get_or text 0 0 < 128) × ((get_or text 0 0 == 13) ≡ false))
    → spots_from line at (10 ∷ text) ≡ record { c = 10; line = line; begin = at; end = at + 1 } ∷ spots_from (line + 1) (at + 1) text
unfolding spots_from
newline_at line at text u h =
    let here : Placed = record { char = 10; line = line; end = at + 1 } in
    let more = placed_from (line + 1) (at + 1) (pieces (chars text)) in
    let small : 10 < 128 = omega arith in
    let total : at + length (10 ∷ text) ≡ at + 1 + length text = omega arith in
    ap (λ cs. spots at (replaced (at + length (10 ∷ text)) (continued (placed_from line at (pieces cs))))) (ascii_chars 10 text small u)
    ∙ ap (λ ps. spots at (replaced (at + length (10 ∷ text)) (continued (placed_from line at ps)))) (pieces_newline text (utf8_after 10 text small u) h)
    ∙ ap (λ ps. spots at (replaced (at + length (10 ∷ text)) ps)) (continued-plain here more refl)
    ∙ ap (spots at) (replaced-plain (at + length (10 ∷ text)) here (continued more) (no_slash here (continued more) refl))
    ∙ ap (λ n. spots at (here ∷ replaced n (continued more))) total

-- a line feed with an ASCII character after it that is no carriage return, or with the end
pub line_feed : (text : List ℕ) → IsUtf8 text → 0 < length text → get_or text 0 0 ≡ 10
    → (1 < length text → (get_or text 1 0 < 128) × ((get_or text 1 0 == 13) ≡ false)) → IsPlainNewline text 1
line_feed text h k e l = grind (arith, newline_at)

-- the pair, and what stands on the next line
pair_at : (line at : ℕ) (text : List ℕ) → IsUtf8 (13 ∷ 10 ∷ text)
    → spots_from line at (13 ∷ 10 ∷ text) ≡ record { c = 10; line = line; begin = at; end = at + 1 } ∷ spots_from (line + 1) (at + 2) text
unfolding spots_from
pair_at line at text u =
    let here : Placed = record { char = 10; line = line; end = at + 2 } in
    let more = placed_from (line + 1) (at + 2) (pieces (chars text)) in
    let small : 13 < 128 = omega arith in
    let low : 10 < 128 = omega arith in
    let total : at + length (13 ∷ 10 ∷ text) ≡ at + 2 + length text = omega arith in
    ap (λ cs. spots at (replaced (at + length (13 ∷ 10 ∷ text)) (continued (placed_from line at (pieces cs)))))
    (ascii_chars 13 (10 ∷ text) small u ∙ ap (λ cs. 13 ∷ cs) (ascii_chars 10 text low (utf8_after 13 (10 ∷ text) small u)))
    ∙ ap (λ ps. spots at (replaced (at + length (13 ∷ 10 ∷ text)) ps)) (continued-plain here more refl)
    ∙ ap (spots at) (replaced-plain (at + length (13 ∷ 10 ∷ text)) here (continued more) (no_slash here (continued more) refl))
    ∙ ap (λ n. spots at (here ∷ replaced n (continued more))) total

-- a carriage return and a line feed
pub return_feed : (text : List ℕ) → IsUtf8 text → 1 < length text → get_or text 0 0 ≡ 13 → get_or text 1 0 ≡ 10 → IsPlainNewline text 2
return_feed [] u some e f = absurd (omega arith)
return_feed (b ∷ []) u some e f = absurd (omega arith)
return_feed (b ∷ d ∷ text) u some e f = record {
  some = omega arith;
  within = omega arith;
  cut = IsCharBoundary-after_ascii (b ∷ d ∷ text) 1 u some (omega (arith, f));
  front = λ line at.
      let none : drop 2 (b ∷ d ∷ text) ≡ text = drop_none text in
      let same : b ∷ d ∷ text ≡ 13 ∷ 10 ∷ text = ap (λ x. x ∷ d ∷ text) e ∙ ap (λ x. 13 ∷ x ∷ text) f in
      ap (spots_from line at) same ∙ pair_at line at text (subst IsUtf8 same u)
      ∙ ap (λ t. record { c = 10; line = line; begin = at; end = at + 1 } ∷ spots_from (line + 1) (at + 2) t) (sym none);
}

-- a newline is taken
module _ (rules : Rules) (f : Flags) (r q : Reading) (line at n : ℕ) (text rest : List ℕ) (e : r.rest ≡ spots_from line at text) (w : IsPlainNewline text n)
    (g : rest ≡ drop n text)
    (k : q ≡ record { rest = spots_from (line + 1) (at + n) rest; last = record { c = 10; line = line; begin = at; end = at + 1 } }) where
  first : Spot
  first = record { c = 10; line = line; begin = at; end = at + 1 }

  front : r.rest ≡ first ∷ spots_from (line + 1) (at + n) rest
  unfolding first
  front = e ∙ w.front line at ∙ ap (λ t. first ∷ spots_from (line + 1) (at + n) t) (sym g)

  here : Some first ≡ first_char r
  here = sym (ap first_of front)

  word : word_at rules (letters r.rest) ≡ record { value = Ok NewLine; taken = 1 }
  unfolding first
  word = ap (λ ss. word_at rules (letters ss)) front ∙ newline_first rules (10 ∷ letters (spots_from (line + 1) (at + n) rest)) refl

  there : q ≡ advanced (word_at rules (letters r.rest)).taken r
  unfolding first
  there = k ∙ sym (advanced_zero (spots_from (line + 1) (at + n) rest) first) ∙ ap (λ ss. advanced_of 1 ss r.last) (sym front)
      ∙ ap (λ o. advanced o.taken r) (sym word)

  -- its place is noted
  pub placed_newline : (old : Location)
      → IsPlaced rules f r old (record { leading_whitespace = true; start_of_line = true; had_comments = f.had_comments }) q
      (record { start = at; end = at + 1; line = line })
  unfolding first
  placed_newline old =
      placed_front rules f r r q first first (Ok NewLine) true old here (no_blank_first first (first_char r) here refl) refl
      (inl (ap (λ o. Ok o.value) (sym word))) there (ap (λ x. x.last) (sym k)) refl

  pub lexed_newline : IsLexed rules f r (Ok (Some (Ok (record {
    value = NewLine;
    location = record { start = at; end = at + 1; line = line };
    leading_whitespace = f.leading_whitespace;
    start_of_line = f.start_of_line;
  }))))
      (record { leading_whitespace = true; start_of_line = true; had_comments = f.had_comments }) q
  unfolding first
  lexed_newline =
      lexed_front rules f r r q first first (Ok NewLine) _ true here (no_blank_first first (first_char r) here refl) refl
      (inl (ap (λ o. Ok o.value) (sym word))) there (ap (λ x. x.last) (sym k)) refl refl
