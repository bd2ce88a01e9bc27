-- What a lexer gives at a token, at an error and at the end, after the blanks.
use Rattle.std.proofs.Common.{◌≡◌, List, ◌∷◌, Bool, true, false, refl, sym, ◌∙◌, ap, inl, inr, IsTrue, Option, Some, None, Result, OnOk, Ok, Err, IsErr, MatchOption, subst, arith}
use Rattle.std.specs.Bool.{⊤}
use Rattle.std.proofs.lemmas.Bool.{false≢true}
use Rattle.std.specs.declared.alloc.AllocError.{AllocError}
use Rattle.pp_lexer.specs.declared.rules.Rules.{Rules}
use Rattle.pp_lexer.specs.declared.token.Location.{Location}
use Rattle.pp_lexer.specs.declared.token.PreprocessorError.{PreprocessorError}
use Rattle.pp_lexer.specs.declared.lexer.item.TokenValue.{TokenValue}
use Rattle.pp_lexer.specs.declared.lexer.char_iterator.Spot.{Spot}
use Rattle.pp_lexer.specs.declared.lexer.Flags.{Flags}
use Rattle.pp_lexer.specs.Reading.{Reading, letters, first_of, first_char, advanced}
use Rattle.pp_lexer.specs.Words.{word_at}
use Rattle.pp_lexer.specs.Outcome.{Answer, takes_memory, IsGiven}
use Rattle.pp_lexer.specs.Segments.{item}
use Rattle.pp_lexer.specs.Words.{is_blank}
use Rattle.pp_lexer.specs.inner.Passing.{is_newline_result, passed, lexeme_seen, newline_seen, seen_of, comments_at_end, newline_places, places_left, IsPlaced, IsLexRefused, IsLexed}
use Rattle.pp_lexer.specs.Items.{Lexeme}
use Rattle.pp_lexer.specs.Lexed.{first_item, after_first_item, comments_before, lexeme_takes_memory, first_takes_memory, is_newline_lexeme, over_after_first, first_place, places_after_first}
use Rattle.pp_lexer.proofs.words.WordAtLemmas.{word_at-some}
use Rattle.pp_lexer.proofs.items.SegmentsLemmas.{segments_none, advanced-rest}
use Rattle.pp_lexer.proofs.items.LineStartLemmas.{none_within}
use Rattle.pp_lexer.proofs.items.PassingLemmas.{front_first, last_same}

-- what was skipped before makes no difference
pub lexed_before : (rules : Rules) (f g h : Flags) (r p q : Reading) (answer : Result (Option Lexeme) AllocError)
    → seen_of rules g p ≡ seen_of rules f r
    → comments_at_end rules g p ≡ comments_at_end rules f r → g.start_of_line ≡ f.start_of_line → IsLexed rules g p answer h q → IsLexed rules f r answer h q
lexed_before rules f g h r p q answer same at_end over (inl x) = inl (record {
  value = x.value;
  needed = subst (λ xs. IsTrue (first_takes_memory xs)) same x.needed;
  comments = x.comments ∙ ap (λ xs. comments_before xs (comments_at_end rules g p)) same ∙ ap (comments_before (seen_of rules f r)) at_end;
})
lexed_before rules f g h r p q answer same at_end over (inr x) = inr (record {
  value = x.value ∙ ap (λ xs. Ok (first_item xs)) same;
  rest = x.rest ∙ ap after_first_item same;
  comments = x.comments ∙ ap (λ xs. comments_before xs (comments_at_end rules g p)) same ∙ ap (comments_before (seen_of rules f r)) at_end;
  at_end = x.at_end ∙ at_end;
  over = x.over ∙ ap (λ xs. over_after_first xs g.start_of_line) same ∙ ap (over_after_first (seen_of rules f r)) over;
})

-- the items from a token or an error on
module _ (rules : Rules) (f : Flags) (last s : Spot) (ss : List Spot) (plain : is_blank s.c ≡ false) where
  value : Result TokenValue PreprocessorError
  value = (word_at rules (letters (s ∷ ss))).value

  after : Reading
  after = advanced (word_at rules (letters (s ∷ ss))).taken (record { rest = s ∷ ss; last = last })

  seen_front : seen_of rules f (record { rest = s ∷ ss; last = last }) ≡ record
      { item = lexeme_seen f s after.last value; had_comments = f.had_comments } ∷ seen_of rules (passed f (item value)) after
  unfolding value after
  seen_front = grind (arith, last_same, word_at-some, advanced-rest, front_first)

  places_front : places_left rules f (record { rest = s ∷ ss; last = last }) ≡ record
      { start = s.begin; end = after.last.end; line = s.line } ∷ places_left rules (passed f (item value)) after
  unfolding value after
  places_front = grind (arith, last_same, word_at-some, advanced-rest, front_first)

  at_end_front : comments_at_end rules f (record { rest = s ∷ ss; last = last }) ≡ comments_at_end rules (passed f (item value)) after
  unfolding value after
  at_end_front = grind (arith, advanced-rest, front_first)

-- an item ends its line as its value says
newline_value : (f : Flags) (first last : Spot) (r : Answer) → is_newline_lexeme (lexeme_seen f first last r) ≡ is_newline_result r
newline_value f first last (Ok v) = refl
newline_value f first last (Err e) = refl

front_at : (rules : Rules) (f : Flags) (ss : List Spot) (last : Spot) (q : Reading) (first : Spot) (r : Answer) → Some first ≡ first_of ss
    → MatchOption (first_of ss) ⊤ (λ s. is_blank s.c ≡ false)
    → r ≡ (word_at rules (letters ss)).value → q ≡ advanced (word_at rules (letters ss)).taken (record { rest = ss; last = last })
    → IsLexed rules f (record { rest = ss; last = last }) (Ok (Some (lexeme_seen f first q.last r))) (passed f (item r)) q
unfolding value after
front_at rules f ss last q first r h k e l = grind (arith, seen_front, at_end_front, newline_value)

lexeme_takes : (f : Flags) (first last : Spot) (r : Answer) → lexeme_takes_memory (lexeme_seen f first last r) ≡ takes_memory r
lexeme_takes f first last (Ok v) = refl
lexeme_takes f first last (Err e) = refl

refused_at : (rules : Rules) (f : Flags) (ss : List Spot) (last first : Spot) (answer : Result (Option Lexeme) AllocError) → Some first ≡ first_of ss
    → MatchOption (first_of ss) ⊤ (λ s. is_blank s.c ≡ false)
    → IsErr answer → takes_memory (word_at rules (letters ss)).value ≡ true → IsLexRefused rules f (record { rest = ss; last = last }) f answer
unfolding value after
refused_at rules f ss last first answer h k e l = grind (arith, seen_front, lexeme_takes)

given_value : (r answer : Answer) → IsGiven (Ok r) answer → r ≡ answer
given_value r answer (inl h) = cc
given_value r answer (inr h) = absurd (false≢true h.0)

given_refused : (e : AllocError) (answer : Answer) → IsGiven (Err e) answer → takes_memory answer ≡ true
given_refused e answer (inl h) = cc
given_refused e answer (inr h) = h.1

-- a token or an error was taken
pub lexed_front : (rules : Rules) (f : Flags) (r p q : Reading) (first last : Spot) (v : Answer) (answer : Lexeme) (line : Bool)
    → Some first ≡ first_char r
    → MatchOption (first_char r) ⊤ (λ s. is_blank s.c ≡ false)
    → p ≡ r → IsGiven (Ok v) (word_at rules (letters p.rest)).value → q ≡ advanced (word_at rules (letters p.rest)).taken p → last ≡ q.last
    → answer ≡ lexeme_seen f first last v → line ≡ is_newline_result v
    → IsLexed rules f r (Ok (Some answer)) (record { leading_whitespace = line; start_of_line = line; had_comments = f.had_comments }) q
lexed_front rules f r p q first last v answer line e plain same h k l a n = grind (arith, front_at, value)

-- memory was refused
pub lexed_refused : (rules : Rules) (f : Flags) (r p q : Reading) (first : Spot) (e : AllocError) (answer : Result (Option Lexeme) AllocError)
    → Some first ≡ first_char r → MatchOption (first_char r) ⊤ (λ s. is_blank s.c ≡ false)
    → p ≡ r → IsErr answer → IsGiven (Err e) (word_at rules (letters p.rest)).value → IsLexed rules f r answer f q
lexed_refused rules f r p q first e answer here plain same k h = grind (arith, refused_at, given_refused)

newline_comments : (f : Flags) (last : Spot) (b : Bool) → b ≡ f.had_comments → f.had_comments ≡ comments_before (newline_seen f last) b
newline_comments f last b h = grind arith

-- where nothing is left, the line is over
newline_over : (f g : Flags) (last : Spot) → newline_seen g last ≡ after_first_item (newline_seen f last)
    → g.start_of_line ≡ over_after_first (newline_seen f last) f.start_of_line
newline_over f g last h = by f.start_of_line f.leading_whitespace f.had_comments h
  where
    by : (over spaced comments : Bool)
        → newline_seen g last ≡ after_first_item (newline_seen (record { leading_whitespace = spaced; start_of_line = over; had_comments = comments }) last)
        → g.start_of_line ≡ over_after_first (newline_seen (record { leading_whitespace = spaced; start_of_line = over; had_comments = comments }) last) over
    by true spaced comments h = none_within g.start_of_line g.leading_whitespace g.had_comments last h
    by false spaced comments h = none_within g.start_of_line g.leading_whitespace g.had_comments last h

end_at : (rules : Rules) (f g : Flags) (ss : List Spot) (last : Spot) (answer : Option Lexeme) → None ≡ first_of ss
    → answer ≡ first_item (newline_seen f last)
    → newline_seen g last ≡ after_first_item (newline_seen f last)
    → g.had_comments ≡ f.had_comments → IsLexed rules f (record { rest = ss; last = last }) (Ok answer) g (record { rest = ss; last = last })
end_at rules f g ss last answer h k e l = grind (arith, segments_none, newline_comments, newline_over)

-- nothing is left to read
pub lexed_end : (rules : Rules) (f g : Flags) (r p : Reading) (last : Spot) (answer : Option Lexeme) → None ≡ first_char r → p ≡ r → last ≡ p.last
    → answer ≡ first_item (newline_seen f last)
    → newline_seen g last ≡ after_first_item (newline_seen f last) → g.had_comments ≡ f.had_comments → IsLexed rules f r (Ok answer) g p
lexed_end rules f g r p last answer e same l a n c = grind (arith, end_at)

-- Where the item that was taken stands

-- what was skipped before makes no difference
pub placed_before : (rules : Rules) (f g h : Flags) (r p q : Reading) (old mid new : Location) → places_left rules g p ≡ places_left rules f r
    → mid ≡ old
    → IsPlaced rules g p mid h q new → IsPlaced rules f r old h q new
placed_before rules f g h r p q old mid new same e x = grind arith

-- if memory was refused, there is none
pub placed_refused : {T E : Type 0} (answer : Result T E) (P : Type 0) → IsErr answer → OnOk answer P
placed_refused (Ok _) P h = cc
placed_refused (Err _) P h = tt

placed_at : (rules : Rules) (f : Flags) (ss : List Spot) (last : Spot) (q : Reading) (first : Spot) (r : Answer) (old : Location)
    → Some first ≡ first_of ss
    → MatchOption (first_of ss) ⊤ (λ s. is_blank s.c ≡ false)
    → r ≡ (word_at rules (letters ss)).value → q ≡ advanced (word_at rules (letters ss)).taken (record { rest = ss; last = last })
    → IsPlaced rules f (record { rest = ss; last = last }) old (passed f (item r)) q
    (record { start = first.begin; end = q.last.end; line = first.line })
unfolding value after
placed_at rules f ss last q first r old h k e l = grind (arith, places_front)

-- a token or an error
pub placed_front : (rules : Rules) (f : Flags) (r p q : Reading) (first last : Spot) (v : Answer) (line : Bool) (old : Location)
    → Some first ≡ first_char r
    → MatchOption (first_char r) ⊤ (λ s. is_blank s.c ≡ false)
    → p ≡ r → IsGiven (Ok v) (word_at rules (letters p.rest)).value → q ≡ advanced (word_at rules (letters p.rest)).taken p → last ≡ q.last
    → line ≡ is_newline_result v
    → IsPlaced rules f r old (record { leading_whitespace = line; start_of_line = line; had_comments = f.had_comments }) q
    (record { start = first.begin; end = last.end; line = first.line })
placed_front rules f r p q first last v line old e plain same h k l n =
    rw (l, n)
    (placed_at rules f r.rest r.last q first v old e plain (given_value v (word_at rules (letters p.rest)).value h
    ∙ ap (λ x. (word_at rules (letters x.rest)).value) same) (k ∙ ap (λ x. advanced (word_at rules (letters x.rest)).taken x) same))

placed_at_end : (rules : Rules) (f g : Flags) (ss : List Spot) (last : Spot) (old : Location) → None ≡ first_of ss
    → newline_places g last ≡ places_after_first (newline_places f last)
    → IsPlaced rules f (record { rest = ss; last = last }) old g (record { rest = ss; last = last }) (first_place (newline_places f last) old)
placed_at_end rules f g ss last old h k = grind (arith, segments_none)

-- the end
pub placed_end : (rules : Rules) (f g : Flags) (r p : Reading) (last : Spot) (old : Location) → None ≡ first_char r → p ≡ r → last ≡ p.last
    → newline_places g last ≡ places_after_first (newline_places f last)
    → IsPlaced rules f r old g p (first_place (newline_places f last) old)
placed_end rules f g r p last old e same l n =
    let k : last ≡ r.last = l ∙ ap (λ x. x.last) same in
    subst (λ x. IsPlaced rules f r old g x (first_place (newline_places f last) old)) (sym same)
    (rw k (placed_at_end rules f g r.rest r.last old e (rw k at n)))
