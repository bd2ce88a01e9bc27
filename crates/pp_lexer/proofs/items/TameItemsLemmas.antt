-- A lexer passes bytes whose words are no errors.
use Rattle.std.proofs.Common.{◌≡◌, ℕ, zero, suc, ◌+◌, ◌-◌, ◌<◌, ◌≤◌, List, ◌∷◌, [], length, take, drop, get_or, Bool, true, false, not, ◌||◌, ◌==◌, refl, sym, ◌∙◌, ap, subst, arith, Some, Ok}
use Rattle.std.specs.Prelude.{◌≢◌}
use Rattle.std.specs.List.{list_all}
use Rattle.std.specs.Str.{IsUtf8}
use Rattle.std.proofs.lemmas.Bool.{eq-eqb}
use Rattle.std.proofs.lemmas.List.{drop-drop, get_or-drop}
use Rattle.pp_lexer.specs.declared.rules.Rules.{Rules}
use Rattle.pp_lexer.specs.declared.token.Location.{Location}
use Rattle.pp_lexer.specs.declared.lexer.Flags.{Flags}
use Rattle.pp_lexer.specs.declared.lexer.item.TokenValue.{TokenValue}
use Rattle.pp_lexer.specs.declared.lexer.item.TokenValue.TheVariants.{Hash, NewLine, Ident, Integer, Float, Punct}
use Rattle.pp_lexer.specs.Items.{Lexeme}
use Rattle.pp_lexer.specs.Lexed.{Seen, Lexed, first_item, after_first}
use Rattle.pp_lexer.specs.PassedWords.{is_number_sign, is_other_lexeme, begins_other, TakesOthers, AreOthersTaken, PassesOthers}
use Rattle.pp_lexer.specs.Reading.{Reading}
use Rattle.pp_lexer.specs.inner.Fronts.{spots_from}
use Rattle.pp_lexer.specs.inner.Passing.{lexed, seen_of, IsPlaced, IsLexed}
use Rattle.pp_lexer.specs.inner.PlainWords.{is_space, IsPlainWord, IsPlainNewline}
use Rattle.pp_lexer.specs.inner.Tame.{IsTame, feeds}
use Rattle.pp_lexer.proofs.characters.PlainFrontsLemmas.{drop_none}
use Rattle.pp_lexer.proofs.characters.NewlinesLemmas.{line_feed, lexed_newline, placed_newline}
use Rattle.pp_lexer.proofs.characters.SpacesLemmas.{spaced}
use Rattle.pp_lexer.proofs.items.NextWordLemmas.{taken}
use Rattle.pp_lexer.proofs.items.PlainLexLemmas.{lexed_plain, placed_plain, spaces_same, spaces_placed, spaces_comments}
use Rattle.pp_lexer.proofs.words.TameLemmas.{Piece, space, feed, word, first_piece, front_shorter, tame_after, tame_after_one, tame_utf8, feed_follows, space_counts, feed_counts, feeds_drop, feeds_none}

-- one more token at the end
pub takes_more : (n : ℕ) (old mid new : Lexed) → TakesOthers n old mid → begins_other mid.rest ≡ true → new ≡ after_first mid → TakesOthers (suc n) old new
takes_more zero old mid new t b e = (ap (λ (l : Lexed). begins_other l.rest) (sym t) ∙ b, e ∙ ap after_first t)
takes_more (suc n) old mid new t b e = (t.0, takes_more n (after_first old) mid new t.1 b e)

-- such tokens, and then others
takes_then : (m n : ℕ) (old mid new : Lexed) → TakesOthers (suc m) old mid → TakesOthers (suc n) mid new → (k : ℕ) × TakesOthers (suc k) old new
takes_then zero n old mid new t u = (suc n, (t.0, subst (λ l. TakesOthers (suc n) l new) t.1 u))
takes_then (suc m) n old mid new t u = let rest = takes_then m n (after_first old) mid new t.1 u in (suc rest.0, (t.0, rest.1))

-- others are passed after those that were, if any were
pub passed_more : (old mid new : Lexed) (passed : Bool) → PassesOthers old passed mid → AreOthersTaken mid new → AreOthersTaken old new
passed_more old mid new true h more =
    let all = takes_then h.more more.more old mid new h.taken more.taken in
    record { unspent = h.unspent; more = all.0; taken = all.1 }
passed_more old mid new false h more = subst (λ l. AreOthersTaken l new) h more

other_value : (value : TokenValue) → value ≢ Hash → not (is_number_sign value) ≡ true
other_value Hash h = absurd (h refl)
other_value NewLine h = refl
other_value (Ident name) h = refl
other_value (Integer i) h = refl
other_value (Float f) h = refl
other_value (Punct p) h = refl

begins_of : (ss : List Seen) (item : Lexeme) → Some item ≡ first_item ss → is_other_lexeme item ≡ true → begins_other ss ≡ true
begins_of [] item e h = cc
begins_of (s ∷ ss) item e h = let same : item ≡ s.item = cc in ap is_other_lexeme (sym same) ∙ h

-- states that agree in each part
lexed_is : (l m : Lexed) → l.rest ≡ m.rest → l.had_comments ≡ m.had_comments → l.at_end ≡ m.at_end → l.spent ≡ m.spent → l.over ≡ m.over → l.place ≡ m.place
    → l.places ≡ m.places → l.rules ≡ m.rules → l ≡ m
lexed_is l m rest comments at_end spent over place places rules =
    ap (λ x. record l { rest = x }) rest
    ∙ ap (λ x. record l { rest = m.rest; had_comments = x }) comments
    ∙ ap (λ x. record l { rest = m.rest; had_comments = m.had_comments; at_end = x }) at_end
    ∙ ap (λ x. record l { rest = m.rest; had_comments = m.had_comments; at_end = m.at_end; spent = x }) spent
    ∙ ap (λ x. record m { over = x; place = l.place; places = l.places; rules = l.rules }) over
    ∙ ap (λ x. record m { place = x; places = l.places; rules = l.rules }) place
    ∙ ap (λ x. record m { places = x; rules = l.rules }) places
    ∙ ap (λ x. record m { rules = x }) rules

or_right : (a b : Bool) → b ≡ true → (a || b) ≡ true
or_right true b k = refl
or_right false b k = k

longer : (text : List ℕ) (n : ℕ) → IsTame text (suc n) → 0 < length text
longer text n h = let more = h.more in omega (arith, more)

one_less : (n : ℕ) → suc n - 1 ≡ n
one_less n = omega arith

counted : (text : List ℕ) (n m k : ℕ) → m + k ≡ suc n → feeds text (suc n) ≡ feeds text m + feeds (drop m text) k
counted text n m k sum = ap (feeds text) (sym sum) ∙ feeds_drop text m k

dropped : (text : List ℕ) (n m k : ℕ) → m + k ≡ suc n → drop k (drop m text) ≡ drop (suc n) text
dropped text n m k sum = drop-drop k m text ∙ ap (λ j. drop j text) sum

module _ (rules : Rules) (spent : Bool) where
  -- a token was taken
  pub record Takes (f : Flags) (r : Reading) (old : Location) (g : Flags) (q : Reading) (new : Location) : Type 0 where
    pub begins : begins_other (lexed rules f r old spent).rest ≡ true
    pub after : lexed rules g q new spent ≡ after_first (lexed rules f r old spent)

  takes : (f g : Flags) (r q : Reading) (item : Lexeme) (old new : Location) → IsLexed rules f r (Ok (Some item)) g q
      → IsPlaced rules f r old g q new → is_other_lexeme item ≡ true → Takes f r old g q new
  takes f g r q item old new h placed other =
      let t = taken rules f g r q item h in
      let same : Some item ≡ first_item (seen_of rules f r) = let v = t.value in cc in
      record {
        begins = begins_of (seen_of rules f r) item same other;
        after = lexed_is (lexed rules g q new spent) (after_first (lexed rules f r old spent)) t.rest t.comments t.at_end refl t.over placed.place placed.rest refl;
      }

  -- these tokens were taken, and then this text is left
  pub record Goes (f : Flags) (r : Reading) (place : Location) (line at : ℕ) (rest : List ℕ) : Type 0 where
    pub count : ℕ
    pub flags : Flags
    pub there : Reading
    pub spot : Location
    pub left : there.rest ≡ spots_from line at rest
    pub comments : flags.had_comments ≡ f.had_comments
    pub taken : TakesOthers count (lexed rules f r place spent) (lexed rules flags there spot spent)

  arrives : (f : Flags) (r : Reading) (place : Location) (line l at a : ℕ) (rest t : List ℕ) → Goes f r place line at rest → line ≡ l → at ≡ a → rest ≡ t
      → Goes f r place l a t
  arrives f r place line l at a rest t h p q s = record {
    count = h.count;
    flags = h.flags;
    there = h.there;
    spot = h.spot;
    left = h.left ∙ ap (λ x. spots_from x at rest) p ∙ ap (λ x. spots_from l x rest) q ∙ ap (λ x. spots_from l a x) s;
    comments = h.comments;
    taken = h.taken;
  }

  -- one token before
  goes_token : (f g : Flags) (r q : Reading) (old new : Location) (line at : ℕ) (rest : List ℕ) → Takes f r old g q new → g.had_comments ≡ f.had_comments
      → Goes g q new line at rest → Goes f r old line at rest
  goes_token f g r q old new line at rest t same h = record {
    count = suc h.count;
    flags = h.flags;
    there = h.there;
    spot = h.spot;
    left = h.left;
    comments = h.comments ∙ same;
    taken = (t.begins, subst (λ l. TakesOthers h.count l (lexed rules h.flags h.there h.spot spent)) t.after h.taken);
  }

  -- nothing before
  goes_same : (f g : Flags) (r q : Reading) (place : Location) (line at : ℕ) (rest : List ℕ) → lexed rules g q place spent ≡ lexed rules f r place spent
      → g.had_comments ≡ f.had_comments → Goes g q place line at rest → Goes f r place line at rest
  goes_same f g r q place line at rest same comments h = record {
    count = h.count;
    flags = h.flags;
    there = h.there;
    spot = h.spot;
    left = h.left;
    comments = h.comments ∙ comments;
    taken = subst (λ l. TakesOthers h.count l (lexed rules h.flags h.there h.spot spent)) same h.taken;
  }

  module _ (f : Flags) (r : Reading) (place : Location) (line at : ℕ) (text : List ℕ) (e : r.rest ≡ spots_from line at text) where
    -- where a reader is after a word
    abbrev pub after_word : ℕ → Reading
    after_word n = record {
      rest = spots_from line (at + n) (drop n text);
      last = record { c = get_or text (n - 1) 0; line = line; begin = at + n - 1; end = at + n };
    }

    abbrev pub word_flags : Flags
    word_flags = record { leading_whitespace = false; start_of_line = false; had_comments = f.had_comments }

    -- a word is taken
    pub takes_word : (value : TokenValue) (n : ℕ) → value ≢ Hash → IsPlainWord text value n
        → Takes f r place word_flags (after_word n) (record { start = at; end = at + n; line = line })
    takes_word value n other w =
        takes f word_flags r (after_word n) _ place _ (lexed_plain rules f r line at text e value n w (after_word n) refl)
        (placed_plain rules f r line at text e value n w (after_word n) place refl) (other_value value other)

    takes_feed : IsPlainNewline text 1
        → Takes f r place (record { leading_whitespace = true; start_of_line = true; had_comments = f.had_comments })
        (record { rest = spots_from (line + 1) (at + 1) (drop 1 text); last = record { c = 10; line = line; begin = at; end = at + 1 } })
        (record { start = at; end = at + 1; line = line })
    takes_feed w =
        takes f _ r _ _ place _ (lexed_newline rules f r _ line at 1 text (drop 1 text) e w refl refl)
        (placed_newline rules f r _ line at 1 text (drop 1 text) e w refl refl place) refl

    space_same : IsUtf8 text → 0 < length text → is_space (get_or text 0 0) ≡ true
        → lexed rules (spaced f) (after_word 1) place spent ≡ lexed rules f r place spent
    space_same u some is =
        let passes : list_all is_space (take 1 text) ≡ true = first_space text some is in
        rw (
          spaces_same rules f r line at text e u (after_word 1) 1 (omega arith) (omega (arith, some)) passes refl,
          spaces_placed rules f r line at text e u (after_word 1) 1 (omega arith) (omega (arith, some)) passes refl,
          spaces_comments rules f r line at text e u (after_word 1) 1 (omega arith) (omega (arith, some)) passes refl,
        ) refl
      where
        first_space : (text : List ℕ) → 0 < length text → is_space (get_or text 0 0) ≡ true → list_all is_space (take 1 text) ≡ true
        first_space [] some is = absurd (omega arith)
        first_space (c ∷ []) some is = rw is refl
        first_space (c ∷ d ∷ text) some is = rw is refl

  -- from one piece on, if all that is after it is passed
  goes_piece : (n line at : ℕ) (text : List ℕ) → IsUtf8 text → IsTame text (suc n) → (f : Flags) (r : Reading) (place : Location)
      → r.rest ≡ spots_from line at text
      → ((m : ℕ) → m ≤ n → (line at : ℕ) (text : List ℕ) → IsUtf8 text → IsTame text m → (f : Flags) (r : Reading) (place : Location)
      → r.rest ≡ spots_from line at text → Goes f r place (line + feeds text m) (at + m) (drop m text))
      → Piece text (suc n) → Goes f r place (line + feeds text (suc n)) (at + suc n) (drop (suc n) text)
  goes_piece n line at text u h f r place e again (space is) =
      let rest = subst (λ k. IsTame (drop 1 text) k) (one_less n) (tame_after_one text (suc n) h (omega arith) (rw is refl)) in
      let v : IsUtf8 (drop 1 text) = tame_utf8 text 1 u (front_shorter text 1 (suc n) (omega arith) h.front) in
      let q = after_word f r place line at text e 1 in
      let more = again n (omega arith) line (at + 1) (drop 1 text) v rest (spaced f) q place refl in
      let count = counted text n 1 n (omega arith) in
      let none = space_counts text is in
      goes_same f (spaced f) r q place _ _ _ (space_same f r place line at text e u (longer text n h) is) refl
      (arrives _ _ _ _ _ _ _ _ _ more (omega (arith, count, none)) (omega arith) (dropped text n 1 n (omega arith)))
  goes_piece n line at text u h f r place e again (feed is) =
      let first = or_right (is_space (get_or text 0 0)) (get_or text 0 0 == 10) (eq-eqb _ _ is) in
      let rest = subst (λ k. IsTame (drop 1 text) k) (one_less n) (tame_after_one text (suc n) h (omega arith) first) in
      let v : IsUtf8 (drop 1 text) = tame_utf8 text 1 u (front_shorter text 1 (suc n) (omega arith) h.front) in
      let w : IsPlainNewline text 1 = line_feed text u (longer text n h) is (feed_follows text (suc n) h (omega arith)) in
      let g : Flags = record { leading_whitespace = true; start_of_line = true; had_comments = f.had_comments } in
      let q : Reading = record {
        rest = spots_from (line + 1) (at + 1) (drop 1 text);
        last = record { c = 10; line = line; begin = at; end = at + 1 };
      } in
      let more = again n (omega arith) (line + 1) (at + 1) (drop 1 text) v rest g q (record { start = at; end = at + 1; line = line }) refl in
      let count = counted text n 1 n (omega arith) in
      let one = feed_counts text is in
      goes_token f g r q place _ _ _ _ (takes_feed f r place line at text e w) refl
      (arrives _ _ _ _ _ _ _ _ _ more (omega (arith, count, one)) (omega arith) (dropped text n 1 n (omega arith)))
  goes_piece n line at text u h f r place e again (word w) =
      let size = w.size in
      let some = w.is.some in
      let fits = w.fits in
      let rest = tame_after text (suc n) size h some fits w.ends in
      let v : IsUtf8 (drop size text) = tame_utf8 text size u (front_shorter text size (suc n) fits h.front) in
      let q = after_word f r place line at text e size in
      let g = word_flags f r place line at text e in
      let more = again (suc n - size) (omega (arith, some)) line (at + size) (drop size text) v rest g q
      (record { start = at; end = at + size; line = line }) refl in
      let count = counted text n size (suc n - size) (omega (arith, fits)) in
      let none = feeds_none text size w.no_feed in
      goes_token f g r q place _ _ _ _ (takes_word f r place line at text e w.value size w.no_hash w.is) refl
      (arrives _ _ _ _ _ _ _ _ _ more (omega (arith, count, none)) (omega (arith, fits))
      (dropped text n size (suc n - size) (omega (arith, fits))))

  -- all of them are passed
  pub goes : (fuel n : ℕ) → n ≤ fuel → (line at : ℕ) (text : List ℕ) → IsUtf8 text → IsTame text n → (f : Flags) (r : Reading) (place : Location)
      → r.rest ≡ spots_from line at text → Goes f r place (line + feeds text n) (at + n) (drop n text)
  goes fuel zero le line at text u h f r place e =
      let l : line ≡ line + 0 = omega arith in
      let a : at ≡ at + 0 = omega arith in
      record {
        count = 0;
        flags = f;
        there = r;
        spot = place;
        left = e ∙ ap (λ x. spots_from x at text) l ∙ ap (λ x. spots_from (line + 0) x text) a ∙ ap (spots_from (line + 0) (at + 0)) (sym (drop_none text));
        comments = refl;
        taken = refl;
      }
  goes zero (suc n) le line at text u h f r place e = absurd (omega (arith, le))
  goes (suc fuel) (suc n) le line at text u h f r place e =
      goes_piece n line at text u h f r place e
      (λ m below line at text u h f r place e. goes fuel m (omega (arith, below, le)) line at text u h f r place e)
      (first_piece text (suc n) u h (omega arith))

  -- and the word after them
  pub goes_over : (line at n size : ℕ) (text : List ℕ) → IsUtf8 text → IsTame text n → (value : TokenValue) → value ≢ Hash
      → IsPlainWord (drop n text) value size → (f : Flags) (r : Reading) (place : Location) → r.rest ≡ spots_from line at text
      → (g : Flags) (q : Reading) (new : Location) → g ≡ record { leading_whitespace = false; start_of_line = false; had_comments = f.had_comments }
      → q ≡ record {
        rest = spots_from (line + feeds text n) (at + (n + size)) (drop (n + size) text);
        last = record { c = get_or text (n + size - 1) 0; line = line + feeds text n; begin = at + (n + size) - 1; end = at + (n + size) };
      }
      → new ≡ record { start = at + n; end = at + (n + size); line = line + feeds text n }
      → (count : ℕ) × TakesOthers (suc count) (lexed rules f r place spent) (lexed rules g q new spent)
  goes_over line at n size text u h value other w f r place e g q new flags there spot =
      let before = goes n n (omega arith) line at text u h f r place e in
      let some = w.some in
      let word = takes_word before.flags before.there before.spot (line + feeds text n) (at + n) (drop n text) before.left value size other w in
      let sum : at + (n + size) ≡ at + n + size = omega arith in
      let back : n + (size - 1) ≡ n + size - 1 = omega (arith, some) in
      let last : get_or text (n + size - 1) 0 ≡ get_or (drop n text) (size - 1) 0 =
      sym (get_or-drop n text (size - 1) 0 ∙ ap (λ k. get_or text k 0) back) in
      let arrived : q ≡ after_word before.flags before.there before.spot (line + feeds text n) (at + n) (drop n text) before.left size =
      there ∙ ap (λ k. record {
        rest = spots_from (line + feeds text n) k (drop (n + size) text);
        last = record { c = get_or text (n + size - 1) 0; line = line + feeds text n; begin = k - 1; end = k };
      }) sum
      ∙ ap (λ t. record {
        rest = spots_from (line + feeds text n) (at + n + size) t;
        last = record { c = get_or text (n + size - 1) 0; line = line + feeds text n; begin = at + n + size - 1; end = at + n + size };
      }) (sym (drop-drop size n text))
      ∙ ap (λ c. record {
        rest = spots_from (line + feeds text n) (at + n + size) (drop size (drop n text));
        last = record { c = c; line = line + feeds text n; begin = at + n + size - 1; end = at + n + size };
      }) last in
      let marks : g ≡ word_flags before.flags before.there before.spot (line + feeds text n) (at + n) (drop n text) before.left =
      flags ∙ ap (λ b. record { leading_whitespace = false; start_of_line = false; had_comments = b }) (sym before.comments) in
      let placed : new ≡ record { start = at + n; end = at + n + size; line = line + feeds text n } =
      spot ∙ ap (λ k. record { start = at + n; end = k; line = line + feeds text n }) sum in (
        before.count,
        rw (arrived, marks, placed) (takes_more before.count _ _ _ before.taken word.begins word.after),
      )

-- where a reader went, by the bytes that were read
pub gone_over : (q : Reading) (line at n size newlines : ℕ) (text bytes rest : List ℕ) → q ≡ record {
  rest = spots_from (line + newlines) (at + (n + size)) rest;
  last = record { c = get_or bytes (n + size - 1) 0; line = line + newlines; begin = at + (n + size) - 1; end = at + (n + size) };
} → newlines ≡ feeds text n → bytes ≡ text → rest ≡ drop (n + size) text → q ≡ record {
  rest = spots_from (line + feeds text n) (at + (n + size)) (drop (n + size) text);
  last = record { c = get_or text (n + size - 1) 0; line = line + feeds text n; begin = at + (n + size) - 1; end = at + (n + size) };
}
gone_over q line at n size newlines text bytes rest e count same left =
    e ∙ ap (λ k. record {
      rest = spots_from (line + k) (at + (n + size)) rest;
      last = record { c = get_or bytes (n + size - 1) 0; line = line + k; begin = at + (n + size) - 1; end = at + (n + size) };
    }) count
    ∙ ap (λ t. record {
      rest = spots_from (line + feeds text n) (at + (n + size)) rest;
      last = record { c = get_or t (n + size - 1) 0; line = line + feeds text n; begin = at + (n + size) - 1; end = at + (n + size) };
    }) same
    ∙ ap (λ t. record {
      rest = spots_from (line + feeds text n) (at + (n + size)) t;
      last = record { c = get_or text (n + size - 1) 0; line = line + feeds text n; begin = at + (n + size) - 1; end = at + (n + size) };
    }) left
