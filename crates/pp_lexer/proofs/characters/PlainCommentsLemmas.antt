-- Comments at the front of a plain text.
use Rattle.std.proofs.Common.{◌≡◌, ℕ, zero, suc, ◌+◌, ◌-◌, ◌<◌, ◌≤◌, List, [], ◌∷◌, length, take, drop, get_or, Bool, true, false, ◌&&◌, ◌==◌, length-drop, add-one, add-zero, refl, sym, ◌∙◌, ap, subst, arith, Some, Option}
use Rattle.std.proofs.Math.Bool.{and-false}
use Rattle.std.proofs.lemmas.Bool.{and_parts}
use Rattle.std.specs.List.{list_all}
use Rattle.std.specs.Str.{chars, IsUtf8, IsCharBoundary}
use Rattle.std.proofs.lemmas.List.{drop-drop, get_or-drop as get_or_after}
use Rattle.std.proofs.lemmas.List.Folds.{list_all_more}
use Rattle.std.proofs.lemmas.Str.{IsCharBoundary-from_drop, IsUtf8-drop, chars-nil}
use Rattle.std.proofs.Math.Seq.{drop-cons}
use Rattle.pp_lexer.specs.Comments.{is_slash, is_star, line_length, replaced}
use Rattle.pp_lexer.specs.Continuations.{continued}
use Rattle.pp_lexer.specs.Cursor.{Placed, Cursor, first_of, after_of, passed}
use Rattle.pp_lexer.specs.Lines.{is_line_break, pieces}
use Rattle.pp_lexer.specs.Reading.{spots}
use Rattle.pp_lexer.specs.inner.Fronts.{spots_from, left, goes_on, is_straight, is_quiet}
use Rattle.pp_lexer.specs.inner.PlainWords.{IsPlainComment}
use Rattle.pp_lexer.specs.inner.Readers.{placed_from, joined, uncommented, past_line, past_block}
use Rattle.pp_lexer.proofs.characters.CommentsLemmas.{past_block_after, block_goes_on, line_comment_step, block_comment_step}
use Rattle.pp_lexer.proofs.characters.ContinuationsLemmas.{continued-nil, continued-plain}
use Rattle.pp_lexer.proofs.characters.FrontsLemmas.{ascii_chars, utf8_after}
use Rattle.pp_lexer.proofs.characters.NewlinesLemmas.{pieces_newline}
use Rattle.pp_lexer.proofs.characters.PlainFrontsLemmas.{get_or-drop}
use Rattle.pp_lexer.proofs.characters.StraightLemmas.{Straight, straight_parts, reader, joined_first, line_passed, cut_before_line_end}

pub record Quiet (c : ℕ) : Type 0 where
  pub straight : is_straight c ≡ true
  pub no_star : (c == 42) ≡ false

quiet_parts : (c : ℕ) → is_quiet c ≡ true → Quiet c
quiet_parts c h = grind arith

-- the text does not go on with a carriage return, and its first character is ASCII
abbrev pub NoReturn : List ℕ → Type 0
NoReturn text = 0 < length text → (get_or text 0 0 < 128) × ((get_or text 0 0 == 13) ≡ false)

-- a line feed begins a line
joined_feed : (line at : ℕ) (text : List ℕ) → IsUtf8 (10 ∷ text) → NoReturn text
    → joined (left line at (10 ∷ text))
    ≡ reader (record { char = 10; line = line; end = at + 1 } ∷ continued (placed_from (line + 1) (at + 1) (pieces (chars text)))) at
    (at + 1 + length text)
joined_feed line at text u h =
    let here : Placed = record { char = 10; line = line; end = at + 1 } in
    let more = placed_from (line + 1) (at + 1) (pieces (chars text)) in
    let small : 10 < 128 = omega arith in
    let total : at + length (10 ∷ text) ≡ at + 1 + length text = omega arith in
    ap (λ cs. reader (continued (placed_from line at (pieces cs))) at (at + length (10 ∷ text))) (ascii_chars 10 text small u)
    ∙ ap (λ ps. reader (continued (placed_from line at ps)) at (at + length (10 ∷ text))) (pieces_newline text (utf8_after 10 text small u) h)
    ∙ ap (λ ps. reader ps at (at + length (10 ∷ text))) (continued-plain here more refl)
    ∙ ap (λ n. reader (here ∷ continued more) at n) total

-- Where a line comment ends

-- no character stands before a newline
line_broken : (line at b : ℕ) (text : List ℕ) → is_line_break b ≡ true → IsUtf8 (b ∷ text)
    → line_length (continued (placed_from line at (pieces (chars (b ∷ text))))) ≡ 0
line_broken line at b text h u = grind (arith, ascii_chars, continued-plain)

passed_none : (c : Cursor) → passed 0 c ≡ c
passed_none c = grind arith

-- a line comment ends before a newline, and at the end of the text
line_ended : (line at : ℕ) (text : List ℕ) → IsUtf8 text → (0 < length text → is_line_break (get_or text 0 0) ≡ true)
    → past_line (joined (left line at text)) ≡ joined (left line at text)
line_ended line at [] u h = grind (arith, chars-nil, continued-nil)
line_ended line at (b ∷ text) u h = grind (arith, line_broken)

-- Where a block comment ends

-- so many bytes of a block comment's rest are passed, with so many newlines; the last one may be a star
pub record IsBlockSoFar (body : List ℕ) (i newlines : ℕ) (star : Bool) : Type 0 where
  pub within : i ≤ length body
  pub lines : newlines ≤ i
  pub utf8 : IsUtf8 (drop i body)
  pub state : NoReturn (drop i body) → (line at : ℕ)
      → past_block_after star (joined (left (line + newlines) (at + i) (drop i body))) ≡ past_block (joined (left line at body))

block_begun : (body : List ℕ) → IsUtf8 body → IsBlockSoFar body 0 0 false
block_begun body u = grind arith

-- what follows a byte that does not close the comment
stays_open : (star : Bool) (total offset : ℕ) (p : Placed) (ps : List Placed) → (star && is_slash p) ≡ false
    → past_block_after star (reader (p ∷ ps) offset total) ≡ past_block_after (is_star p) (reader ps p.end total)
stays_open star total offset p ps h = rw h (block_goes_on total offset p ps)

module _ (body : List ℕ) (i newlines : ℕ) (star : Bool) (s : IsBlockSoFar body i newlines star) (l : i < length body) where
  split : drop i body ≡ get_or body i 0 ∷ drop (i + 1) body
  split = drop-cons body i 0 l ∙ ap (λ k. get_or body i 0 ∷ drop k body) (sym (add-one i))

  utf8_here : IsUtf8 (get_or body i 0 ∷ drop (i + 1) body)
  utf8_here = subst IsUtf8 split s.utf8

  moved : (at : ℕ) → at + (i + 1) ≡ at + i + 1
  moved at = omega arith

  here : get_or body i 0 < 128 → (get_or body i 0 == 13) ≡ false → (line at : ℕ)
      → past_block_after star (joined (left (line + newlines) (at + i) (get_or body i 0 ∷ drop (i + 1) body))) ≡ past_block (joined (left line at body))
  here small no_return line at = grind (arith, split)

  pub block_more : (star && (get_or body i 0 == 47)) ≡ false → is_straight (get_or body i 0) ≡ true
      → IsBlockSoFar body (i + 1) newlines (get_or body i 0 == 42)
  block_more open_yet h =
      let c = get_or body i 0 in
      let p : Straight c = straight_parts c h in
      record {
        within = omega arith;
        lines = omega (arith, s.lines);
        utf8 = utf8_after c (drop (i + 1) body) p.small utf8_here;
        state = λ _ line at.
            let more = continued (placed_from (line + newlines) (at + i + 1) (pieces (chars (drop (i + 1) body)))) in
            ap (λ k. past_block_after (c == 42) (joined (left (line + newlines) k (drop (i + 1) body)))) (moved at)
            ∙ sym (stays_open star (at + i + 1 + length (drop (i + 1) body)) (at + i) (record { char = c; line = line + newlines; end = at + i + 1 }) more open_yet)
            ∙ ap (past_block_after star) (sym (joined_first (line + newlines) (at + i) c (drop (i + 1) body) p utf8_here)) ∙ here p.small p.no_return line at;
      }

  pub block_feed : get_or body i 0 ≡ 10 → IsBlockSoFar body (i + 1) (newlines + 1) false
  block_feed feed =
      let rest = drop (i + 1) body in
      let u : IsUtf8 (10 ∷ rest) = subst (λ c. IsUtf8 (c ∷ rest)) feed utf8_here in
      let small : get_or body i 0 < 128 = omega (arith, feed) in
      let no_return : (get_or body i 0 == 13) ≡ false = rw feed refl in
      record {
        within = omega arith;
        lines = omega (arith, s.lines);
        utf8 = utf8_after 10 rest (omega arith) u;
        state = λ h line at.
            let more = continued (placed_from (line + newlines + 1) (at + i + 1) (pieces (chars rest))) in
            let n : line + (newlines + 1) ≡ line + newlines + 1 = omega arith in
            ap (λ k. past_block (joined (left (line + (newlines + 1)) k rest))) (moved at)
            ∙ ap (λ k. past_block (joined (left k (at + i + 1) rest))) n
            ∙ sym (stays_open star (at + i + 1 + length rest) (at + i) (record { char = 10; line = line + newlines; end = at + i + 1 }) more (and-false star))
            ∙ ap (past_block_after star) (sym (joined_feed (line + newlines) (at + i) rest u h))
            ∙ ap (λ c. past_block_after star (joined (left (line + newlines) (at + i) (c ∷ rest)))) (sym feed) ∙ here small no_return line at;
      }

-- characters other than a star and a newline leave it so
pub block_quiet : (body : List ℕ) (i newlines n : ℕ) → IsBlockSoFar body i newlines false → i + n ≤ length body
    → list_all is_quiet (take n (drop i body)) ≡ true → IsBlockSoFar body (i + n) newlines false
block_quiet body i newlines zero s le h = subst (λ k. IsBlockSoFar body k newlines false) (sym (add-zero i)) s
block_quiet body i newlines (suc n) s le h =
    let rest = drop i body in
    let size : length rest ≡ length body - i = length-drop i body in
    let parts = and_parts _ _ (sym (list_all_more is_quiet rest n 0 (omega (arith, size))) ∙ ap (λ k. list_all is_quiet (take k rest)) (add-one n) ∙ h) in
    let before : IsBlockSoFar body (i + n) newlines false = block_quiet body i newlines n s (omega arith) parts.0 in
    let c = get_or body (i + n) 0 in
    let there : get_or rest n 0 ≡ c = get_or_after i body n 0 in
    let q : Quiet c = quiet_parts c (ap is_quiet (sym there) ∙ parts.1) in
    let more : IsBlockSoFar body (i + n + 1) newlines (c == 42) = block_more body (i + n) newlines false before (omega arith) refl q.straight in
    let place : i + n + 1 ≡ i + suc n = omega arith in
    subst (λ k. IsBlockSoFar body k newlines false) place (subst (IsBlockSoFar body (i + n + 1) newlines) q.no_star more)

passed_one : (p : Placed) (ps : List Placed) (offset total : ℕ) → passed 1 (reader (p ∷ ps) offset total) ≡ reader ps p.end total
passed_one p [] offset total = refl
passed_one p (q ∷ ps) offset total = refl

-- a slash after a star closes it
block_closed : (body : List ℕ) (i newlines : ℕ) → IsBlockSoFar body i newlines true → i < length body → get_or body i 0 ≡ 47 → (line at : ℕ)
    → past_block (joined (left line at body)) ≡ joined (left (line + newlines) (at + i + 1) (drop (i + 1) body))
block_closed body i newlines s l slash line at =
    let rest = drop (i + 1) body in
    let u : IsUtf8 (47 ∷ rest) = subst (λ c. IsUtf8 (c ∷ rest)) slash (utf8_here body i newlines true s l) in
    let p : Straight 47 = straight_parts 47 refl in
    let more = continued (placed_from (line + newlines) (at + i + 1) (pieces (chars rest))) in
    let small : get_or body i 0 < 128 = omega (arith, slash) in
    let no_return : (get_or body i 0 == 13) ≡ false = rw slash refl in
    sym (here body i newlines true s l small no_return line at)
    ∙ ap (λ c. past_block_after true (joined (left (line + newlines) (at + i) (c ∷ rest)))) slash
    ∙ ap (past_block_after true) (joined_first (line + newlines) (at + i) 47 rest p u)
    ∙ passed_one (record { char = 47; line = line + newlines; end = at + i + 1 }) more (at + i) (at + i + 1 + length rest)

-- The mark of a comment, and what stands after it

mark_first : (qs : List Placed) (total at line : ℕ) (s : Cursor)
    → ◌≡◌ {A = Option (ℕ × ℕ)} (Some (13, line)) (first_of qs) → s ≡ after_of qs total
    → spots at qs ≡ record { c = 13; line = line; begin = at; end = at + 1 } ∷ spots s.offset s.rest
mark_first qs total at line s h k = grind arith

module _ (line at : ℕ) (body : List ℕ) where
  more : List Placed
  more = continued (placed_from line (at + 1 + 1) (pieces (chars body)))

  joined_two : (d : ℕ) → Straight d → IsUtf8 (47 ∷ d ∷ body)
      → joined (left line at (47 ∷ d ∷ body))
      ≡ reader (record { char = 47; line = line; end = at + 1 } ∷ record { char = d; line = line; end = at + 1 + 1 } ∷ more) at
      (at + 1 + 1 + length body)
  unfolding more
  joined_two d p u =
      let slash : Straight 47 = straight_parts 47 refl in
      let first : Placed = record { char = 47; line = line; end = at + 1 } in
      let total : at + 1 + length (d ∷ body) ≡ at + 1 + 1 + length body = omega arith in
      let next = joined_first line (at + 1) d body p (utf8_after 47 (d ∷ body) slash.small u) in
      joined_first line at 47 (d ∷ body) slash u ∙ ap (λ (c : Cursor). reader (first ∷ c.rest) at (at + 1 + length (d ∷ body))) next
      ∙ ap (λ n. reader (first ∷ record { char = d; line = line; end = at + 1 + 1 } ∷ more) at n) total

  module _ (later place : ℕ) (rest : List ℕ) where
    line_front : IsUtf8 (47 ∷ 47 ∷ body) → past_line (joined (left line (at + 1 + 1) body)) ≡ joined (left later place rest)
        → spots_from line at (47 ∷ 47 ∷ body) ≡ record { c = 13; line = line; begin = at; end = at + 1 } ∷ spots_from later place rest
    unfolding spots_from more
    line_front u e =
        let total = at + 1 + 1 + length body in
        let p : Placed = record { char = 47; line = line; end = at + 1 } in
        let q : Placed = record { char = 47; line = line; end = at + 1 + 1 } in
        let steps = line_comment_step total (reader (q ∷ more) (at + 1) total) 47 line (reader more (at + 1 + 1) total)
        (past_line (reader more (at + 1 + 1) total)) refl refl (p ∷ q ∷ more) refl refl refl refl in
        ap (λ (c : Cursor). spots at (replaced c.total c.rest)) (joined_two 47 (straight_parts 47 refl) u)
        ∙ mark_first (replaced total (p ∷ q ∷ more)) total at line (uncommented (past_line (reader more (at + 1 + 1) total))) steps.value steps.state
        ∙ ap (λ (c : Cursor). record { c = 13; line = line; begin = at; end = at + 1 } ∷ spots c.offset (replaced c.total c.rest)) e

    block_front : IsUtf8 (47 ∷ 42 ∷ body) → past_block (joined (left line (at + 1 + 1) body)) ≡ joined (left later place rest)
        → spots_from line at (47 ∷ 42 ∷ body) ≡ record { c = 13; line = line; begin = at; end = at + 1 } ∷ spots_from later place rest
    unfolding spots_from more
    block_front u e =
        let total = at + 1 + 1 + length body in
        let p : Placed = record { char = 47; line = line; end = at + 1 } in
        let q : Placed = record { char = 42; line = line; end = at + 1 + 1 } in
        let steps = block_comment_step total (reader (q ∷ more) (at + 1) total) 47 line (reader more (at + 1 + 1) total)
        (past_block (reader more (at + 1 + 1) total)) refl refl (p ∷ q ∷ more) refl refl refl refl in
        ap (λ (c : Cursor). spots at (replaced c.total c.rest)) (joined_two 42 (straight_parts 42 refl) u)
        ∙ mark_first (replaced total (p ∷ q ∷ more)) total at line (uncommented (past_block (reader more (at + 1 + 1) total))) steps.value steps.state
        ∙ ap (λ (c : Cursor). record { c = 13; line = line; begin = at; end = at + 1 } ∷ spots c.offset (replaced c.total c.rest)) e

-- Both kinds, by their bytes

two_first : (text : List ℕ) (d : ℕ) → 1 < length text → get_or text 0 0 ≡ 47 → get_or text 1 0 ≡ d → text ≡ 47 ∷ d ∷ drop 2 text
two_first text d h k e = grind arith

utf8_body : (text : List ℕ) (d : ℕ) → Straight d → IsUtf8 text → text ≡ 47 ∷ d ∷ drop 2 text → IsUtf8 (drop 2 text)
utf8_body text d p u two =
    utf8_after d (drop 2 text) p.small (utf8_after 47 (d ∷ drop 2 text) (omega arith) (subst IsUtf8 two u))

pub block_start : (text : List ℕ) → IsUtf8 text → 1 < length text → get_or text 0 0 ≡ 47 → get_or text 1 0 ≡ 42 → IsBlockSoFar (drop 2 text) 0 0 false
block_start text u some e f = block_begun (drop 2 text) (utf8_body text 42 (straight_parts 42 refl) u (two_first text 42 some e f))

pub plain_line : (text : List ℕ) (n : ℕ) → IsUtf8 text → 1 < length text → get_or text 0 0 ≡ 47 → get_or text 1 0 ≡ 47 → n ≤ length (drop 2 text)
    → list_all goes_on (take n (drop 2 text)) ≡ true → (n < length (drop 2 text) → goes_on (get_or (drop 2 text) n 0) ≡ false)
    → (n + 2 < length text → is_line_break (get_or text (n + 2) 0) ≡ true)
    → IsPlainComment text (record { taken = n + 2; newlines = 0 })
plain_line text n u some e f le passes stop ends =
    let two = two_first text 47 some e f in
    let body = drop 2 text in
    let size : length body + 2 ≡ length text = omega (arith, length-drop 2 text) in
    let order : 2 + n ≡ n + 2 = omega arith in
    let rest : drop n body ≡ drop (n + 2) text = drop-drop n 2 text ∙ ap (λ k. drop k text) order in
    let u' : IsUtf8 body = utf8_body text 47 (straight_parts 47 refl) u two in
    let cut : IsCharBoundary body n = cut_before_line_end n body le stop in
    let ended_text : IsUtf8 (drop n body) = IsUtf8-drop body n u' cut in
    let stops : 0 < length (drop n body) → is_line_break (get_or (drop n body) 0 0) ≡ true =
    λ l. ap is_line_break (ap (λ t. get_or t 0 0) rest ∙ get_or-drop (n + 2) text) ∙ ends (omega (arith, length-drop n body, size)) in
    let within : n + 2 ≤ length text = omega (arith, size) in
    record {
      within = within;
      cut = IsCharBoundary-from_drop text (n + 2) within (subst IsUtf8 rest ended_text);
      lines = omega arith;
      front = λ line at.
          let start = joined (left line (at + 1 + 1) body) in
          let later = joined (left line (at + 1 + 1 + n) (drop n body)) in
          let place : at + 1 + 1 + n ≡ at + (n + 2) = omega arith in
          let passed_by : past_line later ≡ past_line start =
          line_passed start later line (at + 1 + 1) n body (drop n body) u' cut passes refl refl refl in
          let ended : past_line later ≡ later = line_ended line (at + 1 + 1 + n) (drop n body) ended_text stops in
          let there : later ≡ joined (left (line + 0) (at + (n + 2)) (drop (n + 2) text)) = rw (rest, place, add-zero line) refl in
          ap (spots_from line at) two
          ∙ line_front line at body (line + 0) (at + (n + 2)) (drop (n + 2) text) (subst IsUtf8 two u) (sym passed_by ∙ ended ∙ there);
    }

pub plain_block : (text : List ℕ) (i newlines : ℕ) → IsUtf8 text → 1 < length text → get_or text 0 0 ≡ 47 → get_or text 1 0 ≡ 42
    → IsBlockSoFar (drop 2 text) i newlines true → i < length (drop 2 text) → get_or (drop 2 text) i 0 ≡ 47
    → IsPlainComment text (record { taken = i + 3; newlines = newlines })
plain_block text i newlines u some e f s l slash =
    let two = two_first text 42 some e f in
    let body = drop 2 text in
    let size : length body + 2 ≡ length text = omega (arith, length-drop 2 text) in
    let order : 2 + (i + 1) ≡ i + 3 = omega arith in
    let rest : drop (i + 1) body ≡ drop (i + 3) text = drop-drop (i + 1) 2 text ∙ ap (λ k. drop k text) order in
    let within : i + 3 ≤ length text = omega (arith, size) in
    let u' : IsUtf8 (47 ∷ drop (i + 1) body) = subst (λ c. IsUtf8 (c ∷ drop (i + 1) body)) slash (utf8_here body i newlines true s l) in
    let ended_text : IsUtf8 (drop (i + 1) body) = utf8_after 47 (drop (i + 1) body) (omega arith) u' in
    record {
      within = within;
      cut = IsCharBoundary-from_drop text (i + 3) within (subst IsUtf8 rest ended_text);
      lines = omega (arith, s.lines);
      front = λ line at.
          let place : at + 1 + 1 + i + 1 ≡ at + (i + 3) = omega arith in
          let there : joined (left (line + newlines) (at + 1 + 1 + i + 1) (drop (i + 1) body)) ≡ joined
          (left (line + newlines) (at + (i + 3)) (drop (i + 3) text)) = rw (rest, place) refl in
          ap (spots_from line at) two
          ∙ block_front line at body (line + newlines) (at + (i + 3)) (drop (i + 3) text) (subst IsUtf8 two u)
          (block_closed body i newlines s l slash line (at + 1 + 1) ∙ there);
    }
