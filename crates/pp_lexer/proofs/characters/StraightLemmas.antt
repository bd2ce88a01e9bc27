-- A front of a comment's rest whose characters no phase changes.
use Rattle.std.proofs.Common.{◌≡◌, ℕ, zero, suc, ◌+◌, ◌<◌, ◌≤◌, List, [], ◌∷◌, ◌++◌, length, take, drop, get_or, Bool, true, false, ◌==◌, refl, sym, ◌∙◌, ap, subst, arith, ◌&&◌, append_assoc, length-append}
use Rattle.std.specs.List.{list_all}
use Rattle.std.specs.Char.{len_utf8}
use Rattle.std.specs.Str.{chars, IsUtf8, IsCharBoundary}
use Rattle.std.proofs.lemmas.Bool.{and_parts, ne_eqb}
use Rattle.std.proofs.lemmas.List.{length-take-le}
use Rattle.std.proofs.lemmas.List.Folds.{list_all-append, list_all_more}
use Rattle.std.proofs.lemmas.Str.{IsUtf8-take, IsUtf8-past_char, chars_past_char, encode_ascii, len_utf8_ascii, length-encode}
use Rattle.std.proofs.Math.Utf8.{encode, encodes}
use Rattle.memchr.specs.Find.{Nowhere, Passes, is_byte3}
use Rattle.pp_lexer.specs.Comments.{is_star}
use Rattle.pp_lexer.specs.Continuations.{continued}
use Rattle.pp_lexer.specs.Cursor.{Placed, Cursor}
use Rattle.pp_lexer.specs.inner.Fronts.{left, goes_on, is_straight, is_starless}
use Rattle.pp_lexer.specs.Lines.{is_newline, pieces}
use Rattle.pp_lexer.specs.inner.Readers.{placed_from, joined, past_line, past_block}
use Rattle.pp_lexer.proofs.characters.CommentsLemmas.{block_goes_on}
use Rattle.pp_lexer.proofs.characters.ContinuationsLemmas.{continued-plain}
use Rattle.pp_lexer.proofs.characters.FrontsLemmas.{pieces_plain}
use Rattle.pp_lexer.proofs.characters.PlainFrontsLemmas.{split_at}

pub record Straight (c : ℕ) : Type 0 where
  pub small : c < 128
  pub no_feed : (c == 10) ≡ false
  pub no_return : (c == 13) ≡ false
  pub no_backslash : (c == 92) ≡ false

pub straight_parts : (c : ℕ) → is_straight c ≡ true → Straight c
straight_parts c h = grind arith

abbrev pub reader : List Placed → ℕ → ℕ → Cursor
reader rest offset total = record { rest = rest; offset = offset; total = total }

-- a character that is no newline and no backslash
pub record Kept (c : ℕ) : Type 0 where
  pub no_feed : (c == 10) ≡ false
  pub no_return : (c == 13) ≡ false
  pub no_backslash : (c == 92) ≡ false

-- it is read as it is
joined_char : (line at c : ℕ) (text : List ℕ) → Kept c → IsUtf8 (encode c ++ text)
    → joined (left line at (encode c ++ text))
    ≡ reader (record { char = c; line = line; end = at + len_utf8 c } ∷ continued (placed_from line (at + len_utf8 c) (pieces (chars text)))) at
    (at + len_utf8 c + length text)
joined_char line at c text p u = grind (arith, chars_past_char, pieces_plain, length-append, length-encode, continued-plain)

kept : (c : ℕ) → Straight c → Kept c
kept c p = record { no_feed = p.no_feed; no_return = p.no_return; no_backslash = p.no_backslash }

-- an ASCII character
pub joined_first : (line at c : ℕ) (text : List ℕ) → Straight c → IsUtf8 (c ∷ text)
    → joined (left line at (c ∷ text))
    ≡ reader (record { char = c; line = line; end = at + 1 } ∷ continued (placed_from line (at + 1) (pieces (chars text)))) at (at + 1 + length text)
joined_first line at c text p u =
    let e : encode c ++ text ≡ c ∷ text = ap (λ bs. bs ++ text) (encode_ascii c p.small) in
    ap (λ t. joined (left line at t)) (sym e) ∙ joined_char line at c text (kept c p) (subst IsUtf8 (sym e) u)
    ∙ ap (λ n. reader (record { char = c; line = line; end = at + n } ∷ continued (placed_from line (at + n) (pieces (chars text)))) at (at + n + length text))
    (len_utf8_ascii c p.small)

-- what holds of a reader and itself, and of a reader and a later one if it does from after the first character on, holds across a run of such characters
module _ (passes : ℕ → Bool) (passes_kept : (c : ℕ) → passes c ≡ true → Kept c) (Before : Cursor → Cursor → Type 0) (same : (c : Cursor) → Before c c)
    (step : (p : Placed) (ps : List Placed) (offset total : ℕ) (d : Cursor) → passes p.char ≡ true → Before (reader ps p.end total) d
    → Before (reader (p ∷ ps) offset total) d) where
  before_run : (line at : ℕ) (cs text : List ℕ) → list_all passes cs ≡ true → IsUtf8 (encodes cs ++ text)
      → Before (joined (left line at (encodes cs ++ text))) (joined (left line (at + length (encodes cs)) text))
  before_run line at [] text h u = grind arith
  before_run line at (c ∷ cs) text h u =
      let b = and_parts (passes c) (list_all passes cs) h in
      let more = encodes cs ++ text in
      let whole : encodes (c ∷ cs) ++ text ≡ encode c ++ more = append_assoc (encode c) (encodes cs) text in
      let v : IsUtf8 (encode c ++ more) = subst IsUtf8 whole u in
      let n : at + len_utf8 c + length (encodes cs) ≡ at + length (encodes (c ∷ cs)) =
      omega (arith, length-append (encode c) (encodes cs), length-encode c) in
      let later = joined (left line (at + length (encodes (c ∷ cs))) text) in
      let after_first : Before (joined (left line (at + len_utf8 c) more)) later =
      subst (λ k. Before (joined (left line (at + len_utf8 c) more)) (joined (left line k text))) n
      (before_run line (at + len_utf8 c) cs text b.1 (IsUtf8-past_char (encode c ++ more) more c v refl)) in
      subst (λ t. Before (joined (left line at t)) later) (sym whole)
      (subst (λ r. Before r later) (sym (joined_char line at c more (passes_kept c b.0) v))
      (step (record { char = c; line = line; end = at + len_utf8 c }) (continued (placed_from line (at + len_utf8 c) (pieces (chars more)))) at
      (at + len_utf8 c + length more) later b.0 after_first))

  pub run_passed : (old new : Cursor) (line at n : ℕ) (cs text rest : List ℕ) → IsUtf8 text → n ≤ length text → encodes cs ≡ take n text
      → list_all passes cs ≡ true → old ≡ joined (left line at text) → rest ≡ drop n text → new ≡ joined (left line (at + n) rest) → Before old new
  run_passed old new line at n cs text rest u le w h e g k =
      let whole : text ≡ encodes cs ++ drop n text = split_at n text ∙ ap (λ bs. bs ++ drop n text) (sym w) in
      let size : length (encodes cs) ≡ n = ap length w ∙ length-take-le n text le in
      let there : joined (left line (at + length (encodes cs)) (drop n text)) ≡ new =
      ap (λ m. joined (left line (at + m) (drop n text))) size ∙ ap (λ t. joined (left line (at + n) t)) (sym g) ∙ sym k in
      let here : joined (left line at (encodes cs ++ drop n text)) ≡ old = ap (λ t. joined (left line at t)) (sym whole) ∙ sym e in
      subst (λ d. Before old d) there (subst (λ c. Before c (joined (left line (at + length (encodes cs)) (drop n text)))) here
      (before_run line at cs (drop n text) h (subst IsUtf8 whole u)))

-- Runs of bytes among which are all of each longer character

module _ (passes : ℕ → Bool) (passes_large : (c : ℕ) → 128 ≤ c → passes c ≡ true) where
  -- the characters of such bytes are such
  passing_chars : (cs : List ℕ) → list_all passes (encodes cs) ≡ true → list_all passes cs ≡ true
  passing_chars [] h = refl
  passing_chars (c ∷ cs) h =
      let b = and_parts (list_all passes (encode c)) (list_all passes (encodes cs)) (sym (list_all-append passes (encode c) (encodes cs)) ∙ h) in
      ap (λ t. t && list_all passes cs) (first b.0) ∙ passing_chars cs b.1
    where
      first : list_all passes (encode c) ≡ true → passes c ≡ true
      first k = grind (arith, encode_ascii, passes_large)

  -- such bytes end at the end of a character
  pub cut_after_run : (n : ℕ) (text : List ℕ) → n ≤ length text → (n < length text → passes (get_or text n 0) ≡ false) → IsCharBoundary text n
  cut_after_run n text le stops = grind (arith, passes_large)

large_kept : (c : ℕ) → 128 ≤ c → goes_on c ≡ true
large_kept c h = rw (ne_eqb c 10 (λ k. omega arith), ne_eqb c 13 (λ k. omega arith), ne_eqb c 92 (λ k. omega arith)) refl

-- A front of a line comment's rest

kept_parts : (c : ℕ) → goes_on c ≡ true → Kept c
kept_parts c h = grind arith

pub cut_before_line_end : (n : ℕ) (text : List ℕ) → n ≤ length text → (n < length text → goes_on (get_or text n 0) ≡ false) → IsCharBoundary text n
cut_before_line_end = cut_after_run goes_on large_kept

ends_no_line : (c : ℕ) → ¬ (is_byte3 10 13 92 c ≡ true) → goes_on c ≡ true
ends_no_line c h = grind arith

-- the bytes before the first newline or backslash
pub before_line_end : (n : ℕ) (bytes : List ℕ) → n ≤ length bytes → Nowhere (Passes (is_byte3 10 13 92) bytes) 0 n → list_all goes_on (take n bytes) ≡ true
before_line_end zero bytes le none = refl
before_line_end (suc n) bytes le none =
    let here : goes_on (get_or bytes n 0) ≡ true = ends_no_line (get_or bytes n 0) (none n (omega arith) (omega arith)) in
    let earlier : list_all goes_on (take n bytes) ≡ true = before_line_end n bytes (omega arith) (λ k l h. none k l (omega arith)) in
    let more : suc n ≡ n + 1 = omega arith in
    ap (λ m. list_all goes_on (take m bytes)) more ∙ list_all_more goes_on bytes n 0 (omega arith) ∙ rw (earlier, here) refl

past_step : (p : Placed) (ps : List Placed) (offset total : ℕ) → is_newline p ≡ false → past_line (reader (p ∷ ps) offset total) ≡ past_line (reader ps p.end total)
past_step p ps offset total h = rw h refl

-- the reader after such a front ends the line at the same place
pub line_passed : (old new : Cursor) (line at n : ℕ) (text rest : List ℕ) → IsUtf8 text → IsCharBoundary text n → list_all goes_on (take n text) ≡ true
    → old ≡ joined (left line at text) → rest ≡ drop n text → new ≡ joined (left line (at + n) rest) → past_line new ≡ past_line old
line_passed old new line at n text rest u cut h =
    let front = IsUtf8-take text n u cut in
    run_passed goes_on kept_parts (λ c d. past_line d ≡ past_line c) (λ c. refl)
    (λ p ps offset total d h e. e ∙ sym (past_step p ps offset total (kept_parts p.char h).no_feed)) old new line at n front.0 text rest u cut.0
    front.1.1 (passing_chars goes_on large_kept front.0 (ap (list_all goes_on) front.1.1 ∙ h))

-- A front of a block comment's rest

pub record Starless (c : ℕ) : Type 0 where
  pub kept : Kept c
  pub no_star : (c == 42) ≡ false

pub starless_parts : (c : ℕ) → is_starless c ≡ true → Starless c
starless_parts c h = grind arith

starless_kept : (c : ℕ) → is_starless c ≡ true → Kept c
starless_kept c h = (starless_parts c h).kept

large_starless : (c : ℕ) → 128 ≤ c → is_starless c ≡ true
large_starless c h =
    rw (ne_eqb c 10 (λ k. omega arith), ne_eqb c 13 (λ k. omega arith), ne_eqb c 92 (λ k. omega arith), ne_eqb c 42 (λ k. omega arith)) refl

pub cut_after_starless : (n : ℕ) (text : List ℕ) → n ≤ length text → (n < length text → is_starless (get_or text n 0) ≡ false) → IsCharBoundary text n
cut_after_starless = cut_after_run is_starless large_starless

no_star_step : (p : Placed) (ps : List Placed) (offset total : ℕ) → is_star p ≡ false → past_block (reader (p ∷ ps) offset total) ≡ past_block (reader ps p.end total)
no_star_step p ps offset total h = block_goes_on total offset p ps ∙ rw h refl

-- the new reader ends the block comment at the same place, and has no more left
pub record EndsBlockAlike (old new : Cursor) : Type 0 where
  pub state : past_block new ≡ past_block old
  pub shorter : length new.rest ≤ length old.rest

pub starless_passed : (old new : Cursor) (line at n : ℕ) (text rest : List ℕ) → IsUtf8 text → IsCharBoundary text n → list_all is_starless (take n text) ≡ true
    → old ≡ joined (left line at text) → rest ≡ drop n text → new ≡ joined (left line (at + n) rest) → EndsBlockAlike old new
starless_passed old new line at n text rest u cut h =
    let front = IsUtf8-take text n u cut in
    run_passed is_starless starless_kept EndsBlockAlike (λ c. record { state = refl; shorter = omega arith })
    (λ p ps offset total d h e. record {
      state = e.state ∙ sym (no_star_step p ps offset total (starless_parts p.char h).no_star);
      shorter = omega (arith, e.shorter);
    }) old new line at n front.0 text rest u cut.0 front.1.1 (passing_chars is_starless large_starless front.0 (ap (list_all is_starless) front.1.1 ∙ h))
