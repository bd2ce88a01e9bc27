-- A plain front of a text, and what stands after it.
use Rattle.std.proofs.Common.{◌≡◌, ℕ, ◌+◌, ◌<◌, List, [], ◌∷◌, ◌++◌, length, Bool, true, false, ◌==◌, refl, ◌∙◌, ap, arith, ◌⊎◌, inl, inr, ◌≤◌, if◌then◌else◌}
use Rattle.std.specs.List.{list_all}
use Rattle.std.specs.Char.{len_utf8}
use Rattle.std.specs.Str.{chars, IsUtf8}
use Rattle.std.proofs.lemmas.Bool.{and_parts}
use Rattle.std.proofs.lemmas.Str.{chars_past_char, IsUtf8-past_char, encode_ascii, chars-nil}
use Rattle.pp_lexer.specs.Comments.{replaced}
use Rattle.pp_lexer.specs.Continuations.{is_backslash, continued}
use Rattle.pp_lexer.specs.Cursor.{Placed, Cursor}
use Rattle.pp_lexer.specs.Lines.{is_pair, Piece, piece, pieces}
use Rattle.pp_lexer.specs.inner.Lines.{is_newline_piece, newline_piece}
use Rattle.pp_lexer.specs.inner.Readers.{placed_from, joined, uncommented}
use Rattle.pp_lexer.specs.Reading.{letters, spots}
use Rattle.pp_lexer.specs.Surroundings.{begins_with}
use Rattle.pp_lexer.specs.inner.Fronts.{spots_from, left, is_plain, run}
use Rattle.pp_lexer.proofs.characters.CommentsLemmas.{replaced-nil, replaced-plain, no_slash, lone_slash}
use Rattle.pp_lexer.proofs.characters.ContinuationsLemmas.{continued-nil, continued-plain}
use Rattle.pp_lexer.proofs.characters.ReplacedLemmas.{Marks, front, length-replaced}
use Rattle.pp_lexer.proofs.characters.PhaseLemmas.{length-continued, length-placed_from}
use Rattle.pp_lexer.proofs.characters.PiecesLemmas.{length-pieces-source}
use Rattle.pp_lexer.proofs.characters.SpotsLemmas.{length-spots}

-- what a plain character is not
pub record Plain (c : ℕ) : Type 0 where
  pub small : c < 128
  pub no_feed : (c == 10) ≡ false
  pub no_return : (c == 13) ≡ false
  pub no_backslash : (c == 92) ≡ false
  pub no_slash : (c == 47) ≡ false

pub plain_parts : (c : ℕ) → is_plain c ≡ true → Plain c
plain_parts c h = grind arith

pub pieces_plain : (c : ℕ) (cs : List ℕ) → (c == 10) ≡ false → (c == 13) ≡ false → pieces (c ∷ cs) ≡ record { char = c; bytes = len_utf8 c } ∷ pieces cs
pieces_plain c [] a b = rw (a, b) refl
pieces_plain c (d ∷ cs) a b = rw (a, b) refl

-- a text after an ASCII character
pub ascii_chars : (c : ℕ) (text : List ℕ) → c < 128 → IsUtf8 (c ∷ text) → chars (c ∷ text) ≡ c ∷ chars text
ascii_chars c text h u = chars_past_char (c ∷ text) text c u (rw (encode_ascii c h) refl)

-- a plain character at the front
pub plain_first : (line at c : ℕ) (text : List ℕ) → is_plain c ≡ true → IsUtf8 (c ∷ text)
    → spots_from line at (c ∷ text) ≡ record { c = c; line = line; begin = at; end = at + 1 } ∷ spots_from line (at + 1) text
unfolding spots_from
plain_first line at c text h u = grind (arith, plain_parts, ascii_chars, pieces_plain, continued-plain, replaced-plain, no_slash)

pub utf8_after : (c : ℕ) (text : List ℕ) → c < 128 → IsUtf8 (c ∷ text) → IsUtf8 text
utf8_after c text h u = IsUtf8-past_char (c ∷ text) text c u (rw (encode_ascii c h) refl)

-- a plain front
pub plain_front : (line at : ℕ) (w text : List ℕ) → list_all is_plain w ≡ true → IsUtf8 (w ++ text)
    → spots_from line at (w ++ text) ≡ run line at w ++ spots_from line (at + length w) text
plain_front line at [] text h u = ap (λ n. spots_from line n text) (omega arith)
plain_front line at (c ∷ w) text h u =
    let b = and_parts (is_plain c) (list_all is_plain w) h in
    let n : at + 1 + length w ≡ at + length (c ∷ w) = omega arith in
    plain_first line at c (w ++ text) b.0 u
    ∙ ap (λ ss. record { c = c; line = line; begin = at; end = at + 1 } ∷ ss)
    (plain_front line (at + 1) w text b.1 (utf8_after c (w ++ text) (plain_parts c b.0).small u) ∙ ap (λ k. run line (at + 1) w ++ spots_from line k text) n)

pub nothing_left : (line at : ℕ) → spots_from line at [] ≡ []
unfolding spots_from
nothing_left line at = grind (arith, chars-nil, continued-nil, replaced-nil)

-- the first character of a text that begins with an ASCII byte, where that is no backslash: the byte, a newline or a mark
module _ (P : ℕ → Bool) (feed : P 10 ≡ false) (mark : P 13 ≡ false) where
  marked : (total at : ℕ) (p : Placed) (ps : List Placed) → P p.char ≡ false → (replaced total (p ∷ ps) ≡ p ∷ replaced total ps) ⊎ Marks total p ps
      → begins_with P (letters (spots at (replaced total (p ∷ ps)))) ≡ false
  marked total at p ps h (inl e) = rw e h
  marked total at p ps h (inr m) = rw m.is (ap P m.char ∙ mark)

  after_phases : (total at : ℕ) (p : Placed) (ps : List Placed) → is_backslash p ≡ false → P p.char ≡ false
      → begins_with P (letters (spots at (replaced total (continued (p ∷ ps))))) ≡ false
  after_phases total at p ps h k = rw (continued-plain p ps h) (marked total at p (continued ps) k (front total p (continued ps)))

  pub first_is_not : (line at b : ℕ) (text : List ℕ) → b < 128 → (b == 92) ≡ false → P b ≡ false → IsUtf8 (b ∷ text)
      → begins_with P (letters (spots_from line at (b ∷ text))) ≡ false
  unfolding spots_from
  first_is_not line at b text small no_backslash h u = grind (arith, ascii_chars, after_phases)

-- the same before comments are replaced
module _ (P : ℕ → Bool) (feed : P 10 ≡ false) where
  first_joined : (line at : ℕ) (p : Piece) (ps : List Piece) → (p.char == 92) ≡ false → P p.char ≡ false
      → begins_with (λ q. P q.char) (continued (placed_from line at (p ∷ ps))) ≡ false
  first_joined line at p ps e f = rw (continued-plain (record { char = p.char; line = line; end = at + p.bytes })
      (placed_from (if is_newline_piece p then line + 1 else line) (at + p.bytes) ps) e) f

  pub joined_is_not : (line at b : ℕ) (text : List ℕ) → b < 128 → (b == 92) ≡ false → P b ≡ false → IsUtf8 (b ∷ text)
      → begins_with (λ q. P q.char) (continued (placed_from line at (pieces (chars (b ∷ text))))) ≡ false
  joined_is_not line at b text small no_backslash h u = rw (ascii_chars b text small u) (by_pieces (chars text))
    where
      piece_case : (ps : List Piece) → begins_with (λ q. P q.char) (continued (placed_from line at (piece b ∷ ps))) ≡ false
      piece_case ps = grind (arith, first_joined)

      by_pieces : (cs : List ℕ) → begins_with (λ q. P q.char) (continued (placed_from line at (pieces (b ∷ cs)))) ≡ false
      by_pieces [] = piece_case []
      by_pieces (d ∷ cs) = by_pair (is_pair b d) refl
        where
          by_pair : (t : Bool) → is_pair b d ≡ t → begins_with (λ q. P q.char) (continued (placed_from line at (pieces (b ∷ d ∷ cs)))) ≡ false
          by_pair true e = rw e (first_joined line at (newline_piece 2) (pieces cs) refl feed)
          by_pair false e = rw e (piece_case (pieces (d ∷ cs)))

-- a slash with which no comment begins
pub slash_first : (line at : ℕ) (text : List ℕ) → IsUtf8 (47 ∷ text)
    → begins_with (λ q. q.char == 47) (continued (placed_from line (at + 1) (pieces (chars text)))) ≡ false
    → begins_with (λ q. q.char == 42) (continued (placed_from line (at + 1) (pieces (chars text)))) ≡ false
    → spots_from line at (47 ∷ text) ≡ record { c = 47; line = line; begin = at; end = at + 1 } ∷ spots_from line (at + 1) text
unfolding spots_from
slash_first line at text u no_slash no_star = grind (arith, ascii_chars, continued-plain, replaced-plain, lone_slash)

pub nothing_begins : (P : Placed → Bool) (line at : ℕ) → begins_with P (continued (placed_from line at (pieces (chars [])))) ≡ false
nothing_begins P line at = rw (chars-nil, continued-nil) refl

-- what a reader has left
pub left_of : (c : Cursor) (line at : ℕ) (text : List ℕ) → c ≡ uncommented (joined (left line at text)) → spots c.offset c.rest ≡ spots_from line at text
unfolding spots_from
left_of c line at text e = ap (λ r. spots r.offset r.rest) e

-- there are no more characters than bytes
pub length-spots_from : (line at : ℕ) (text : List ℕ) → IsUtf8 text → length (spots_from line at text) ≤ length text
unfolding spots_from
length-spots_from line at text u = grind (arith, length-spots, length-replaced, length-continued, length-placed_from, length-pieces-source)
