-- How many characters each phase has, and where the last of them ends; lines and newlines.
use Rattle.std.proofs.Common.{◌≡◌, ◌≤◌, ◌++◌, ◌∷◌, ◌+◌, [], ℕ, zero, suc, List, length, sym, ◌∙◌, ap, Bool, true, false, refl, arith, ◌&&◌, true≢false, take, slice_get, Some, sum_by, count_by, cond, if◌then◌else◌, ◌<◌}
use Rattle.std.specs.Str.{chars, IsUtf8}
use Rattle.std.proofs.lemmas.Option.{slice_get_within}
use Rattle.std.proofs.lemmas.List.Sums.{sum_by-cons, sum_by-append}
use Rattle.pp_lexer.specs.Cursor.{Placed, last_end}
use Rattle.pp_lexer.specs.Lines.{is_line_break, is_pair, Piece, pieces, is_newline, lines}
use Rattle.pp_lexer.specs.inner.Lines.{newline_piece, is_newline_piece}
use Rattle.pp_lexer.specs.Continuations.{is_backslash, is_continuation, continued}
use Rattle.pp_lexer.specs.inner.Readers.{placed_from}
use Rattle.pp_lexer.specs.PhaseLaws.{lines_of, continued_of, replaced_of, ends_in_break, ends_in_continuation}
use Rattle.pp_lexer.proofs.characters.LinesLemmas.{lines_are}
use Rattle.pp_lexer.proofs.characters.PiecesLemmas.{length-pieces-source, bytes_of_source}
use Rattle.pp_lexer.proofs.characters.ContinuationsLemmas.{continued_from, continued-stays, continued-leaves, continued-nil, continued-plain, continued-backslash, continued-gone}
use Rattle.pp_lexer.proofs.characters.ReplacedLemmas.{length-replaced}

-- how many

pub length-placed_from : (line at : ℕ) (ps : List Piece) → length (placed_from line at ps) ≡ length ps
length-placed_from line at [] = refl
length-placed_from line at (p ∷ ps) = ap suc (length-placed_from (if is_newline_piece p then line + 1 else line) (at + p.bytes) ps)

pub length-lines : (source : List ℕ) → IsUtf8 source → length (lines_of source) ≤ length source
length-lines source u = rw (lines_are (chars source), length-placed_from 1 0 (pieces (chars source))) (length-pieces-source source u)

length-continued_from : (before ps : List Placed) → length (continued_from before ps) ≤ length ps
length-continued_from before [] = omega arith
length-continued_from before (p ∷ ps) = by_test (is_continuation (record { before = before; here = p; after = ps })) refl
    (length-continued_from (p ∷ before) ps)
  where
    by_test : (b : Bool) → is_continuation (record { before = before; here = p; after = ps }) ≡ b
        → length (continued_from (p ∷ before) ps) ≤ length ps → length (continued_from before (p ∷ ps)) ≤ length (p ∷ ps)
    by_test true e k = rw (continued-leaves before p ps e) (omega arith)
    by_test false e k = rw (continued-stays before p ps e) (omega arith)

pub length-continued : (ps : List Placed) → length (continued ps) ≤ length ps
unfolding continued
length-continued ps = length-continued_from [] ps

-- no more characters than bytes
pub length-replaced_of : (source : List ℕ) → IsUtf8 source → length (replaced_of source) ≤ length source
length-replaced_of source u =
    omega (arith, length-replaced (length source) (continued_of source), length-continued (lines_of source), length-lines source u)

-- where the last one ends

last_end-placed_from : (line at : ℕ) (ps : List Piece) → last_end at (placed_from line at ps) ≡ at + sum_by (λ p. p.bytes) ps
last_end-placed_from line at [] = omega arith
last_end-placed_from line at (p ∷ ps) =
    last_end-placed_from (if is_newline_piece p then line + 1 else line) (at + p.bytes) ps ∙ omega (arith, sum_by-cons (λ (p : Piece). p.bytes) p ps)

pub last_end-lines : (source : List ℕ) → IsUtf8 source → last_end 0 (lines_of source) ≡ length source
last_end-lines source u =
    ap (last_end 0) (lines_are (chars source)) ∙ (last_end-placed_from 1 0 (pieces (chars source)) ∙ omega (arith, bytes_of_source source u))

ends-tail : (p : Placed) (ps : List Placed) → ends_in_continuation (p ∷ ps) ≡ false → ends_in_continuation ps ≡ false
ends-tail p ps h = grind arith

gone_end : (at : ℕ) (p q : Placed) (ps : List Placed) → is_backslash p ≡ true → is_newline q ≡ true → ends_in_continuation (p ∷ q ∷ ps) ≡ false
    → last_end at (continued ps) ≡ last_end at ps → last_end at (continued ps) ≡ last_end q.end ps
gone_end at p q [] e f g h = absurd (true≢false (sym (ap (λ t. t && is_newline q) e ∙ f) ∙ g))
gone_end at p q (r ∷ ps) e f g h = h

pub last_end-continued : (at : ℕ) (ps : List Placed) → ends_in_continuation ps ≡ false → last_end at (continued ps) ≡ last_end at ps
last_end-continued at [] e = rw continued-nil refl
last_end-continued at (p ∷ []) e = rw (continued-backslash p [] refl, continued-nil) refl
last_end-continued at (p ∷ q ∷ ps) e =
    by_newline (is_newline q) refl (last_end-continued p.end (q ∷ ps) (ends-tail p (q ∷ ps) e))
    (last_end-continued at ps (ends-tail q ps (ends-tail p (q ∷ ps) e)))
  where
    by_backslash : (b : Bool) → is_backslash p ≡ b → is_newline q ≡ true → last_end p.end (continued (q ∷ ps)) ≡ last_end q.end ps
        → last_end at (continued ps) ≡ last_end at ps → last_end at (continued (p ∷ q ∷ ps)) ≡ last_end q.end ps
    by_backslash true g f h k = rw (continued-gone p q ps g f) (gone_end at p q ps g f e k)
    by_backslash false g f h k = rw (continued-plain p (q ∷ ps) g) h

    by_newline : (b : Bool) → is_newline q ≡ b → last_end p.end (continued (q ∷ ps)) ≡ last_end q.end ps
        → last_end at (continued ps) ≡ last_end at ps → last_end at (continued (p ∷ q ∷ ps)) ≡ last_end q.end ps
    by_newline true f h k = by_backslash (is_backslash p) refl f h k
    by_newline false f h k = rw (continued-backslash p (q ∷ ps) f) h

-- lines and newlines

one_line_on : (b : Bool) (line before : ℕ) → (if b then line + 1 else line) + before ≡ line + (cond b 1 0 + before)
one_line_on true line before = omega arith
one_line_on false line before = omega arith

placed_from-counts : (line at n : ℕ) (ps : List Piece) (p : Placed) → slice_get (placed_from line at ps) n ≡ Some p
    → p.line ≡ line + count_by is_newline (take n (placed_from line at ps))
placed_from-counts line at n [] p e = let within : n < 0 = slice_get_within [] n p e in absurd (omega arith)
placed_from-counts line at zero (q ∷ ps) p e = grind arith
placed_from-counts line at (suc n) (q ∷ ps) p e =
    let next : ℕ = if is_newline_piece q then line + 1 else line in
    let here : Placed = record { char = q.char; line = line; end = at + q.bytes } in
    placed_from-counts next (at + q.bytes) n ps p e
    ∙ (one_line_on (is_newline_piece q) line _
    ∙ ap (λ n. line + n) (sym (sum_by-cons (λ (x : Placed). cond (is_newline x) 1 0) here (take n (placed_from next (at + q.bytes) ps)))))

pub lines-count : (cs : List ℕ) (n : ℕ) (p : Placed) → slice_get (lines cs) n ≡ Some p → p.line ≡ count_by is_newline (take n (lines cs)) + 1
lines-count cs n p e =
    let f : slice_get (placed_from 1 0 (pieces cs)) n ≡ Some p = rw (lines_are cs) at e in
    rw (lines_are cs) (omega (arith, placed_from-counts 1 0 n (pieces cs) p f))

newlines-placed_from : (line at : ℕ) (ps : List Piece) → count_by is_newline (placed_from line at ps) ≡ count_by is_newline_piece ps
newlines-placed_from line at [] = refl
newlines-placed_from line at (p ∷ ps) =
    let next : ℕ = if is_newline_piece p then line + 1 else line in
    let here : Placed = record { char = p.char; line = line; end = at + p.bytes } in
    sum_by-cons (λ (x : Placed). cond (is_newline x) 1 0) here (placed_from next (at + p.bytes) ps)
    ∙ (ap (λ n. cond (is_newline_piece p) 1 0 + n) (newlines-placed_from next (at + p.bytes) ps)
    ∙ sym (sum_by-cons (λ (x : Piece). cond (is_newline_piece x) 1 0) p ps))

newlines-lines : (cs : List ℕ) → count_by is_newline (lines cs) ≡ count_by is_newline_piece (pieces cs)
newlines-lines cs = ap (count_by is_newline) (lines_are cs) ∙ newlines-placed_from 1 0 (pieces cs)

no_pair : (a c : ℕ) → is_line_break a ≡ false → is_pair a c ≡ false
no_pair a c e = grind arith

ends_after : (a b : ℕ) (front : List ℕ) → ends_in_break (a ∷ b ∷ front) ≡ false → ends_in_break front ≡ false
ends_after a b [] e = refl
ends_after a b (c ∷ front) e = e

-- a pair that no line break stands before, among the pieces
pieces_around : (front back : List ℕ) (c d : ℕ) → ends_in_break front ≡ false → is_pair c d ≡ true
    → pieces (front ++ (c ∷ d ∷ back)) ≡ pieces front ++ (newline_piece 2 ∷ pieces back)
pieces_around [] back c d e f = rw f refl
pieces_around (a ∷ []) back c d e f = rw (no_pair a c e, f) refl
pieces_around (a ∷ b ∷ front) back c d e f =
    grind (arith, pieces_around front back c d (ends_after a b front e) f, pieces_around (b ∷ front) back c d e f)

pub pair-counts-once : (front back : List ℕ) (c d : ℕ) → ends_in_break front ≡ false → is_pair c d ≡ true
    → count_by is_newline (lines (front ++ (c ∷ d ∷ back))) ≡ count_by is_newline (lines front) + 1 + count_by is_newline (lines back)
pair-counts-once front back c d e f =
    let whole : count_by is_newline (lines (front ++ (c ∷ d ∷ back))) ≡ count_by is_newline_piece (pieces front ++ (newline_piece 2 ∷ pieces back)) =
    newlines-lines (front ++ (c ∷ d ∷ back)) ∙ ap (count_by is_newline_piece) (pieces_around front back c d e f) in
    omega (
      arith,
      whole,
      newlines-lines front,
      newlines-lines back,
      sum_by-append (λ (x : Piece). cond (is_newline_piece x) 1 0) (pieces front) (newline_piece 2 ∷ pieces back),
      sum_by-cons (λ (x : Piece). cond (is_newline_piece x) 1 0) (newline_piece 2) (pieces back),
    )
