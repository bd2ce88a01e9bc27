-- Lines by their pieces, and the first piece of a text by its first characters.
use Rattle.std.proofs.Common.{◌≡◌, ◌≢◌, ◌++◌, ◌∷◌, ◌+◌, ◌-◌, [], ℕ, List, length, sym, ◌∙◌, ap, Bool, true, false, refl, arith, length-append, map, sum_by, count_by, if◌then◌else◌, cond, ◌==◌, slice_get, Some, inl, inr}
use Rattle.std.specs.Char.{len_utf8}
use Rattle.std.specs.Str.{chars, IsUtf8}
use Rattle.std.proofs.lemmas.List.Sums.{sum_by-cons}
use Rattle.std.proofs.lemmas.Str.{chars_past_char, length-encode, chars-nil}
use Rattle.pp_lexer.specs.Lines.{is_line_break, is_pair, Piece, pieces, placed, lines}
use Rattle.pp_lexer.specs.inner.Lines.{newline_piece, is_newline_piece}
use Rattle.pp_lexer.specs.inner.Readers.{placed_from, IsFirstPiece, IsAtEnd, IsSkipped}
use Rattle.pp_lexer.specs.Surroundings.{surrounded_from}
use lib.Utf8.{encode}

pub at_end : (text : List ℕ) → length text ≡ 0 → IsAtEnd text
at_end [] e = record { is_empty = refl; no_pieces = rw chars-nil refl }
at_end (c ∷ cs) e = absurd (omega arith)

pieces_plain : (c : ℕ) (cs : List ℕ) → (c == 10) ≡ false → (c == 13) ≡ false → pieces (c ∷ cs) ≡ record { char = c; bytes = len_utf8 c } ∷ pieces cs
pieces_plain c [] a b = rw (a, b) refl
pieces_plain c (d ∷ cs) a b = rw (a, b) refl

pieces_single : (c : ℕ) (cs : List ℕ) → is_line_break c ≡ true → ((d : ℕ) → slice_get cs 0 ≡ Some d → is_pair c d ≡ false)
    → pieces (c ∷ cs) ≡ newline_piece 1 ∷ pieces cs
pieces_single c [] a b = rw a refl
pieces_single c (d ∷ cs) a b = rw (b d refl, a) refl

pieces_pair : (c d : ℕ) (cs : List ℕ) → is_pair c d ≡ true → pieces (c ∷ d ∷ cs) ≡ newline_piece 2 ∷ pieces cs
pieces_pair c d cs a = rw a refl

tested : (c k : ℕ) → c ≢ k → (c == k) ≡ false
tested c k h = grind arith

taken : (text rest : List ℕ) (c : ℕ) → text ≡ encode c ++ rest → length text ≡ len_utf8 c + length rest
taken text rest c e = rw e (length-append (encode c) rest ∙ ap (λ n. n + length rest) (length-encode c))

chars_of : (text rest : List ℕ) (c : ℕ) → IsUtf8 text → text ≡ encode c ++ rest → chars text ≡ c ∷ chars rest
chars_of text rest c u e = chars_past_char text rest c u e

pub first_plain : (text rest : List ℕ) (c : ℕ) → IsUtf8 text → text ≡ encode c ++ rest → c ≢ 10 → c ≢ 13 → IsFirstPiece text c rest
first_plain text rest c u e a b = grind (arith, taken, chars_of, pieces_plain, tested)

-- a newline alone, or a pair
module _ (text mid rest : List ℕ) (c d : ℕ) (u : IsUtf8 text) (v : IsUtf8 mid) (e : text ≡ encode c ++ mid)
    (small : len_utf8 c ≡ 1) (small' : len_utf8 d ≡ 1) (new : is_line_break c ≡ true) (pair : is_pair c d ≡ true)
    (only : (k : ℕ) → k ≢ d → is_pair c k ≡ false) where
  pub first_newline : IsSkipped mid d rest → IsFirstPiece text 10 rest
  first_newline (inl f) =
      let n : length text - length rest ≡ 2 = omega (arith, taken text mid c e, taken mid rest d f) in
      record {
        room = omega (arith, taken text mid c e, taken mid rest d f);
        pieces_are = rw (n, chars_of text mid c u e, chars_of mid rest d v f) (pieces_pair c d (chars rest) pair);
      }
  first_newline (inr f) = grind (arith, taken, chars_of, pieces_single)

lf_only : (k : ℕ) → k ≢ 13 → is_pair 10 k ≡ false
lf_only k h = rw (tested k 13 h) refl

cr_only : (k : ℕ) → k ≢ 10 → is_pair 13 k ≡ false
cr_only k h = rw (tested k 10 h) refl

pub first_line_feed : (text mid rest : List ℕ) → IsUtf8 text → IsUtf8 mid → text ≡ encode 10 ++ mid → IsSkipped mid 13 rest → IsFirstPiece text 10 rest
first_line_feed text mid rest u v e = first_newline text mid rest 10 13 u v e refl refl refl refl lf_only

pub first_return : (text mid rest : List ℕ) → IsUtf8 text → IsUtf8 mid → text ≡ encode 13 ++ mid → IsSkipped mid 10 rest → IsFirstPiece text 10 rest
first_return text mid rest u v e = first_newline text mid rest 13 10 u v e refl refl refl refl cr_only

-- a line by what stands before it, and by a count that goes along
line_after : (b : Bool) (line breaks : ℕ) → line ≡ breaks + 1 → (if b then line + 1 else line) ≡ cond b 1 0 + breaks + 1
line_after true line breaks e = omega arith
line_after false line breaks e = omega arith

placed_from_after : (before ps : List Piece) (line at : ℕ) → line ≡ count_by is_newline_piece before + 1 → at ≡ sum_by (λ p. p.bytes) before
    → map placed (surrounded_from before ps) ≡ placed_from line at ps
placed_from_after before [] line at e f = refl
placed_from_after before (p ∷ ps) line at e f =
    let breaks : count_by is_newline_piece (p ∷ before) ≡ cond (is_newline_piece p) 1 0 + count_by is_newline_piece before = sum_by-cons _ p before in
    let bytes : sum_by (λ p. p.bytes) (p ∷ before) ≡ p.bytes + sum_by (λ p. p.bytes) before = sum_by-cons _ p before in
    let g : (if is_newline_piece p then line + 1 else line) ≡ count_by is_newline_piece (p ∷ before) + 1 =
    line_after (is_newline_piece p) line _ e ∙ ap (λ n. n + 1) (sym breaks) in
    let h : at + p.bytes ≡ sum_by (λ p. p.bytes) (p ∷ before) = omega (arith, f, bytes) in
    let tail : map placed (surrounded_from (p ∷ before) ps) ≡ placed_from (if is_newline_piece p then line + 1 else line) (at + p.bytes) ps =
    placed_from_after (p ∷ before) ps _ _ g h in
    cc (e, f, tail)

pub lines_are : (cs : List ℕ) → lines cs ≡ placed_from 1 0 (pieces cs)
unfolding lines
lines_are cs = placed_from_after [] (pieces cs) 1 0 refl refl
