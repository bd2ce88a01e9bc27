-- A text without line breaks, backslashes and comments passes the phases as it is.
use Rattle.std.proofs.Common.{◌≡◌, ℕ, ◌+◌, List, [], ◌∷◌, ◌++◌, Bool, true, false, ◌&&◌, ◌||◌, ◌==◌, map, refl, sym, ◌∙◌, ap, subst, if◌then◌else◌, arith}
use Rattle.std.proofs.Math.Bool.{and-false}
use Rattle.std.specs.Char.{len_utf8}
use Rattle.std.specs.Str.{chars, all_scalars, encode_utf8_all}
use Rattle.std.proofs.lemmas.Str.{chars-encodes}
use Rattle.pp_lexer.specs.Cursor.{Placed}
use Rattle.pp_lexer.specs.Lines.{is_line_break, Piece, pieces, lines}
use Rattle.pp_lexer.specs.inner.Lines.{is_newline_piece}
use Rattle.pp_lexer.specs.Continuations.{continued}
use Rattle.pp_lexer.specs.Comments.{comment_length, replaced}
use Rattle.pp_lexer.specs.inner.Readers.{placed_from}
use Rattle.pp_lexer.specs.Reading.{letters, spots}
use Rattle.pp_lexer.specs.Surroundings.{begins_with}
use Rattle.pp_lexer.specs.Spots.{spots_of}
use Rattle.pp_lexer.proofs.characters.CommentsLemmas.{replaced-nil, replaced-plain}
use Rattle.pp_lexer.proofs.characters.ContinuationsLemmas.{continued-nil, continued-plain}
use Rattle.pp_lexer.proofs.characters.LinesLemmas.{lines_are}

-- the second character of a comment's `//` or `/*`
abbrev pub is_second : ℕ → Bool
is_second c = (c == 47) || (c == 42)

-- no line break, no backslash, and no comment begins
abbrev pub IsPlain : List ℕ → Type 0
IsPlain [] = Unit {0}
IsPlain (c ∷ cs) = (is_line_break c ≡ false) × ((c == 92) ≡ false) × (((c == 47) && begins_with is_second cs) ≡ false) × IsPlain cs

-- the characters alone
abbrev characters : List Placed → List ℕ
characters ps = map (λ p. p.char) ps

-- the characters of lines

no_pair : (a b c d : Bool) → (a || b) ≡ false → ((a && c) || (b && d)) ≡ false
no_pair a b c d h = grind arith

pieces_plain : (c : ℕ) (cs : List ℕ) → is_line_break c ≡ false → pieces (c ∷ cs) ≡ record { char = c; bytes = len_utf8 c } ∷ pieces cs
pieces_plain c [] h = rw h refl
pieces_plain c (d ∷ cs) h = rw (no_pair (c == 10) (c == 13) (d == 13) (d == 10) h, h) refl

characters-placed_from : (line at : ℕ) (cs : List ℕ) → IsPlain cs → characters (placed_from line at (pieces cs)) ≡ cs
characters-placed_from line at [] h = refl
characters-placed_from line at (c ∷ cs) h =
    let first : Piece = record { char = c; bytes = len_utf8 c } in
    ap (λ qs. characters (placed_from line at qs)) (pieces_plain c cs h.0)
    ∙ ap (λ xs. c ∷ xs) (characters-placed_from (if is_newline_piece first then line + 1 else line) (at + len_utf8 c) cs h.3)

-- the phases after

continued_same : (ps : List Placed) → IsPlain (characters ps) → continued ps ≡ ps
continued_same [] h = continued-nil
continued_same (p ∷ ps) h = continued-plain p ps h.1 ∙ ap (λ qs. p ∷ qs) (continued_same ps h.3)

no_comment : (p : Placed) (ps : List Placed) → ((p.char == 47) && begins_with is_second (characters ps)) ≡ false → comment_length (p ∷ ps) ≡ 0
no_comment p ps h = grind arith

replaced_same : (total : ℕ) (ps : List Placed) → IsPlain (characters ps) → replaced total ps ≡ ps
replaced_same total [] h = replaced-nil total
replaced_same total (p ∷ ps) h = replaced-plain total p ps (no_comment p ps h.2) ∙ ap (λ qs. p ∷ qs) (replaced_same total ps h.3)

letters-spots : (at : ℕ) (ps : List Placed) → letters (spots at ps) ≡ characters ps
letters-spots at [] = refl
letters-spots at (p ∷ ps) = ap (λ cs. p.char ∷ cs) (letters-spots p.end ps)

-- the characters after the phases are those of the text
pub plain_letters : (cs : List ℕ) → all_scalars cs ≡ true → IsPlain cs → letters (spots_of (encode_utf8_all cs)) ≡ cs
plain_letters cs s h = by (encode_utf8_all cs) (chars-encodes cs s)
  where
    by : (text : List ℕ) → chars text ≡ cs → letters (spots_of text) ≡ cs
    by text e =
        let same : characters (lines (chars text)) ≡ cs = ap characters (ap lines e ∙ lines_are cs) ∙ characters-placed_from 1 0 cs h in
        let plain : IsPlain (characters (lines (chars text))) = subst IsPlain (sym same) h in
        let joined : continued (lines (chars text)) ≡ lines (chars text) = continued_same (lines (chars text)) plain in
        letters-spots 0 _ ∙ rw (joined, replaced_same _ (lines (chars text)) plain) same

-- a space after a text begins no comment and ends none
pub plain-space : (cs ds : List ℕ) → IsPlain cs → IsPlain ds → IsPlain (cs ++ 32 ∷ ds)
plain-space [] ds h k = (refl, refl, refl, k)
plain-space (c ∷ []) ds h k = (h.0, h.1, and-false (c == 47), (refl, refl, refl, k))
plain-space (c ∷ d ∷ cs) ds h k = (h.0, h.1, h.2, plain-space (d ∷ cs) ds h.3 k)
