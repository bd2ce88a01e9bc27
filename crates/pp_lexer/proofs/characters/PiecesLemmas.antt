-- The pieces of a text: how many bytes they take, and how a pair stands among them.
use Rattle.std.proofs.Common.{◌≡◌, ◌≤◌, ◌∷◌, [], ℕ, List, length, ◌∙◌, ap, Bool, true, refl, arith, ◌||◌, ◌==◌, ◌&&◌, sum_by, length-append}
use Rattle.std.specs.Char.{len_utf8}
use Rattle.std.specs.Str.{chars, IsUtf8}
use Rattle.std.proofs.Math.Utf8.{encodes}
use Rattle.std.proofs.lemmas.List.Sums.{sum_by-cons}
use Rattle.std.proofs.lemmas.Str.{encodes-chars, length-encode, length-le-encodes}
use Rattle.pp_lexer.specs.Lines.{is_line_break, is_pair, Piece, piece, pieces}
use Rattle.pp_lexer.specs.inner.Lines.{newline_piece}
use lib.Utf8.{encode}

-- what holds along the pieces, piece by piece
module _ (P : List ℕ → List Piece → Type 0) (none : P [] []) (one : (c : ℕ) (cs : List ℕ) (ps : List Piece) → P cs ps → P (c ∷ cs) (piece c ∷ ps))
    (two : (c d : ℕ) (cs : List ℕ) (ps : List Piece) → is_pair c d ≡ true → P cs ps → P (c ∷ d ∷ cs) (newline_piece 2 ∷ ps)) where
  pub along_pieces : (cs : List ℕ) → P cs (pieces cs)
  along_pieces [] = none
  along_pieces (c ∷ []) = one c [] [] none
  along_pieces (c ∷ d ∷ cs) = grind (arith, along_pieces cs, along_pieces (d ∷ cs))

-- both characters of a pair are line breaks, by the tests of the first (a, b) and of the second (e, f)
pair_breaks : (a b e f : Bool) → ((a && f) || (b && e)) ≡ true → ((a || b) ≡ true) × ((e || f) ≡ true)
pair_breaks a b e f h = grind arith

pub is_pair-breaks : (c d : ℕ) → is_pair c d ≡ true → (is_line_break c ≡ true) × (is_line_break d ≡ true)
is_pair-breaks c d e = pair_breaks (c == 10) (c == 13) (d == 10) (d == 13) e

len_utf8-break : (c : ℕ) → is_line_break c ≡ true → len_utf8 c ≡ 1
len_utf8-break c e = grind arith

bytes_of_piece : (c : ℕ) → (piece c).bytes ≡ len_utf8 c
bytes_of_piece c = grind arith

room_of_piece : (c : ℕ) → len_utf8 (piece c).char ≤ (piece c).bytes
room_of_piece c = grind arith

-- each piece has room for its character
abbrev pub HaveRoom : List Piece → Type 0
HaveRoom [] = Unit {0}
HaveRoom (p ∷ ps) = (len_utf8 p.char ≤ p.bytes) × HaveRoom ps

pub pieces_have_room : (cs : List ℕ) → HaveRoom (pieces cs)
pieces_have_room cs =
    along_pieces (λ cs ps. HaveRoom ps) tt (λ c cs ps h. (room_of_piece c, h)) (λ c d cs ps e h. (omega arith, h)) cs

-- the pieces take the bytes of their characters
pub bytes_of_pieces : (cs : List ℕ) → sum_by (λ p. p.bytes) (pieces cs) ≡ length (encodes cs)
bytes_of_pieces cs =
    along_pieces (λ cs ps. sum_by (λ p. p.bytes) ps ≡ length (encodes cs)) refl
    (λ c cs ps h. omega (arith, h, sum_by-cons (λ (p : Piece). p.bytes) (piece c) ps, bytes_of_piece c, length-append (encode c) (encodes cs), length-encode c))
    (λ c d cs ps e h. omega (
      arith,
      h,
      sum_by-cons (λ (p : Piece). p.bytes) (newline_piece 2) ps,
      length-append (encode c) (encodes (d ∷ cs)),
      length-encode c,
      len_utf8-break c (is_pair-breaks c d e).0,
      length-append (encode d) (encodes cs),
      length-encode d,
      len_utf8-break d (is_pair-breaks c d e).1,
    ))
    cs

pub bytes_of_source : (source : List ℕ) → IsUtf8 source → sum_by (λ p. p.bytes) (pieces (chars source)) ≡ length source
bytes_of_source source u = bytes_of_pieces (chars source) ∙ ap length (encodes-chars source u)

-- there are no more pieces than characters
pub length-pieces : (cs : List ℕ) → length (pieces cs) ≤ length cs
length-pieces cs =
    along_pieces (λ cs ps. length ps ≤ length cs) (omega arith) (λ c cs ps h. omega (arith, h)) (λ c d cs ps e h. omega (arith, h)) cs

pub length-pieces-source : (source : List ℕ) → IsUtf8 source → length (pieces (chars source)) ≤ length source
length-pieces-source source u = omega (arith, length-pieces (chars source), length-le-encodes (chars source), ap length (encodes-chars source u))
