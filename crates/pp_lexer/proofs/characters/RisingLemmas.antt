-- Along the characters of each phase no line falls, and stretches follow one another.
use Rattle.std.proofs.Common.{◌≡◌, ◌≤◌, ◌∷◌, ◌+◌, [], ℕ, zero, suc, List, length, subst, Bool, true, false, refl, arith, sum_by, All, take, drop, if◌then◌else◌}
use Rattle.std.specs.Char.{len_utf8}
use Rattle.std.specs.Str.{chars, IsUtf8}
use Rattle.std.proofs.lemmas.List.Sums.{sum_by-cons}
use Rattle.std.proofs.lemmas.List.Elements.{All-nil, All-cons}
use Rattle.std.proofs.lemmas.List.Kept.{AllPairs-cons}
use Rattle.pp_lexer.specs.Cursor.{Placed, last_end}
use Rattle.pp_lexer.specs.Lines.{Piece, pieces}
use Rattle.pp_lexer.specs.inner.Lines.{is_newline_piece}
use Rattle.pp_lexer.specs.Continuations.{is_continuation, continued}
use Rattle.pp_lexer.specs.inner.Readers.{placed_from}
use Rattle.pp_lexer.specs.PhaseLaws.{lines_of, NeverFalls, StretchesFollow}
use Rattle.pp_lexer.proofs.characters.LinesLemmas.{lines_are}
use Rattle.pp_lexer.proofs.characters.PiecesLemmas.{HaveRoom, pieces_have_room, bytes_of_source}
use Rattle.pp_lexer.proofs.characters.ContinuationsLemmas.{continued_from, continued-stays, continued-leaves}

-- from this line and this place on no line falls, each stretch has room for its character, and all end within so many bytes
abbrev pub Rising : ℕ → ℕ → ℕ → List Placed → Type 0
Rising line at total [] = at ≤ total
Rising line at total (p ∷ ps) = (line ≤ p.line) × (at + len_utf8 p.char ≤ p.end) × Rising p.line p.end total ps

pub rising_earlier : (line at line' at' total : ℕ) (ps : List Placed) → line' ≤ line → at' ≤ at → Rising line at total ps → Rising line' at' total ps
rising_earlier line at line' at' total [] l a h = omega arith
rising_earlier line at line' at' total (p ∷ ps) l a h = (omega arith, omega arith, h.2)

pub rising_within : (line at total : ℕ) (ps : List Placed) → Rising line at total ps → at ≤ total
rising_within line at total [] h = h
rising_within line at total (p ∷ ps) h = omega (arith, h.1, rising_within p.line p.end total ps h.2)

pub rising-drop : (n line at total : ℕ) (ps : List Placed) → Rising line at total ps → Rising line (last_end at (take n ps)) total (drop n ps)
rising-drop zero line at total [] h = h
rising-drop zero line at total (p ∷ ps) h = h
rising-drop (suc n) line at total [] h = h
rising-drop (suc n) line at total (p ∷ ps) h =
    rising_earlier p.line _ line _ total (drop n ps) h.0 (omega arith) (rising-drop n p.line p.end total ps h.2)

pub rising_last : (n line at total : ℕ) (ps : List Placed) → Rising line at total ps → at ≤ last_end at (take n ps)
rising_last zero line at total [] h = omega arith
rising_last zero line at total (p ∷ ps) h = omega arith
rising_last (suc n) line at total [] h = omega arith
rising_last (suc n) line at total (p ∷ ps) h = omega (arith, h.1, rising_last n p.line p.end total ps h.2)

-- what it says of lines and of stretches

lines_above : (line at total : ℕ) (ps : List Placed) → Rising line at total ps → All (λ q. line ≤ q.line) ps
lines_above line at total [] h = All-nil (λ (q : Placed). line ≤ q.line)
lines_above line at total (p ∷ ps) h =
    All-cons (λ (q : Placed). line ≤ q.line) p ps h.0 (lines_above line p.end total ps (rising_earlier p.line p.end line p.end total ps h.0 (omega arith) h.2))

pub never_falls : (line at total : ℕ) (ps : List Placed) → Rising line at total ps → NeverFalls ps
never_falls line at total [] h = λ i j d lt within. absurd (omega arith)
never_falls line at total (p ∷ ps) h =
    AllPairs-cons (λ (p q : Placed). p.line ≤ q.line) p ps (lines_above p.line p.end total ps h.2) (never_falls p.line p.end total ps h.2)

pub stretches_follow : (line at total : ℕ) (ps : List Placed) → Rising line at total ps → StretchesFollow at total ps
stretches_follow line at total [] h = h
stretches_follow line at total (p ∷ ps) h = (h.1, stretches_follow p.line p.end total ps h.2)

-- all end within the source
pub ends_within : (line at total : ℕ) (ps : List Placed) → Rising line at total ps → All (λ q. q.end ≤ total) ps
ends_within line at total [] h = All-nil (λ (q : Placed). q.end ≤ total)
ends_within line at total (p ∷ ps) h =
    All-cons (λ (q : Placed). q.end ≤ total) p ps (rising_within p.line p.end total ps h.2) (ends_within p.line p.end total ps h.2)

-- Lines

line_up : (b : Bool) (line : ℕ) → line ≤ (if b then line + 1 else line)
line_up true line = omega arith
line_up false line = omega arith

rising-placed_from : (line at : ℕ) (ps : List Piece) → HaveRoom ps → Rising line at (at + sum_by (λ p. p.bytes) ps) (placed_from line at ps)
rising-placed_from line at [] h = omega arith
rising-placed_from line at (p ∷ ps) h =
    let next : ℕ = if is_newline_piece p then line + 1 else line in
    let up : line ≤ next = line_up (is_newline_piece p) line in
    let total : at + p.bytes + sum_by (λ p. p.bytes) ps ≡ at + sum_by (λ p. p.bytes) (p ∷ ps) = omega (arith, sum_by-cons (λ (p : Piece). p.bytes) p ps) in (
      omega arith,
      omega (arith, h.0),
      rising_earlier next (at + p.bytes) line (at + p.bytes) _ (placed_from next (at + p.bytes) ps) up (omega arith)
          (subst (λ t. Rising next (at + p.bytes) t (placed_from next (at + p.bytes) ps)) total (rising-placed_from next (at + p.bytes) ps h.1)),
    )

pub rising-lines : (source : List ℕ) → IsUtf8 source → Rising 1 0 (length source) (lines_of source)
rising-lines source u =
    let total : 0 + sum_by (λ p. p.bytes) (pieces (chars source)) ≡ length source = omega (arith, bytes_of_source source u) in
    rw (lines_are (chars source)) (subst (λ t. Rising 1 0 t (placed_from 1 0 (pieces (chars source)))) total
    (rising-placed_from 1 0 (pieces (chars source)) (pieces_have_room (chars source))))

-- Continuations

rising-continued_from : (line at total : ℕ) (before ps : List Placed) → Rising line at total ps → Rising line at total (continued_from before ps)
rising-continued_from line at total before [] h = h
rising-continued_from line at total before (p ∷ ps) h =
    by_test (is_continuation (record { before = before; here = p; after = ps })) refl (rising-continued_from p.line p.end total (p ∷ before) ps h.2)
  where
    by_test : (b : Bool) → is_continuation (record { before = before; here = p; after = ps }) ≡ b
        → Rising p.line p.end total (continued_from (p ∷ before) ps) → Rising line at total (continued_from before (p ∷ ps))
    by_test true e k = rw (continued-leaves before p ps e) (rising_earlier p.line p.end line at total _ h.0 (omega (arith, h.1)) k)
    by_test false e k = rw (continued-stays before p ps e) (h.0, h.1, k)

pub rising-continued : (line at total : ℕ) (ps : List Placed) → Rising line at total ps → Rising line at total (continued ps)
unfolding continued
rising-continued line at total ps h = rising-continued_from line at total [] ps h
