-- After the phases a source has characters of Unicode only.
use Rattle.std.proofs.Common.{◌≡◌, ℕ, zero, suc, ◌+◌, ◌-◌, List, [], ◌∷◌, map, take, Bool, true, false, ◌&&◌, refl, ◌∙◌, ap, if◌then◌else◌, arith}
use Rattle.std.specs.List.{list_all}
use Rattle.std.specs.Str.{IsUtf8, all_scalars}
use Rattle.std.proofs.Math.Utf8.{scalar}
use Rattle.std.proofs.lemmas.Bool.{and_parts, and_from}
use Rattle.std.proofs.lemmas.Str.{scalars-chars}
use Rattle.pp_lexer.specs.Comments.{comment_length, replaced}
use Rattle.pp_lexer.specs.inner.Comments.{stand_in}
use Rattle.pp_lexer.specs.Continuations.{is_continuation, continued}
use Rattle.pp_lexer.specs.Cursor.{Placed}
use Rattle.pp_lexer.specs.Cut.{cut_after, cut}
use Rattle.pp_lexer.specs.Lines.{Piece, piece, pieces, lines}
use Rattle.pp_lexer.specs.inner.Lines.{is_newline_piece}
use Rattle.pp_lexer.specs.inner.Readers.{placed_from}
use Rattle.pp_lexer.specs.Reading.{letters, spots}
use Rattle.pp_lexer.specs.Spots.{spots_of}
use Rattle.pp_lexer.proofs.characters.ContinuationsLemmas.{continued_from, continued-stays, continued-leaves}
use Rattle.pp_lexer.proofs.characters.LinesLemmas.{lines_are}
use Rattle.pp_lexer.proofs.characters.PiecesLemmas.{along_pieces}

piece_scalar : (c : ℕ) → scalar c ≡ true → scalar (piece c).char ≡ true
piece_scalar c h = grind arith

pieces_scalar : (cs : List ℕ) → all_scalars cs ≡ true → list_all (λ p. scalar p.char) (pieces cs) ≡ true
pieces_scalar =
    along_pieces (λ cs ps. all_scalars cs ≡ true → list_all (λ p. scalar p.char) ps ≡ true) (λ h. refl)
    (λ c cs ps go h. let b = and_parts (scalar c) (all_scalars cs) h in
    and_from (scalar (piece c).char) (list_all (λ p. scalar p.char) ps) (piece_scalar c b.0) (go b.1))
    (λ c d cs ps e go h. go (and_parts (scalar d) (all_scalars cs) (and_parts (scalar c) (scalar d && all_scalars cs) h).1).1)

placed_scalar : (line at : ℕ) (ps : List Piece) → list_all (λ p. scalar p.char) ps ≡ true → list_all (λ p. scalar p.char) (placed_from line at ps) ≡ true
placed_scalar line at [] h = refl
placed_scalar line at (p ∷ ps) h =
    let b = and_parts (scalar p.char) (list_all (λ q. scalar q.char) ps) h in
    and_from (scalar p.char) _ b.0 (placed_scalar (if is_newline_piece p then line + 1 else line) (at + p.bytes) ps b.1)

lines_scalar : (cs : List ℕ) → all_scalars cs ≡ true → list_all (λ p. scalar p.char) (lines cs) ≡ true
lines_scalar cs h = ap (list_all (λ (p : Placed). scalar p.char)) (lines_are cs) ∙ placed_scalar 1 0 (pieces cs) (pieces_scalar cs h)

continued_from_scalar : (before ps : List Placed) → list_all (λ p. scalar p.char) ps ≡ true → list_all (λ p. scalar p.char) (continued_from before ps) ≡ true
continued_from_scalar before [] h = refl
continued_from_scalar before (p ∷ ps) h =
    by (is_continuation (record { before = before; here = p; after = ps })) refl
    (continued_from_scalar (p ∷ before) ps (and_parts (scalar p.char) (list_all (λ q. scalar q.char) ps) h).1)
  where
    by : (b : Bool) → is_continuation (record { before = before; here = p; after = ps }) ≡ b
        → list_all (λ q. scalar q.char) (continued_from (p ∷ before) ps) ≡ true → list_all (λ q. scalar q.char) (continued_from before (p ∷ ps)) ≡ true
    by true e go = ap (list_all (λ (q : Placed). scalar q.char)) (continued-leaves before p ps e) ∙ go
    by false e go =
        ap (list_all (λ (q : Placed). scalar q.char)) (continued-stays before p ps e)
        ∙ and_from (scalar p.char) _ (and_parts (scalar p.char) (list_all (λ q. scalar q.char) ps) h).0 go

continued_scalar : (ps : List Placed) → list_all (λ p. scalar p.char) ps ≡ true → list_all (λ p. scalar p.char) (continued ps) ≡ true
unfolding continued
continued_scalar ps h = continued_from_scalar [] ps h

stand_in_scalar : (total : ℕ) (p : Placed) (others : List Placed) → scalar p.char ≡ true
    → scalar (stand_in total (record { first = p; others = others })).char ≡ true
stand_in_scalar total p [] h = h
stand_in_scalar total p (q ∷ others) h = refl

cut_scalar : (total n : ℕ) (size : List Placed → ℕ) (ps : List Placed) → list_all (λ p. scalar p.char) ps ≡ true
    → list_all (λ p. scalar p.char) (map (stand_in total) (cut_after size n ps)) ≡ true
cut_scalar total n size [] h = refl
cut_scalar total zero size (p ∷ ps) h =
    let b = and_parts (scalar p.char) (list_all (λ q. scalar q.char) ps) h in
    and_from _ _ (stand_in_scalar total p (take (size (p ∷ ps) - 1) ps) b.0) (cut_scalar total (size (p ∷ ps) - 1) size ps b.1)
cut_scalar total (suc n) size (p ∷ ps) h = cut_scalar total n size ps (and_parts (scalar p.char) (list_all (λ q. scalar q.char) ps) h).1

replaced_scalar : (total : ℕ) (ps : List Placed) → list_all (λ p. scalar p.char) ps ≡ true → list_all (λ p. scalar p.char) (replaced total ps) ≡ true
unfolding replaced cut
replaced_scalar total ps h = cut_scalar total 0 comment_length ps h

letters_scalar : (at : ℕ) (ps : List Placed) → list_all (λ p. scalar p.char) ps ≡ true → list_all scalar (letters (spots at ps)) ≡ true
letters_scalar at [] h = refl
letters_scalar at (p ∷ ps) h =
    let b = and_parts (scalar p.char) (list_all (λ q. scalar q.char) ps) h in
    and_from (scalar p.char) (list_all scalar (letters (spots p.end ps))) b.0 (letters_scalar p.end ps b.1)

-- the characters of a source, once the phases are done
pub source_scalar : (source : List ℕ) → IsUtf8 source → list_all scalar (letters (spots_of source)) ≡ true
source_scalar source u = grind (arith, letters_scalar, replaced_scalar, continued_scalar, lines_scalar, scalars-chars)
