-- The line and the column of an offset, as they are counted character by character.
use Rattle.std.proofs.Common.{◌≡◌, ℕ, ◌+◌, nat_le, Bool, true, false, cond, List, [], ◌∷◌, ◌++◌, reverse, count_by, append_assoc, refl, ap, ◌∙◌, arith}
use Rattle.std.specs.Str.{chars}
use Rattle.std.proofs.lemmas.List.{append-nil, reverse-append}
use Rattle.std.proofs.lemmas.List.Sums.{sum_by-cons}
use Rattle.pp_lexer.specs.Comments.{line_length}
use Rattle.pp_lexer.specs.Cursor.{Placed}
use Rattle.pp_lexer.specs.Lines.{is_newline, lines}
use Rattle.pp_lexer.specs.Positions.{up_to, line_column}
use Rattle.pp_lexer.specs.inner.Positions.{position_from}

-- the line and the column after these characters, the nearest first
abbrev after : List Placed → ℕ × ℕ
after seen = (count_by is_newline seen + 1, line_length seen + 1)

-- a newline begins a line, and any other character is one column more
after_newline : (p : Placed) (seen : List Placed) → is_newline p ≡ true → (count_by is_newline seen + 1 + 1, 1) ≡ after (p ∷ seen)
after_newline p seen e =
    let one : ◌≡◌ {A = ℕ} (cond (is_newline p) 1 0) 1 = ap (λ b. cond b 1 0) e in
    let line : count_by is_newline seen + 1 + 1 ≡ count_by is_newline (p ∷ seen) + 1 =
    omega (arith, one, sum_by-cons (λ x. cond (is_newline x) 1 0) p seen) in
    let column : 1 ≡ line_length (p ∷ seen) + 1 = rw e refl in
    λ i. (line i, column i)

after_other : (p : Placed) (seen : List Placed) → is_newline p ≡ false → (count_by is_newline seen + 1, line_length seen + 1 + 1) ≡ after (p ∷ seen)
after_other p seen e = grind arith

-- one character more, if the characters after it lead to the line and the column of all
leads_within : (offset : ℕ) (p : Placed) (ps seen : List Placed) (b : Bool) → is_newline p ≡ b
    → position_from (count_by is_newline (p ∷ seen) + 1) (line_length (p ∷ seen) + 1) offset ps ≡ after (reverse (up_to offset ps) ++ (p ∷ seen))
    → (cond b (position_from (count_by is_newline seen + 1 + 1) 1 offset ps) (position_from (count_by is_newline seen + 1) (line_length seen + 1 + 1) offset ps))
    ≡ after (reverse (up_to offset ps) ++ (p ∷ seen))
leads_within offset p ps seen true e h = ap (λ at. position_from at.0 at.1 offset ps) (after_newline p seen e) ∙ h
leads_within offset p ps seen false e h = ap (λ at. position_from at.0 at.1 offset ps) (after_other p seen e) ∙ h

leads_at : (offset : ℕ) (p : Placed) (ps seen : List Placed) (b : Bool) → nat_le p.end offset ≡ b
    → position_from (count_by is_newline (p ∷ seen) + 1) (line_length (p ∷ seen) + 1) offset ps ≡ after (reverse (up_to offset ps) ++ (p ∷ seen))
    → position_from (count_by is_newline seen + 1) (line_length seen + 1) offset (p ∷ ps) ≡ after (reverse (up_to offset (p ∷ ps)) ++ seen)
leads_at offset p ps seen true e h =
    let all : reverse (p ∷ up_to offset ps) ++ seen ≡ reverse (up_to offset ps) ++ (p ∷ seen) =
    ap (λ xs. xs ++ seen) (reverse-append (p ∷ []) (up_to offset ps)) ∙ append_assoc (reverse (up_to offset ps)) (p ∷ []) seen in
    rw (e, all) (leads_within offset p ps seen (is_newline p) refl h)
leads_at offset p ps seen false e h = rw e refl

-- the characters to come lead to the line and the column after all that stand before the offset
leads : (offset : ℕ) (ps seen : List Placed)
    → position_from (count_by is_newline seen + 1) (line_length seen + 1) offset ps ≡ after (reverse (up_to offset ps) ++ seen)
leads offset [] seen = refl
leads offset (p ∷ ps) seen = leads_at offset p ps seen (nat_le p.end offset) refl (leads offset ps (p ∷ seen))

-- so it is from the start of a source
pub counted : (source : List ℕ) (offset : ℕ) → position_from 1 1 offset (lines (chars source)) ≡ line_column source offset
unfolding line_column
counted source offset =
    leads offset (lines (chars source)) [] ∙ ap after (append-nil (reverse (up_to offset (lines (chars source)))))
