-- The characters once comments are replaced: no line falls, stretches follow one another, and there are no more than before.
use Rattle.std.proofs.Common.{◌≡◌, ◌≤◌, ◌∷◌, [], ℕ, zero, suc, List, length, ◌∙◌, ap, Bool, true, false, refl, arith, ◌&&◌, not, take, drop, ◌⊎◌, inl, inr, length-drop}
use Rattle.std.specs.Char.{len_utf8}
use Rattle.std.proofs.lemmas.Str.{len_utf8_bounds}
use Rattle.pp_lexer.specs.Cursor.{Placed, last_end}
use Rattle.pp_lexer.specs.Comments.{is_slash, is_star, line_length, block_length, has_close, is_unclosed, mark, replaced}
use Rattle.pp_lexer.proofs.characters.CommentsLemmas.{replaced-nil, replaced-plain, replaced-comment, no_slash, lone_slash, line_comment, slash_no_star, block_comment, has_close-take, drop-unclosed}
use Rattle.pp_lexer.proofs.characters.RisingLemmas.{Rising, rising_within, rising-drop, rising_last}

-- a comment stands at the front, and so many characters after its first belong to it
pub record Marks (total : ℕ) (p : Placed) (ps : List Placed) : Type 0 where
  pub mark : Placed
  pub more : ℕ
  pub is : replaced total (p ∷ ps) ≡ mark ∷ replaced total (drop more ps)
  pub char : mark.char ≡ 13
  pub line : mark.line ≡ p.line
  pub ends : (mark.end ≡ last_end p.end (take more ps)) ⊎ ((mark.end ≡ total) × (drop more ps ≡ []))

line_marks : (total : ℕ) (p q : Placed) (ps : List Placed) → is_slash p ≡ true → is_slash q ≡ true → Marks total p (q ∷ ps)
line_marks total p q ps e f =
    let closed : is_unclosed (q ∷ take (line_length ps) ps) ≡ false = ap (λ t. t && not (has_close (take (line_length ps) ps))) (slash_no_star q f) in
    record {
      mark = mark total (record { first = p; others = q ∷ take (line_length ps) ps });
      more = suc (line_length ps);
      is = replaced-comment total (line_length ps) p q ps (line_comment p q ps e f);
      char = refl;
      line = refl;
      ends = inl (rw closed refl);
    }

block_marks : (total : ℕ) (p q : Placed) (ps : List Placed) → is_slash p ≡ true → is_star q ≡ true → Marks total p (q ∷ ps)
block_marks total p q ps e f = record {
  mark = mark total (record { first = p; others = q ∷ take (block_length ps) ps });
  more = suc (block_length ps);
  is = replaced-comment total (block_length ps) p q ps (block_comment p q ps e f);
  char = refl;
  line = refl;
  ends = by_close (has_close ps) refl;
}
  where
    unclosed : is_unclosed (q ∷ take (block_length ps) ps) ≡ not (has_close ps)
    unclosed = ap (λ t. t && not (has_close (take (block_length ps) ps))) f ∙ ap not (has_close-take ps)

    by_close : (b : Bool) → has_close ps ≡ b
        → ((mark total (record { first = p; others = q ∷ take (block_length ps) ps })).end ≡ last_end q.end (take (block_length ps) ps))
        ⊎ (((mark total (record { first = p; others = q ∷ take (block_length ps) ps })).end ≡ total) × (drop (block_length ps) ps ≡ []))
    by_close true h = inl (rw (unclosed ∙ ap not h) refl)
    by_close false h = inr (rw (unclosed ∙ ap not h) refl, drop-unclosed ps h)

-- what stands first: the character itself, or a mark
pub front : (total : ℕ) (p : Placed) (ps : List Placed) → (replaced total (p ∷ ps) ≡ p ∷ replaced total ps) ⊎ Marks total p ps
front total p ps = grind (arith, replaced-plain, block_marks, lone_slash, line_marks, no_slash)

last_end-split : (n at : ℕ) (ps : List Placed) → last_end (last_end at (take n ps)) (drop n ps) ≡ last_end at ps
last_end-split zero at [] = refl
last_end-split zero at (p ∷ ps) = refl
last_end-split (suc n) at [] = refl
last_end-split (suc n) at (p ∷ ps) = last_end-split n p.end ps

-- each by induction on the number of characters that are left, at most n
rising_within_n : (n line at total : ℕ) (ps : List Placed) → length ps ≤ n → Rising line at total ps → Rising line at total (replaced total ps)
rising_within_n n line at total [] le h = rw (replaced-nil total) h
rising_within_n zero line at total (p ∷ ps) le h = absurd (omega arith)
rising_within_n (suc n) line at total (p ∷ ps) le h = by_front (front total p ps) (λ l a qs. rising_within_n n l a total qs)
  where
    by_end : (m : Marks total p ps) → ((m.mark.end ≡ last_end p.end (take m.more ps)) ⊎ ((m.mark.end ≡ total) × (drop m.more ps ≡ [])))
        → ((l a : ℕ) (qs : List Placed) → length qs ≤ n → Rising l a total qs → Rising l a total (replaced total qs))
        → (p.end ≤ m.mark.end) × Rising m.mark.line m.mark.end total (replaced total (drop m.more ps))
    by_end m (inl e) ih = (
      omega (arith, e, rising_last m.more p.line p.end total ps h.2),
      ih m.mark.line m.mark.end (drop m.more ps) (omega (arith, length-drop m.more ps))
          (rw (m.line, e) (rising-drop m.more p.line p.end total ps h.2)),
    )
    by_end m (inr e) ih =
        (omega (arith, e.0, rising_within p.line p.end total ps h.2), rw (e.1, replaced-nil total) (omega (arith, e.0)))

    by_front : (replaced total (p ∷ ps) ≡ p ∷ replaced total ps) ⊎ Marks total p ps
        → ((l a : ℕ) (qs : List Placed) → length qs ≤ n → Rising l a total qs → Rising l a total (replaced total qs))
        → Rising line at total (replaced total (p ∷ ps))
    by_front (inl e) ih = rw e (h.0, h.1, ih p.line p.end ps (omega arith) h.2)
    by_front (inr m) ih =
        let rest = by_end m m.ends ih in
        let one : len_utf8 m.mark.char ≡ 1 = rw m.char refl in
        rw m.is (omega (arith, h.0, m.line), omega (arith, h.1, one, rest.0, (len_utf8_bounds p.char).0), rest.1)

pub rising-replaced : (line at total : ℕ) (ps : List Placed) → Rising line at total ps → Rising line at total (replaced total ps)
rising-replaced line at total ps h = rising_within_n (length ps) line at total ps (omega arith) h

last_end_within_n : (n at total : ℕ) (ps : List Placed) → length ps ≤ n → last_end at ps ≡ total → last_end at (replaced total ps) ≡ total
last_end_within_n n at total [] le h = rw (replaced-nil total) h
last_end_within_n zero at total (p ∷ ps) le h = absurd (omega arith)
last_end_within_n (suc n) at total (p ∷ ps) le h = by_front (front total p ps) (λ a qs. last_end_within_n n a total qs)
  where
    by_end : (m : Marks total p ps) → ((m.mark.end ≡ last_end p.end (take m.more ps)) ⊎ ((m.mark.end ≡ total) × (drop m.more ps ≡ [])))
        → ((a : ℕ) (qs : List Placed) → length qs ≤ n → last_end a qs ≡ total → last_end a (replaced total qs) ≡ total)
        → last_end m.mark.end (replaced total (drop m.more ps)) ≡ total
    by_end m (inl e) ih =
        ih m.mark.end (drop m.more ps) (omega (arith, length-drop m.more ps)) (rw e (last_end-split m.more p.end ps ∙ h))
    by_end m (inr e) ih = rw (e.1, replaced-nil total) e.0

    by_front : (replaced total (p ∷ ps) ≡ p ∷ replaced total ps) ⊎ Marks total p ps
        → ((a : ℕ) (qs : List Placed) → length qs ≤ n → last_end a qs ≡ total → last_end a (replaced total qs) ≡ total)
        → last_end at (replaced total (p ∷ ps)) ≡ total
    by_front (inl e) ih = rw e (ih p.end ps (omega arith) h)
    by_front (inr m) ih = rw m.is (by_end m m.ends ih)

pub last_end-replaced : (at total : ℕ) (ps : List Placed) → last_end at ps ≡ total → last_end at (replaced total ps) ≡ total
last_end-replaced at total ps h = last_end_within_n (length ps) at total ps (omega arith) h

length_within_n : (n total : ℕ) (ps : List Placed) → length ps ≤ n → length (replaced total ps) ≤ length ps
length_within_n n total [] le = rw (replaced-nil total) (omega arith)
length_within_n zero total (p ∷ ps) le = absurd (omega arith)
length_within_n (suc n) total (p ∷ ps) le = by_front (front total p ps) (λ qs. length_within_n n total qs)
  where
    by_front : (replaced total (p ∷ ps) ≡ p ∷ replaced total ps) ⊎ Marks total p ps
        → ((qs : List Placed) → length qs ≤ n → length (replaced total qs) ≤ length qs) → length (replaced total (p ∷ ps)) ≤ length (p ∷ ps)
    by_front (inl e) ih = rw e (omega (arith, ih ps (omega arith)))
    by_front (inr m) ih = rw m.is (omega (arith, length-drop m.more ps, ih (drop m.more ps) (omega (arith, length-drop m.more ps))))

pub length-replaced : (total : ℕ) (ps : List Placed) → length (replaced total ps) ≤ length ps
length-replaced total ps = length_within_n (length ps) total ps (omega arith)
