-- One step of a reader that puts a mark for each comment.
use Rattle.std.proofs.Common.{◌≡◌, ◌≢◌, ◌∷◌, ◌+◌, ◌-◌, [], ℕ, suc, List, sym, ◌∙◌, ap, Bool, true, false, refl, ◌==◌, ◌&&◌, ◌||◌, not, if◌then◌else◌, Some, None, Option, take, drop, map, arith, true≢false}
use Rattle.std.proofs.Math.Bool.{and-false}
use Rattle.std.proofs.lemmas.Bool.{eqb-true, ne_eqb, eq-eqb}
use Rattle.pp_lexer.specs.Cursor.{Placed, Cursor, first_of, after_of, after, passed}
use Rattle.pp_lexer.specs.Surroundings.{begins_with}
use Rattle.pp_lexer.specs.Comments.{is_slash, is_star, line_length, block_length, has_close, comment_length, is_unclosed, mark, replaced}
use Rattle.pp_lexer.specs.inner.Comments.{stand_in}
use Rattle.pp_lexer.specs.inner.Readers.{uncommented, past_line, past_block}
use Rattle.pp_lexer.proofs.characters.CutLemmas.{cut-nil, cut-cons}
use Rattle.pp_lexer.proofs.characters.ContinuationsLemmas.{Steps, item_char, item_line}

pub replaced-nil : (total : ℕ) → replaced total [] ≡ []
unfolding replaced
replaced-nil total = rw (cut-nil comment_length) refl

-- a character by itself
pub replaced-plain : (total : ℕ) (p : Placed) (ps : List Placed) → comment_length (p ∷ ps) ≡ 0 → replaced total (p ∷ ps) ≡ p ∷ replaced total ps
unfolding replaced
replaced-plain total p ps e = grind (arith, cut-cons)

-- a comment
pub replaced-comment : (total n : ℕ) (p q : Placed) (ps : List Placed) → comment_length (p ∷ q ∷ ps) ≡ 2 + n
    → replaced total (p ∷ q ∷ ps) ≡ mark total (record { first = p; others = q ∷ take n ps }) ∷ replaced total (drop n ps)
unfolding replaced
replaced-comment total n p q ps e =
    let m : comment_length (p ∷ q ∷ ps) - 1 ≡ suc n = omega (arith, e) in
    ap (map (stand_in total)) (cut-cons comment_length p (q ∷ ps) (suc n) m)

-- a character that is no slash begins no comment
pub no_slash : (p : Placed) (ps : List Placed) → is_slash p ≡ false → comment_length (p ∷ ps) ≡ 0
no_slash p [] e = refl
no_slash p (q ∷ ps) e = rw e refl

-- nor does a slash without another slash or a star after it
pub lone_slash : (p : Placed) (ps : List Placed) → begins_with is_slash ps ≡ false → begins_with is_star ps ≡ false → comment_length (p ∷ ps) ≡ 0
lone_slash p ps h k = grind arith

pub line_comment : (p q : Placed) (ps : List Placed) → is_slash p ≡ true → is_slash q ≡ true → comment_length (p ∷ q ∷ ps) ≡ 2 + line_length ps
line_comment p q ps e f = rw (e, f) refl

star_no_slash : (q : Placed) → is_star q ≡ true → is_slash q ≡ false
star_no_slash q e = rw (eqb-true q.char 42 e) refl

pub slash_no_star : (q : Placed) → is_slash q ≡ true → is_star q ≡ false
slash_no_star q e = rw (eqb-true q.char 47 e) refl

pub block_comment : (p q : Placed) (ps : List Placed) → is_slash p ≡ true → is_star q ≡ true → comment_length (p ∷ q ∷ ps) ≡ 2 + block_length ps
block_comment p q ps e f = rw (e, star_no_slash q f, f) refl

begins_with-take : {A : Type 0} (t : A → Bool) (n : ℕ) (xs : List A) → begins_with t xs ≡ false → begins_with t (take n xs) ≡ false
begins_with-take t n xs h = grind arith

and_begins_with-take : (b : Bool) (n : ℕ) (ps : List Placed) → (b && begins_with is_slash ps) ≡ false → (b && begins_with is_slash (take n ps)) ≡ false
and_begins_with-take true n ps e = begins_with-take is_slash n ps e
and_begins_with-take false n ps e = refl

-- a `*/` at the front, or not yet
module _ (p : Placed) (ps : List Placed) where
  block_length_here : (is_star p && begins_with is_slash ps) ≡ true → block_length (p ∷ ps) ≡ 2
  block_length_here e = rw e refl

  has_close_here : (is_star p && begins_with is_slash ps) ≡ true → has_close (p ∷ ps) ≡ true
  has_close_here e = ap (λ t. t || has_close ps) e

  block_length_later : (is_star p && begins_with is_slash ps) ≡ false → block_length (p ∷ ps) ≡ suc (block_length ps)
  block_length_later e = rw e refl

  has_close_later : (is_star p && begins_with is_slash ps) ≡ false → has_close (p ∷ ps) ≡ has_close ps
  has_close_later e = ap (λ t. t || has_close ps) e

close_in_two : (p : Placed) (ps : List Placed) → (is_star p && begins_with is_slash ps) ≡ true → has_close (take 2 (p ∷ ps)) ≡ true
close_in_two p [] e = absurd (true≢false (sym e ∙ and-false (is_star p)))
close_in_two p (q ∷ ps) e = has_close_here p (q ∷ []) e

-- a block comment holds its `*/`, if there is one
pub has_close-take : (ps : List Placed) → has_close (take (block_length ps) ps) ≡ has_close ps
has_close-take [] = refl
has_close-take (p ∷ ps) =
    grind (arith, has_close_here, block_length_later, has_close_later, and_begins_with-take, has_close-take ps)

-- without one it takes all
pub drop-unclosed : (ps : List Placed) → has_close ps ≡ false → drop (block_length ps) ps ≡ []
drop-unclosed [] e = refl
drop-unclosed (p ∷ ps) e = grind (arith, has_close_later, drop-unclosed ps)

-- the reader of a block comment's rest, where a star may stand directly before
abbrev pub past_block_after : Bool → Cursor → Cursor
past_block_after star c = if star && begins_with is_slash c.rest then passed 1 c else past_block c

-- a step that does not end the comment
module _ (total offset : ℕ) (p : Placed) (ps : List Placed) where
  pub block_goes_on : past_block (record { rest = p ∷ ps; offset = offset; total = total }) ≡ past_block_after (is_star p)
      (record { rest = ps; offset = p.end; total = total })
  block_goes_on = grind (arith, has_close_later, block_length_later)

pub block_step : (star : Bool) (ps : List Placed) (offset total : ℕ) (d : Cursor) (ch line : ℕ) → Some (ch, line) ≡ first_of ps
    → d ≡ after_of ps total → (star && (ch == 47)) ≡ false
    → past_block_after (ch == 42) d ≡ past_block_after star (record { rest = ps; offset = offset; total = total })
block_step star ps offset total d ch line h k e = grind (arith, block_goes_on)

-- a block comment and its mark end at the same place
block_marked : (total : ℕ) (p q : Placed) (ps : List Placed) → is_star q ≡ true
    → uncommented (past_block (record { rest = ps; offset = q.end; total = total }))
    ≡ after_of (mark total (record { first = p; others = q ∷ take (block_length ps) ps }) ∷ replaced total (drop (block_length ps) ps)) total
block_marked total p q ps star = grind (arith, has_close-take, drop-unclosed)

module _ (total : ℕ) (d : Cursor) where
  pub uncommented_end : (ps : List Placed) (r : Option (ℕ × ℕ)) → r ≡ None → r ≡ first_of ps → d ≡ after_of ps total
      → Steps (replaced total ps) total None (uncommented d)
  uncommented_end [] r n e f = record { value = rw (replaced-nil total) refl; state = rw (f, replaced-nil total) refl }
  uncommented_end (p ∷ ps) r n e f = cc

  module _ (ch line : ℕ) where
    -- what begins no comment is the next item
    one_step : (p : Placed) (ps : List Placed) → Some (ch, line) ≡ first_of (p ∷ ps) → d ≡ after_of (p ∷ ps) total → comment_length (p ∷ ps) ≡ 0
        → Steps (replaced total (p ∷ ps)) total (Some (ch, line)) (uncommented d)
    one_step p ps e f n = grind (arith, replaced-plain)

    pub no_slash_step : (ps : List Placed) → Some (ch, line) ≡ first_of ps → d ≡ after_of ps total → ch ≢ 47
        → Steps (replaced total ps) total (Some (ch, line)) (uncommented d)
    no_slash_step [] e f h = cc
    no_slash_step (p ∷ ps) e f h = one_step p ps e f (no_slash p ps (ne_eqb p.char 47 (λ k. h (sym (item_char p ch line e) ∙ k))))

    pub lone_slash_step : (ps : List Placed) → Some (ch, line) ≡ first_of ps → d ≡ after_of ps total → begins_with is_slash d.rest ≡ false
        → begins_with is_star d.rest ≡ false
        → Steps (replaced total ps) total (Some (ch, line)) (uncommented d)
    lone_slash_step [] e f h k = cc
    lone_slash_step (p ∷ ps) e f h k =
        let h' : begins_with is_slash ps ≡ false = rw f at h in
        let k' : begins_with is_star ps ≡ false = rw f at k in
        one_step p ps e f (lone_slash p ps h' k')

    module _ (peek s : Cursor) (slash : ch ≡ 47) (peeked : peek ≡ after d) where
      pub line_comment_step : (ps : List Placed) → Some (ch, line) ≡ first_of ps → d ≡ after_of ps total → begins_with is_slash d.rest ≡ true
          → s ≡ past_line peek
          → Steps (replaced total ps) total (Some (13, line)) (uncommented s)
      line_comment_step [] e f h g = cc
      line_comment_step (p ∷ []) e f h g = let h' : begins_with is_slash [] ≡ true = rw f at h in cc
      line_comment_step (p ∷ q ∷ ps) e f h g =
          let q_slash : is_slash q ≡ true = rw f at h in
          let p_slash : is_slash p ≡ true = eq-eqb p.char 47 (item_char p ch line e ∙ slash) in
          let k = replaced-comment total (line_length ps) p q ps (line_comment p q ps p_slash q_slash) in
          let no_star : is_unclosed (q ∷ take (line_length ps) ps) ≡ false =
          ap (λ t. t && not (has_close (take (line_length ps) ps))) (slash_no_star q q_slash) in
          record { value = rw k (ap (λ n. Some (13, n)) (item_line p ch line e)); state = rw (k, g, peeked, f, no_star) refl }

      pub block_comment_step : (ps : List Placed) → Some (ch, line) ≡ first_of ps → d ≡ after_of ps total → begins_with is_star d.rest ≡ true
          → s ≡ past_block peek
          → Steps (replaced total ps) total (Some (13, line)) (uncommented s)
      block_comment_step [] e f h g = cc
      block_comment_step (p ∷ []) e f h g = let h' : begins_with is_star [] ≡ true = rw f at h in cc
      block_comment_step (p ∷ q ∷ ps) e f h g =
          let q_star : is_star q ≡ true = rw f at h in
          let p_slash : is_slash p ≡ true = eq-eqb p.char 47 (item_char p ch line e ∙ slash) in
          let k = replaced-comment total (block_length ps) p q ps (block_comment p q ps p_slash q_star) in
          record { value = rw k (ap (λ n. Some (13, n)) (item_line p ch line e)); state = rw (k, g, peeked, f) (block_marked total p q ps q_star) }
