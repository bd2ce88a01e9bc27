-- One step of a reader that leaves out the continuations.
use Rattle.std.proofs.Common.{◌≡◌, ◌≢◌, ◌∷◌, [], ℕ, List, sym, ◌∙◌, ap, Bool, true, false, refl, ◌==◌, Some, None, Option, map, not, if◌then◌else◌, arith}
use Rattle.std.specs.List.{filter}
use Rattle.std.proofs.lemmas.Bool.{eqb-true}
use Rattle.pp_lexer.specs.Cursor.{Placed, Cursor, first_of, first, after_of, after, is_item}
use Rattle.pp_lexer.specs.Surroundings.{surrounded_from, begins_with}
use Rattle.pp_lexer.specs.Lines.{is_newline}
use Rattle.pp_lexer.specs.Continuations.{is_backslash, is_continuation, continued}
use Rattle.pp_lexer.specs.inner.Readers.{joined}
use Rattle.pp_lexer.proofs.items.SurroundingsLemmas.{without_first}

-- what is left after these others
abbrev pub continued_from : List Placed → List Placed → List Placed
continued_from before ps = map (λ s. s.here) (filter (λ s. not (is_continuation s)) (surrounded_from before ps))

continued_step : (before : List Placed) (p : Placed) (ps : List Placed)
    → continued_from before (p ∷ ps) ≡ (if is_continuation (record { before = before; here = p; after = ps }) then continued_from
    (p ∷ before) ps else p ∷ continued_from (p ∷ before) ps)
continued_step before p ps = without_first (λ s. s.here) (is_continuation (record { before = before; here = p; after = ps })) _ _

-- a character that is in no continuation stays, and the others are gone
pub continued-stays : (before : List Placed) (p : Placed) (ps : List Placed) → is_continuation (record { before = before; here = p; after = ps }) ≡ false
    → continued_from before (p ∷ ps) ≡ p ∷ continued_from (p ∷ before) ps
continued-stays before p ps e = continued_step before p ps ∙ rw e refl

pub continued-leaves : (before : List Placed) (p : Placed) (ps : List Placed) → is_continuation (record { before = before; here = p; after = ps }) ≡ true
    → continued_from before (p ∷ ps) ≡ continued_from (p ∷ before) ps
continued-leaves before p ps e = continued_step before p ps ∙ rw e refl

-- two places that agree on whether a character stays
continued-agrees : (b c : List Placed) (p : Placed) (ps : List Placed) (t : Bool)
    → is_continuation (record { before = b; here = p; after = ps }) ≡ t → is_continuation (record { before = c; here = p; after = ps }) ≡ t
    → continued_from (p ∷ b) ps ≡ continued_from (p ∷ c) ps → continued_from b (p ∷ ps) ≡ continued_from c (p ∷ ps)
continued-agrees b c p ps true e f g = continued-leaves b p ps e ∙ (g ∙ sym (continued-leaves c p ps f))
continued-agrees b c p ps false e f g = continued-stays b p ps e ∙ (ap (λ t. p ∷ t) g ∙ sym (continued-stays c p ps f))

-- of what stands before, only the nearest counts
continued_from_nearest : (b c ps : List Placed) → begins_with is_backslash b ≡ begins_with is_backslash c → continued_from b ps ≡ continued_from c ps
continued_from_nearest b c [] e = refl
continued_from_nearest b c (p ∷ ps) e = grind (arith, continued_from_nearest (p ∷ b) (p ∷ c) ps refl)

-- where no newline is first, nothing that stands before counts
no_newline_first : (b c ps : List Placed) → begins_with is_newline ps ≡ false → continued_from b ps ≡ continued_from c ps
no_newline_first b c ps h = grind (arith, continued_from_nearest)

pub continued-nil : continued [] ≡ []
unfolding continued
continued-nil = refl

-- a character that is no backslash
pub continued-plain : (p : Placed) (ps : List Placed) → is_backslash p ≡ false → continued (p ∷ ps) ≡ p ∷ continued ps
unfolding continued
continued-plain p ps e = grind (arith, continued_from_nearest)

-- a backslash that stays
pub continued-backslash : (p : Placed) (ps : List Placed) → begins_with is_newline ps ≡ false → continued (p ∷ ps) ≡ p ∷ continued ps
unfolding continued
continued-backslash p ps e = grind (arith, no_newline_first)

newline_no_backslash : (p : Placed) → is_newline p ≡ true → is_backslash p ≡ false
newline_no_backslash p e = rw (eqb-true p.char 10 e) refl

pub continued-gone : (p q : Placed) (ps : List Placed) → is_backslash p ≡ true → is_newline q ≡ true → continued (p ∷ q ∷ ps) ≡ continued ps
unfolding continued
continued-gone p q ps e f = grind (arith, continued_from_nearest)

-- the character that an item has
pub item_char : (p : Placed) (ch line : ℕ) → ◌≡◌ {A = Option (ℕ × ℕ)} (Some (ch, line)) (Some (p.char, p.line)) → p.char ≡ ch
item_char p ch line e = let q : ◌≡◌ {A = ℕ × ℕ} (ch, line) (p.char, p.line) = cc in sym (ap (λ t. t.0) q)

pub item_line : (p : Placed) (ch line : ℕ) → ◌≡◌ {A = Option (ℕ × ℕ)} (Some (ch, line)) (Some (p.char, p.line)) → line ≡ p.line
item_line p ch line e = let q : ◌≡◌ {A = ℕ × ℕ} (ch, line) (p.char, p.line) = cc in ap (λ t. t.1) q

-- an answer, and the reader after it, are those of these characters
pub record Steps (ps : List Placed) (total : ℕ) (r : Option (ℕ × ℕ)) (new : Cursor) : Type 0 where
  pub value : r ≡ first_of ps
  pub state : new ≡ after_of ps total

pub steps_same : (ps qs : List Placed) (total size : ℕ) (r : Option (ℕ × ℕ)) (new : Cursor) → Steps ps total r new → ps ≡ qs → total ≡ size
    → Steps qs size r new
steps_same ps qs total size r new s e f = record { value = rw e at s.value; state = rw (e, f) at s.state }

module _ (total : ℕ) (d : Cursor) where
  pub end_step : (ps : List Placed) (r : Option (ℕ × ℕ)) → r ≡ None → r ≡ first_of ps → d ≡ after_of ps total → Steps (continued ps) total None (joined d)
  end_step [] r n e f = record { value = rw continued-nil refl; state = rw (f, continued-nil) refl }
  end_step (p ∷ ps) r n e f = cc

  module _ (ch line : ℕ) where
    pub plain_step : (ps : List Placed) → Some (ch, line) ≡ first_of ps → d ≡ after_of ps total → ch ≢ 92
        → Steps (continued ps) total (Some (ch, line)) (joined d)
    plain_step ps h k e = grind (arith, continued-plain)

    pub backslash_step : (ps : List Placed) → Some (ch, line) ≡ first_of ps → d ≡ after_of ps total → begins_with is_newline d.rest ≡ false
        → Steps (continued ps) total (Some (ch, line)) (joined d)
    backslash_step ps h k e = grind (arith, continued-backslash)

-- what the next item says of the characters
pub is_item-first_of : (c : ℕ) (ps : List Placed) → is_item (first_of ps) c ≡ begins_with (λ p. p.char == c) ps
is_item-first_of c [] = refl
is_item-first_of c (p ∷ ps) = refl

-- what a look at the item after says of the characters there
pub looked : (c : ℕ) (ahead now : Cursor) (r : Option (ℕ × ℕ)) (t b : Bool) → ahead ≡ now → r ≡ first ahead → t ≡ is_item r c → t ≡ b
    → begins_with (λ p. p.char == c) now.rest ≡ b
looked c ahead now r t b same e f g =
    sym (is_item-first_of c now.rest) ∙ (ap (λ o. is_item o c) (sym (e ∙ ap first same)) ∙ (sym f ∙ g))

-- a backslash and the newline after it
pub gone_step : (ps : List Placed) (total ch line : ℕ) (d peek : Cursor) → Some (ch, line) ≡ first_of ps → d ≡ after_of ps total → ch ≡ 92
    → begins_with is_newline d.rest ≡ true → peek ≡ after d → continued peek.rest ≡ continued ps
gone_step ps total ch line d peek h k e l u = grind (arith, continued-gone)
