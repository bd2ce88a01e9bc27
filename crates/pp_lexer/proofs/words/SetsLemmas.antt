-- Sets of spellings that lie in others, segment by segment.
use Rattle.std.proofs.Common.{◌≡◌, ℕ, List, [], ◌∷◌, Bool, true, false, ◌&&◌, ◌||◌, ◌==◌, not, refl, sym, ◌∙◌, ap, inl, inr, arith}
use Rattle.std.specs.List.{list_all}
use Rattle.std.proofs.lemmas.Bool.{or_cases, or_left, or_right, and_parts, ne_eqb, false≢true, and_from}
use Rattle.pp_lexer.specs.Spellings.{nothing, one, many, maybe, optional}

-- each character that passes the first test passes the second
abbrev pub Implies : (ℕ → Bool) → (ℕ → Bool) → Type 0
Implies p q = (c : ℕ) → p c ≡ true → q c ≡ true

-- each spelling of the first set is in the second
abbrev pub IsPart : (List ℕ → Bool) → (List ℕ → Bool) → Type 0
IsPart P Q = (w : List ℕ) → P w ≡ true → Q w ≡ true

-- the set's spellings have only characters that pass
abbrev pub IsMadeOf : (ℕ → Bool) → (List ℕ → Bool) → Type 0
IsMadeOf p P = IsPart P (list_all p)

-- a character that is not the other
abbrev pub is_other : ℕ → ℕ → Bool
is_other k c = not (c == k)

-- the set's spellings don't have the character
abbrev pub Lacks : ℕ → (List ℕ → Bool) → Type 0
Lacks k P = IsMadeOf (is_other k) P

-- characters that pass are not one that fails
pub missing : (p : ℕ → Bool) (k : ℕ) → p k ≡ false → Implies p (is_other k)
missing p k h c e = ap not (ne_eqb c k (λ s. false≢true (sym h ∙ ap p (sym s) ∙ e)))

-- a union lies where both sets lie
pub union_part : (P Q R : List ℕ → Bool) → IsPart P R → IsPart Q R → IsPart (λ w. P w || Q w) R
union_part P Q R h k w e = grind arith

-- what lies in a set lies in its union with another
pub left_part : (P Q R : List ℕ → Bool) → IsPart P Q → IsPart P (λ w. Q w || R w)
left_part P Q R h w e = or_left (Q w) (R w) (h w e)

-- and in the union of another with it
pub right_part : (P Q R : List ℕ → Bool) → IsPart P R → IsPart P (λ w. Q w || R w)
right_part P Q R h w e = or_right (Q w) (R w) (h w e)

-- sets of the same form, by their parts
module _ (p q : ℕ → Bool) (P Q : List ℕ → Bool) (chars : Implies p q) (tails : IsPart P Q) where
  -- one character, and what follows
  pub one_part : IsPart (one p P) (one q Q)
  one_part [] e = e
  one_part (c ∷ w) e = let b = and_parts (p c) (P w) e in and_from (q c) (Q w) (chars c b.0) (tails w b.1)

  -- any number of characters, and what follows
  pub many_part : IsPart (many p P) (many q Q)
  many_part [] e = tails [] e
  many_part (c ∷ w) e =
      elim (or_cases (P (c ∷ w)) (p c && many p P w) e) [
        | inl x ↦ or_left (Q (c ∷ w)) (q c && many q Q w) (tails (c ∷ w) x)
        | inr y ↦
            let b = and_parts (p c) (many p P w) y in
            or_right (Q (c ∷ w)) (q c && many q Q w) (and_from (q c) (many q Q w) (chars c b.0) (many_part w b.1))
      ]

  -- one character or none, and what follows
  pub maybe_part : IsPart (maybe p P) (maybe q Q)
  maybe_part w e = grind arith

-- a spelling or nothing
pub optional_part : (P Q : List ℕ → Bool) → IsPart P Q → IsPart (optional P) (optional Q)
optional_part P Q h w e = grind arith

-- characters that pass, by the parts
module _ (p : ℕ → Bool) where
  -- the empty spelling
  pub made_nothing : IsMadeOf p nothing
  made_nothing [] e = refl
  made_nothing (c ∷ w) e = absurd (false≢true e)

  module _ (q : ℕ → Bool) (P : List ℕ → Bool) (chars : Implies q p) (tails : IsMadeOf p P) where
    -- one character, and what follows
    pub made_one : IsMadeOf p (one q P)
    made_one [] e = refl
    made_one (c ∷ w) e = let b = and_parts (q c) (P w) e in and_from (p c) (list_all p w) (chars c b.0) (tails w b.1)

    -- any number of characters, and what follows
    pub made_many : IsMadeOf p (many q P)
    made_many [] e = refl
    made_many (c ∷ w) e =
        elim (or_cases (P (c ∷ w)) (q c && many q P w) e) [
          | inl x ↦ tails (c ∷ w) x
          | inr y ↦ let b = and_parts (q c) (many q P w) y in and_from (p c) (list_all p w) (chars c b.0) (made_many w b.1)
        ]

    -- one character or none, and what follows
    pub made_maybe : IsMadeOf p (maybe q P)
    made_maybe = union_part P (one q P) (list_all p) tails made_one

  -- a spelling or nothing
  pub made_optional : (P : List ℕ → Bool) → IsMadeOf p P → IsMadeOf p (optional P)
  made_optional P h = union_part nothing P (list_all p) made_nothing h

-- characters that pass are a spelling, where more of them and nothing may follow
pub all_many : (p : ℕ → Bool) (P : List ℕ → Bool) → P [] ≡ true → IsPart (list_all p) (many p P)
all_many p P h [] e = h
all_many p P h (c ∷ w) e =
    let b = and_parts (p c) (list_all p w) e in
    or_right (P (c ∷ w)) (p c && many p P w) (and_from (p c) (many p P w) b.0 (all_many p P h w b.1))
