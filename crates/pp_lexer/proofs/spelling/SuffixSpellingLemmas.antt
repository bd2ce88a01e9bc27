-- The suffix of a number that is spelled is read back.
use Rattle.std.proofs.Common.{◌≡◌, ℕ, ℤ, List, [], ◌++◌, codes, length, drop, Bool, true, false, not, ◌⊎◌, inl, inr, refl, sym, ◌∙◌, ap, subst, None, MatchBool, pos}
use Rattle.std.proofs.lemmas.List.{drop_at}
use Rattle.pp_lexer.specs.declared.rules.Rules.{Rules}
use Rattle.pp_lexer.specs.Numbers.{is_number}
use Rattle.pp_lexer.specs.NumberValue.{is_l, is_h, is_s, is_f, is_u, width_refusal, float_suffix, integer_suffix}
use Rattle.pp_lexer.specs.Respelling.{IsWidth}
use Rattle.pp_lexer.specs.Spelling.{width_letters, integer_letters}
use Rattle.pp_lexer.specs.Surroundings.{begins_with}
use Rattle.pp_lexer.proofs.numbers.SuffixesLemmas.{none_refused, float_usual, integer_usual, unsigned_usual}
use Rattle.pp_lexer.proofs.numbers.NumberSetsLemmas.{number_lacks}
use Rattle.pp_lexer.proofs.spelling.SpelledWordLemmas.{IsBreak, break_begins, number_ends}
use Rattle.pp_lexer.proofs.words.BoundedLemmas.{EndsBefore}

-- the usual width, or one of the others where these are taken
width_cases : (rules : Rules) (width : ℤ) → IsWidth rules width
    → (width ≡ pos 32) ⊎ ((rules.takes_widths ≡ true) × ((width ≡ pos 64) ⊎ (width ≡ pos 16)))
width_cases rules width = by rules.takes_widths refl
  where
    by : (t : Bool) → rules.takes_widths ≡ t → MatchBool t ((width ≡ pos 32) ⊎ ((width ≡ pos 64) ⊎ (width ≡ pos 16))) (width ≡ pos 32)
        → (width ≡ pos 32) ⊎ ((rules.takes_widths ≡ true) × ((width ≡ pos 64) ⊎ (width ≡ pos 16)))
    by false e h = inl h
    by true e (inl h) = inl h
    by true e (inr h) = inr (e, h)

-- Integers

module _ (rules : Rules) (cs : List ℕ) (b : IsBreak cs) where
  -- what the letters of an integer are read as, with a break after them
  pub record EndsInteger (letters : List ℕ) (signed : Bool) (width : ℤ) : Type 0 where
    pub ends : EndsBefore is_number (letters ++ cs)
    pub suffix : integer_suffix rules (letters ++ cs) ≡ record { taken = length letters; width = width }
    pub sign : not (begins_with is_u (letters ++ cs)) ≡ signed

  usual : (signed : Bool) → EndsInteger (integer_letters signed (pos 32)) signed (pos 32)
  usual true = record {
    ends = number_ends cs b;
    suffix = integer_usual rules cs (break_begins is_l refl cs b) (break_begins is_s refl cs b) (break_begins is_u refl cs b);
    sign = ap not (break_begins is_u refl cs b);
  }
  usual false = record {
    ends = number_lacks 117 refl refl refl refl refl refl refl;
    suffix = unsigned_usual rules cs (break_begins is_l refl cs b) 117 (break_begins is_s refl cs b) refl;
    sign = refl;
  }

  long : rules.takes_widths ≡ true → (signed : Bool) → EndsInteger (integer_letters signed (pos 64)) signed (pos 64)
  long e true = record { ends = number_lacks 108 refl refl refl refl refl refl refl; suffix = rw e refl; sign = refl }
  long e false = record { ends = number_lacks 117 refl refl refl refl refl refl refl; suffix = rw e refl; sign = refl }

  short : rules.takes_widths ≡ true → (signed : Bool) → EndsInteger (integer_letters signed (pos 16)) signed (pos 16)
  short e true = record { ends = number_lacks 115 refl refl refl refl refl refl refl; suffix = rw e refl; sign = refl }
  short e false = record { ends = number_lacks 117 refl refl refl refl refl refl refl; suffix = rw e refl; sign = refl }

  pub integer_ends : (signed : Bool) (width : ℤ) → IsWidth rules width → EndsInteger (integer_letters signed width) signed width
  integer_ends signed width h = by (width_cases rules width h)
    where
      by : (width ≡ pos 32) ⊎ ((rules.takes_widths ≡ true) × ((width ≡ pos 64) ⊎ (width ≡ pos 16)))
          → EndsInteger (integer_letters signed width) signed width
      by (inl e) = subst (λ w. EndsInteger (integer_letters signed w) signed w) (sym e) (usual signed)
      by (inr (t, inl e)) = subst (λ w. EndsInteger (integer_letters signed w) signed w) (sym e) (long t signed)
      by (inr (t, inr e)) = subst (λ w. EndsInteger (integer_letters signed w) signed w) (sym e) (short t signed)

  -- no letter is refused after them
  pub integer_unrefused : (letters : List ℕ) → width_refusal rules is_s (drop (length letters) (letters ++ cs)) ≡ None
  integer_unrefused letters =
      ap (width_refusal rules is_s) (drop_at letters cs (length letters) refl)
      ∙ none_refused rules cs (break_begins is_l refl cs b) is_s (break_begins is_s refl cs b)

  -- Floats

  pub record EndsFloat (letters : List ℕ) (width : ℤ) : Type 0 where
    pub ends : EndsBefore is_number (letters ++ cs)
    pub suffix : float_suffix rules (letters ++ cs) ≡ record { taken = length letters; width = width }
    pub unrefused : width_refusal rules is_h (letters ++ cs) ≡ None

  usual_float : EndsFloat [] (pos 32)
  usual_float = record {
    ends = number_ends cs b;
    suffix = float_usual rules cs (break_begins is_l refl cs b) (break_begins is_h refl cs b) ∙ rw (break_begins is_f refl cs b) refl;
    unrefused = none_refused rules cs (break_begins is_l refl cs b) is_h (break_begins is_h refl cs b);
  }

  pub float_ends : (width : ℤ) → IsWidth rules width → EndsFloat (width_letters (codes "lf") (codes "hf") width) width
  float_ends width h = by (width_cases rules width h)
    where
      by : (width ≡ pos 32) ⊎ ((rules.takes_widths ≡ true) × ((width ≡ pos 64) ⊎ (width ≡ pos 16)))
          → EndsFloat (width_letters (codes "lf") (codes "hf") width) width
      by (inl e) = subst (λ w. EndsFloat (width_letters (codes "lf") (codes "hf") w) w) (sym e) usual_float
      by (inr (t, inl e)) = subst (λ w. EndsFloat (width_letters (codes "lf") (codes "hf") w) w) (sym e)
          (record { ends = number_lacks 108 refl refl refl refl refl refl refl; suffix = rw t refl; unrefused = rw t refl })
      by (inr (t, inr e)) = subst (λ w. EndsFloat (width_letters (codes "lf") (codes "hf") w) w) (sym e)
          (record { ends = number_lacks 104 refl refl refl refl refl refl refl; suffix = rw t refl; unrefused = rw t refl })
