-- The suffix of a number, by the letters that are here.
use Rattle.std.proofs.Common.{◌≡◌, ℕ, ◌+◌, List, ◌∷◌, Bool, true, false, length, refl, Ok, None, pos, add-zero, arith}
use Rattle.pp_lexer.specs.declared.lexer.item.TokenValue.{TokenValue}
use Rattle.pp_lexer.specs.declared.rules.Rules.{Rules}
use Rattle.pp_lexer.specs.NumberValue.{is_l, is_h, is_s, is_f, is_u, width_refusal, usual_suffix, float_suffix, integer_suffix, float_value, float_outcome, integer_value, integer_outcome}
use Rattle.pp_lexer.specs.Surroundings.{begins_with}

module _ (rules : Rules) (cs : List ℕ) (long : begins_with is_l cs ≡ false) where
  -- no letter of a width is here
  pub none_refused : (is_short : ℕ → Bool) → begins_with is_short cs ≡ false → width_refusal rules is_short cs ≡ None
  none_refused is_short short = grind arith

  pub float_usual : begins_with is_h cs ≡ false → float_suffix rules cs ≡ usual_suffix is_f cs
  float_usual short = grind arith

  pub integer_usual : begins_with is_s cs ≡ false → begins_with is_u cs ≡ false → integer_suffix rules cs ≡ record { taken = 0; width = pos 32 }
  integer_usual short unsigned = grind arith

  -- a `u` and no letter of a width after it
  pub unsigned_usual : (u : ℕ) → begins_with is_s cs ≡ false → is_u u ≡ true → integer_suffix rules (u ∷ cs) ≡ record { taken = 1; width = pos 32 }
  unsigned_usual u short unsigned = grind arith

-- an `f` here
pub float_letter : (rules : Rules) (f : ℕ) (cs : List ℕ) → is_f f ≡ true → float_suffix rules (f ∷ cs) ≡ record { taken = 1; width = pos 32 }
float_letter rules f cs h = grind arith

-- The outcomes of numbers, by their values of 32 bits

module _ (rules : Rules) (w cs : List ℕ) (value : TokenValue) (long : begins_with is_l cs ≡ false) where
  pub integer_alone : integer_value true (pos 32) w ≡ Ok value → begins_with is_s cs ≡ false → begins_with is_u cs ≡ false
      → integer_outcome rules w cs ≡ record { value = Ok value; taken = length w }
  integer_alone read short unsigned =
      rw (integer_usual rules cs long short unsigned, unsigned, none_refused rules cs long is_s short, read, add-zero (length w)) refl

  pub integer_unsigned : (u : ℕ) → integer_value false (pos 32) w ≡ Ok value → begins_with is_s cs ≡ false → is_u u ≡ true
      → integer_outcome rules w (u ∷ cs) ≡ record { value = Ok value; taken = length w + 1 }
  integer_unsigned u read short unsigned =
      rw (unsigned_usual rules cs long u short unsigned, unsigned, none_refused rules cs long is_s short, read) refl

  pub float_alone : float_value (pos 32) w ≡ Ok value → begins_with is_h cs ≡ false → begins_with is_f cs ≡ false
      → float_outcome rules w cs ≡ record { value = Ok value; taken = length w }
  float_alone read short letter =
      rw (float_usual rules cs long short, letter, none_refused rules cs long is_h short, read, add-zero (length w)) refl

f_no_l : (f : ℕ) → is_f f ≡ true → is_l f ≡ false
f_no_l f h = grind arith

f_no_h : (f : ℕ) → is_f f ≡ true → is_h f ≡ false
f_no_h f h = grind arith

pub float_suffixed : (rules : Rules) (f : ℕ) (w cs : List ℕ) (value : TokenValue) → float_value (pos 32) w ≡ Ok value → is_f f ≡ true
    → float_outcome rules w (f ∷ cs) ≡ record { value = Ok value; taken = length w + 1 }
float_suffixed rules f w cs value read letter =
    rw (float_letter rules f cs letter, none_refused rules (f ∷ cs) (f_no_l f letter) is_h (f_no_h f letter), read) refl
