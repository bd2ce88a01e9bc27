-- What the lexer gives of a number can be spelled.
use Rattle.std.proofs.Common.{◌≡◌, ℕ, ℤ, pos, ◌^◌, ◌<◌, List, [], ◌∷◌, drop, Bool, true, false, not, refl, ◌∙◌, ap, arith, inl, inr, ◌⊎◌, MatchBool, Ok, Err, Option, Some, None, if◌then◌else◌}
use Rattle.std.specs.List.{list_all, list_any}
use Rattle.std.proofs.lemmas.Bool.{or_cases, or_right}
use Rattle.pp_lexer.specs.declared.rules.Rules.{Rules}
use Rattle.pp_lexer.specs.declared.lexer.item.TokenValue.TheVariants.{Float}
use Rattle.pp_lexer.specs.declared.token.PreprocessorError.{PreprocessorError}
use Rattle.pp_lexer.specs.declared.token.PreprocessorError.TheVariants.{FloatParsingError}
use Rattle.pp_lexer.specs.Numbers.{is_x}
use Rattle.pp_lexer.specs.NumberValue.{is_h, is_s, is_u, begins_hex, is_float, float_text, float_value, float_outcome, whole, base_of, digits_of, integer_suffix, float_suffix, is_float_text, integer_value, integer_outcome, width_refusal, number_outcome}
use Rattle.pp_lexer.specs.inner.NumberValue.{is_float_mark, integer_of, unless_refused, small_e}
use Rattle.pp_lexer.specs.Outcome.{Answer}
use Rattle.pp_lexer.specs.Respelling.{IsWidth, IsSpelled}
use Rattle.pp_lexer.specs.Surroundings.{begins_with}

-- a suffix says a width that the lexer gives

usual_width : (rules : Rules) → IsWidth rules (pos 32)
usual_width rules = by rules.takes_widths
  where
    by : (t : Bool) → MatchBool t ((pos 32 ≡ pos 32) ⊎ ((pos 32 ≡ pos 64) ⊎ (pos 32 ≡ pos 16))) (pos 32 ≡ pos 32)
    by true = inl refl
    by false = refl

other_width : (rules : Rules) (width : ℤ) → rules.takes_widths ≡ true → (width ≡ pos 32) ⊎ ((width ≡ pos 64) ⊎ (width ≡ pos 16)) → IsWidth rules width
other_width rules width e h = rw e h

float_width : (rules : Rules) (after : List ℕ) → IsWidth rules (float_suffix rules after).width
float_width rules after = grind (arith, usual_width, other_width)

integer_width : (rules : Rules) (after : List ℕ) → IsWidth rules (integer_suffix rules after).width
integer_width rules after = grind (arith, usual_width, other_width)

-- a number that is read is below 2^64
whole_small : (base : ℕ) (ds : List ℕ) (n : ℕ) → whole base ds ≡ Some n → n < 2 ^ 64
whole_small base ds n h = grind arith

integer_spelled : (rules : Rules) (signed : Bool) (width : ℤ) (o : Option ℕ) → IsWidth rules width → ((n : ℕ) → o ≡ Some n → n < 2 ^ 64)
    → IsSpelled rules (integer_of signed width o)
integer_spelled rules signed width None is h = tt
integer_spelled rules signed width (Some n) is h = (h n refl, is)

refused_spelled : (rules : Rules) (o : Option PreprocessorError) (a : Answer) → IsSpelled rules a → IsSpelled rules (unless_refused o a)
refused_spelled rules None a h = h
refused_spelled rules (Some fault) a h = tt

-- what is left of a float's spelling

no_x_kept : (w : List ℕ) → list_all (λ c. not (is_x c)) (float_text w) ≡ true
no_x_kept [] = refl
no_x_kept (c ∷ w) = grind (arith, no_x_kept w)

no_hex : (w : List ℕ) → list_all (λ c. not (is_x c)) w ≡ true → begins_hex w ≡ false
no_hex w h = grind arith

marked : (hex : Bool) (c : ℕ) (w : List ℕ) → is_float_mark hex c ≡ true → list_any (is_float_mark false) (float_text (c ∷ w)) ≡ true
marked hex c w h = grind arith

mark_kept : (hex : Bool) (w : List ℕ) → list_any (is_float_mark hex) w ≡ true → list_any (is_float_mark false) (float_text w) ≡ true
mark_kept hex [] h = cc
mark_kept hex (c ∷ w) h =
    elim (or_cases (is_float_mark hex c) (list_any (is_float_mark hex) w) h) [
      | inl m ↦ marked hex c w m
      | inr k ↦ later (is_x c) refl (mark_kept hex w k)
    ]
  where
    later : (b : Bool) → is_x c ≡ b → list_any (is_float_mark false) (float_text w) ≡ true → list_any (is_float_mark false) (float_text (c ∷ w)) ≡ true
    later true e k = rw e k
    later false e k = rw e (or_right (is_float_mark false (small_e c)) (list_any (is_float_mark false) (float_text w)) k)

still_float : (w : List ℕ) → is_float w ≡ true → is_float (float_text w) ≡ true
still_float w h = ap (λ b. list_any (is_float_mark b) (float_text w)) (no_hex (float_text w) (no_x_kept w)) ∙ mark_kept (begins_hex w) w h

float_spelled : (rules : Rules) (width : ℤ) (w : List ℕ) → IsWidth rules width → is_float w ≡ true → IsSpelled rules (float_value width w)
float_spelled rules width w is h = by (is_float_text (float_text w)) refl
  where
    by : (b : Bool) → is_float_text (float_text w) ≡ b
        → IsSpelled rules (if b then Ok (Float (record { text = float_text w; width = width })) else Err FloatParsingError)
    by true e = (e, still_float w h, is)
    by false e = tt

-- an error, or a value that can be spelled
pub number_spelled : (rules : Rules) (w after : List ℕ) → IsSpelled rules (number_outcome rules w after).value
number_spelled rules w after = by (is_float w) refl
  where
    by : (b : Bool) → is_float w ≡ b → IsSpelled rules (if b then float_outcome rules w after else integer_outcome rules w after).value
    by true e = refused_spelled rules (width_refusal rules is_h after) (float_value (float_suffix rules after).width w)
        (float_spelled rules (float_suffix rules after).width w (float_width rules after) e)
    by false e =
        let signed : Bool = not (begins_with is_u after) in
        let suffix = integer_suffix rules after in
        refused_spelled rules (width_refusal rules is_s (drop suffix.taken after)) (integer_value signed suffix.width w)
        (integer_spelled rules signed suffix.width (whole (base_of w) (digits_of w)) (integer_width rules after)
        (whole_small (base_of w) (digits_of w)))
