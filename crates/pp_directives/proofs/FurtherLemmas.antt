-- How far a lexer is, and whether the line before it is over.
use Rattle.std.proofs.Common.{◌≡◌, ℕ, zero, suc, ◌+◌, ◌≤◌, Bool, true, false, if◌then◌else◌, List, [], ◌∷◌, length, take, drop, refl, sym, ◌∙◌, ap, arith, length-drop, Ok, Err}
use Rattle.std.proofs.lemmas.List.{drop-drop, length-take}
use Rattle.pp_lexer.specs.Items.{Lexeme}
use Rattle.pp_lexer.specs.Lexed.{Seen, after_first_item, is_newline_lexeme, over_after_first}
use Rattle.pp_lexer.specs.declared.lexer.item.TokenValue.{TokenValue}
use Rattle.pp_lexer.specs.declared.lexer.item.TokenValue.TheVariants.{Hash, NewLine, Ident, Integer, Float, Punct}
use Rattle.pp_model.specs.Conversions.{is_newline}
use Rattle.pp_model.specs.Faults.{is_shown, shown_length}
use Rattle.pp_model.specs.Lines.{ends_line, line_length}
use Rattle.pp_model.specs.Moves.{Effect}
use Rattle.pp_macros.specs.inner.LineReading.{over_after, IsFurther}
use Rattle.pp_macros.specs.inner.SourceLexed.{SourceLexed}
use Rattle.pp_directives.proofs.ShownLemmas.{one_past}

-- a lexer and the definitions mean the same by a newline
newline_value : (value : TokenValue) → is_newline_lexeme (Ok (record { value = value; location = record { start = 0; end = 0; line = 0 }; leading_whitespace = false; start_of_line = false })) ≡ is_newline value
newline_value Hash = refl
newline_value NewLine = refl
newline_value (Ident name) = refl
newline_value (Integer i) = refl
newline_value (Float f) = refl
newline_value (Punct p) = refl

pub newline_ends : (item : Lexeme) → is_newline_lexeme item ≡ ends_line item
newline_ends (Ok token) = newline_value token.value
newline_ends (Err fault) = refl

-- the first item is taken, or the end is met
pub further_first : (over : Bool) (rest : List Seen) → IsFurther over rest (over_after_first rest over) (after_first_item rest)
further_first over [] = record { taken = 1; rest_is = refl; over_is = refl }
further_first over (s ∷ rest) = record { taken = 1; rest_is = refl; over_is = newline_ends s.item }

-- nothing is taken
pub further_none : (over : Bool) (rest : List Seen) → IsFurther over rest over rest
further_none over rest = record { taken = 0; rest_is = refl; over_is = refl }

nothing : (n : ℕ) → ◌≡◌ {A = List Seen} (take n []) []
nothing zero = refl
nothing (suc n) = refl

over_then : (m n : ℕ) (over : Bool) (rest : List Seen) → over_after (over_after over (take m rest)) (take n (drop m rest)) ≡ over_after over (take (m + n) rest)
over_then zero n over [] = let sum : n ≡ zero + n = omega arith in ap (λ k. over_after over (take k [])) sum
over_then zero n over (s ∷ rest) = let sum : n ≡ zero + n = omega arith in ap (λ k. over_after over (take k (s ∷ rest))) sum
over_then (suc m) n over [] = ap (over_after over) (nothing n ∙ sym (nothing (suc m + n)))
over_then (suc m) n over (s ∷ rest) =
    let sum : suc (m + n) ≡ suc m + n = omega arith in
    over_then m n (ends_line s.item) rest ∙ ap (λ k. over_after over (take k (s ∷ rest))) sum

-- some items are taken, and then others
pub further_then : (over mid_over new_over : Bool) (rest mid new : List Seen) → IsFurther over rest mid_over mid → IsFurther mid_over mid new_over new
    → IsFurther over rest new_over new
further_then over mid_over new_over rest mid new a b = record {
  taken = a.taken + b.taken;
  rest_is = b.rest_is ∙ ap (drop b.taken) a.rest_is ∙ drop-drop b.taken a.taken rest ∙ ap (λ n. drop n rest) (omega arith);
  over_is = b.over_is ∙ ap (λ items. over_after mid_over (take b.taken items)) a.rest_is
      ∙ ap (λ is. over_after is (take b.taken (drop a.taken rest))) a.over_is ∙ over_then a.taken b.taken over rest;
}

-- the same of lexers
abbrev pub GoesFurther : SourceLexed → SourceLexed → Type 0
GoesFurther old new = IsFurther old.over old.rest new.over new.rest

pub goes_then : (old mid new : SourceLexed) → GoesFurther old mid → GoesFurther mid new → GoesFurther old new
goes_then old mid new a b = further_then old.over mid.over new.over old.rest mid.rest new.rest a b

-- as many items are before the same items
same_before : (m n : ℕ) (rest : List Seen) → drop m rest ≡ drop n rest → take m rest ≡ take n rest
same_before zero zero rest e = refl
same_before zero (suc n) [] e = refl
same_before zero (suc n) (s ∷ rest) e = absurd (omega (arith, ap length e, length-drop n rest))
same_before (suc m) zero [] e = refl
same_before (suc m) zero (s ∷ rest) e = absurd (omega (arith, ap length e, length-drop m rest))
same_before (suc m) (suc n) [] e = refl
same_before (suc m) (suc n) (s ∷ rest) e = ap (λ items. s ∷ items) (same_before m n rest e)

-- after one item the line is over if it ends it
pub over_first : (over : Bool) (rest : List Seen) (mid_over : Bool) (mid : List Seen) (s : Seen) (more : List Seen) → rest ≡ s ∷ more
    → mid ≡ drop 1 rest → IsFurther over rest mid_over mid → mid_over ≡ ends_line s.item
over_first over rest mid_over mid s more is e f =
    f.over_is ∙ ap (over_after over) (same_before f.taken 1 rest (sym f.rest_is ∙ e)) ∙ ap (λ items. over_after over (take 1 items)) is

-- where nothing is left it is over as it was
pub over_last : (over : Bool) (rest : List Seen) (mid_over : Bool) (mid : List Seen) → rest ≡ [] → IsFurther over rest mid_over mid → mid_over ≡ over
over_last over rest mid_over mid none f = f.over_is ∙ ap (λ items. over_after over (take f.taken items)) none ∙ ap (over_after over) (nothing f.taken)

-- the rest of a line is passed after some items of it, unless it is over
line_left : (n : ℕ) (rest : List Seen) → n ≤ line_length rest
    → (if over_after false (take n rest) then drop n rest else drop (line_length (drop n rest)) (drop n rest)) ≡ drop (line_length rest) rest
line_left zero [] le = refl
line_left zero (s ∷ rest) le = refl
line_left (suc n) [] le = refl
line_left (suc n) (s ∷ rest) le = by (ends_line s.item) le (λ few. line_left n rest few)
  where
    at_end : (items : List Seen) → (if over_after true (take 0 items) then drop 0 items else drop (line_length (drop 0 items)) (drop 0 items)) ≡ items
    at_end [] = refl
    at_end (t ∷ items) = refl

    by : (ends : Bool) → suc n ≤ (if ends then 1 else 1 + line_length rest)
        → (n ≤ line_length rest → (if over_after false (take n rest) then drop n rest else drop (line_length (drop n rest)) (drop n rest))
        ≡ drop (line_length rest) rest)
        → (if over_after ends (take n rest) then drop n rest else drop (line_length (drop n rest)) (drop n rest))
        ≡ drop (if ends then 1 else 1 + line_length rest) (s ∷ rest)
    by true le later = let none : n ≡ 0 = omega (arith, le) in rw none (at_end rest)
    by false le later = later (omega (arith, le)) ∙ sym (ap (λ k. drop k (s ∷ rest)) (one_past (line_length rest)))

pub line_passed : (n : ℕ) (over : Bool) (rest : List Seen) (mid_over : Bool) (mid : List Seen) → over ≡ false → n ≤ line_length rest → mid ≡ drop n rest
    → IsFurther over rest mid_over mid → (if mid_over then mid else drop (line_length mid) mid) ≡ drop (line_length rest) rest
line_passed n over rest mid_over mid begun le e f =
    let is : mid_over ≡ over_after false (take n rest) =
    f.over_is ∙ ap (λ b. over_after b (take f.taken rest)) begun ∙ ap (over_after false) (same_before f.taken n rest (sym f.rest_is ∙ e)) in
    rw (is, e) (line_left n rest le)

-- what shows a fault of a line is within it
shown_few : (f : List Seen → Effect) (items : List Seen) → shown_length f items ≤ length items
shown_few f [] = omega arith
shown_few f (s ∷ items) = by (is_shown (f (s ∷ []))) (shown_few (λ more. f (s ∷ more)) items)
  where
    by : (shown : Bool) → shown_length (λ more. f (s ∷ more)) items ≤ length items
        → (if shown then 1 else 1 + shown_length (λ more. f (s ∷ more)) items) ≤ length (s ∷ items)
    by true few = omega arith
    by false few = omega (arith, few)

pub shown_within : (f : List Seen → Effect) (rest : List Seen) → shown_length f (take (line_length rest) rest) ≤ line_length rest
shown_within f rest = omega (arith, shown_few f (take (line_length rest) rest), length-take (line_length rest) rest)
