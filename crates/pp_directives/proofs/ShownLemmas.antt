-- How many items of a line show the fault of a part of it.
use Rattle.std.proofs.Common.{◌≡◌, ◌∙◌, ◌⊎◌, inl, inr, ℕ, suc, ◌+◌, Bool, true, false, if◌then◌else◌, List, [], ◌∷◌, take, drop, ap, sym, refl, arith, Result, Ok, Err}
use Rattle.pp_lexer.specs.Lexed.{Seen}
use Rattle.pp_expression.specs.Answers.{◌>>=◌}
use Rattle.pp_model.specs.Places.{Fault}
use Rattle.pp_model.specs.Faults.{is_shown}
use Rattle.pp_model.specs.Lines.{ends_line, line_length}
use Rattle.pp_macros.specs.inner.LineReading.{effect_of, shown_by, shown_on}

-- whether a part has a fault that isn't that of the end
abbrev pub fails_shown : {A : Type 0} → Result A Fault → Bool
fails_shown answer = is_shown (effect_of answer)

pub one_past : (n : ℕ) → 1 + n ≡ suc n
one_past n = omega arith

-- the line of an item that ends it, and of one that doesn't
pub line_ended : (s : Seen) (rest : List Seen) → ends_line s.item ≡ true → take (line_length (s ∷ rest)) (s ∷ rest) ≡ s ∷ []
line_ended s rest e = ap (λ (b : Bool). take (if b then 1 else 1 + line_length rest) (s ∷ rest)) e

pub line_going_on : (s : Seen) (rest : List Seen) → ends_line s.item ≡ false
    → take (line_length (s ∷ rest)) (s ∷ rest) ≡ s ∷ take (line_length rest) rest
line_going_on s rest e = ap (λ (b : Bool). take (if b then 1 else 1 + line_length rest) (s ∷ rest)) e
    ∙ ap (λ (n : ℕ). take n (s ∷ rest)) (one_past (line_length rest))

-- parts that show their faults with the same items
pub same_shown : {A B : Type 0} (f : List Seen → Result A Fault) (g : List Seen → Result B Fault)
    → ((items : List Seen) → fails_shown (f items) ≡ fails_shown (g items)) → (rest : List Seen) → shown_by f rest ≡ shown_by g rest
same_shown f g same [] = refl
same_shown f g same (s ∷ rest) =
    ap (λ (b : Bool). if b then 1 else 1 + shown_by (λ more. f (s ∷ more)) rest) (same (s ∷ []))
    ∙ ap (λ (n : ℕ). if fails_shown (g (s ∷ [])) then 1 else 1 + n)
    (same_shown (λ more. f (s ∷ more)) (λ more. g (s ∷ more)) (λ more. same (s ∷ more)) rest)

pub same_taken : {A B : Type 0} (f : List Seen → Result A Fault) (g : List Seen → Result B Fault)
    → ((items : List Seen) → fails_shown (f items) ≡ fails_shown (g items)) → (rest : List Seen)
    → drop (shown_on f rest) rest ≡ drop (shown_on g rest) rest
same_taken f g same rest = ap (λ (n : ℕ). drop n rest) (same_shown f g same (take (line_length rest) rest))

one_or_last : (b : Bool) → (if b then 1 else 1 + 0) ≡ 1
one_or_last true = refl
one_or_last false = refl

-- the first item shows the fault, or is the last one
first_by : {A : Type 0} (part : List Seen → Result A Fault) (s : Seen) (rest : List Seen) (ends : Bool) → ends_line s.item ≡ ends
    → (fails_shown (part (s ∷ [])) ≡ true) ⊎ (rest ≡ []) → shown_on part (s ∷ rest) ≡ 1
first_by part s rest true e h = ap (shown_by part) (line_ended s rest e) ∙ one_or_last (fails_shown (part (s ∷ [])))
first_by part s rest false e (inl shown) = ap (shown_by part) (line_going_on s rest e)
    ∙ ap (λ (b : Bool). if b then 1 else 1 + shown_by (λ more. part (s ∷ more)) (take (line_length rest) rest)) shown
first_by part s rest false e (inr none) = ap (shown_by part) (line_going_on s rest e ∙ ap (λ (r : List Seen). s ∷ take (line_length r) r) none)
    ∙ one_or_last (fails_shown (part (s ∷ [])))

first_taken : {A : Type 0} (part : List Seen → Result A Fault) (s : Seen) (rest : List Seen)
    → (fails_shown (part (s ∷ [])) ≡ true) ⊎ (rest ≡ []) → drop (shown_on part (s ∷ rest)) (s ∷ rest) ≡ rest
first_taken part s rest h = ap (λ (n : ℕ). drop n (s ∷ rest)) (first_by part s rest (ends_line s.item) refl h)

-- the item that ends the line is taken
pub end_taken : {A : Type 0} (part : List Seen → Result A Fault) (s : Seen) (rest : List Seen) → ends_line s.item ≡ true
    → drop (shown_on part (s ∷ rest)) (s ∷ rest) ≡ rest
end_taken part s rest e = ap (λ (n : ℕ). drop n (s ∷ rest)) (ap (shown_by part) (line_ended s rest e) ∙ one_or_last (fails_shown (part (s ∷ []))))

-- the first item doesn't show it and doesn't end the line, and then goes on another part
pub later_taken : {A B : Type 0} (part : List Seen → Result A Fault) (more : List Seen → Result B Fault) (s : Seen) (rest : List Seen)
    → ends_line s.item ≡ false → ((items : List Seen) → fails_shown (part (s ∷ items)) ≡ fails_shown (more items)) → fails_shown (more []) ≡ false
    → drop (shown_on part (s ∷ rest)) (s ∷ rest) ≡ drop (shown_on more rest) rest
later_taken part more s rest on same none =
    let line = take (line_length rest) rest in
    ap (λ (items : List Seen). drop (shown_by part items) (s ∷ rest)) (line_going_on s rest on)
    ∙ ap (λ (b : Bool). drop (if b then 1 else 1 + shown_by (λ items. part (s ∷ items)) line) (s ∷ rest)) (same [] ∙ none)
    ∙ ap (λ (n : ℕ). drop n (s ∷ rest)) (one_past (shown_by (λ items. part (s ∷ items)) line))
    ∙ ap (λ (n : ℕ). drop n rest) (same_shown (λ items. part (s ∷ items)) more same line)

-- a value that is shown in another way
pub mapped_shown : {A B : Type 0} (change : A → B) (answer : Result A Fault)
    → ◌≡◌ {A = Bool} (fails_shown {A = B} (answer >>= λ value. Ok (change value))) (fails_shown answer)
mapped_shown change (Ok value) = refl
mapped_shown change (Err fault) = refl

-- a part that reads its first item, and then goes on by what it found
module _ {A B : Type 0} (whole : List Seen → Result B Fault) (first : List Seen → Result A Fault)
    (next : Result A Fault → List Seen → Result B Fault) (is : (rest : List Seen) → whole rest ≡ next (first rest) (drop 1 rest))
    (only : (s : Seen) (items : List Seen) → first (s ∷ items) ≡ first (s ∷ [])) where
  after_first_is : (s : Seen) (rest : List Seen) (found : Result A Fault) → first (s ∷ rest) ≡ found → (items : List Seen)
      → whole (s ∷ items) ≡ next found items
  after_first_is s rest found e items = is (s ∷ items) ∙ ap (λ r. next r items) (only s items ∙ sym (only s rest) ∙ e)

  -- the first item doesn't show a fault
  pub shown_then : (rest : List Seen) (found : Result A Fault) → first rest ≡ found
      → ((s : Seen) (items : List Seen) → first (s ∷ items) ≡ found → ends_line s.item ≡ false) → fails_shown (next found []) ≡ false
      → drop (shown_on whole rest) rest ≡ drop (shown_on (next found) (drop 1 rest)) (drop 1 rest)
  shown_then [] found e on none = refl
  shown_then (s ∷ rest) found e on none =
      later_taken whole (next found) s rest (on s rest e) (λ items. ap fails_shown (after_first_is s rest found e items)) none

  -- it does, or is the last one
  pub shown_there : (rest after : List Seen) (found : Result A Fault) → first rest ≡ found → after ≡ drop 1 rest
      → (fails_shown (next found []) ≡ true) ⊎ (after ≡ []) → after ≡ drop (shown_on whole rest) rest
  shown_there [] after found e d h = d
  shown_there (s ∷ rest) after found e d (inl shown) =
      d ∙ sym (first_taken whole s rest (inl (ap fails_shown (after_first_is s rest found e []) ∙ shown)))
  shown_there (s ∷ rest) after found e d (inr none) = d ∙ sym (first_taken whole s rest (inr (sym d ∙ none)))
