-- An expression that is taken from the words of a line, and what the line gives by it.
use Rattle.std.proofs.Common.{◌≡◌, ◌∙◌, ℕ, zero, suc, ◌-◌, ◌≤◌, ℤ, pos, List, [], ◌∷◌, length, drop, slice_get, refl, ap, sym, subst, arith, length-append}
use Rattle.std.proofs.Common.{Option, Some, None, Result, Ok, Err, MatchResult, true, false, Bor, is_none}
use Rattle.std.proofs.lemmas.List.{length-map}
use Rattle.std.specs.Option.{option_copied, option_map_or}
use Rattle.pp_expression.specs.declared.symbol.Value.{Value}
use Rattle.pp_expression.specs.declared.symbol.Found.{Found}
use Rattle.pp_expression.specs.Trees.{spelling}
use Rattle.pp_expression.specs.FirstFault.{Evaluates, IsValue}
use Rattle.pp_model.specs.declared.place.Place.{Place}
use Rattle.pp_lexer.specs.declared.token.PreprocessorError.TheVariants.{LineOverflow}
use Rattle.pp_model.specs.Places.{PlacedFault}
use Rattle.pp_model.specs.LineWords.{Words}
use Rattle.pp_model.specs.LineValues.{ByExpression, IsAlone, Numbers, NumberBefore, TakesExpression, line_of, placed_fault}
use Rattle.pp_model.specs.LineValues.{symbol_of, unwanted_word, word_from_end, words_after}
use Rattle.pp_model.specs.declared.word.Word.{Word}
use Rattle.pp_model.specs.Numbering.{as_line_number}

get_after : {A : Type 0} (count : ℕ) (items : List A) → slice_get (drop count items) 0 ≡ slice_get items count
get_after zero items = refl
get_after (suc count) [] = refl
get_after (suc count) (item ∷ items) = get_after count items

none_after : {A : Type 0} (count : ℕ) (items : List A) → slice_get items count ≡ None → length items ≤ count
none_after zero [] none = omega arith
none_after zero (item ∷ items) none = absurd cc
none_after (suc count) [] none = omega arith
none_after (suc count) (item ∷ items) none = omega (arith, none_after count items none)

nothing_from : {A : Type 0} (count : ℕ) (items : List A) → length items ≤ count → slice_get items count ≡ None
nothing_from zero [] over = refl
nothing_from zero (item ∷ items) over = absurd (omega (arith, over))
nothing_from (suc count) [] over = refl
nothing_from (suc count) (item ∷ items) over = nothing_from count items (omega (arith, over))

none_there : {A : Type 0} (found : Option A) → is_none found ≡ true → found ≡ None
none_there None last = refl
none_there (Some item) last = absurd cc

-- nothing is there, if a reference to it is not
pub none_copied : {A : Type 0} (found : Option (Bor A)) → is_none (option_copied found) ≡ is_none found
none_copied None = refl
none_copied (Some item) = refl

-- at most the whole line comes after an expression
left_most : (words : Words) (v : Value) → IsValue (line_of words) v → v.left ≤ length words.words
left_most words v is = omega (
  arith,
  is.after,
  ap length is.reads.begins.symbols,
  length-append (spelling is.reads.tree) is.rest.symbols,
  length-map words.words symbol_of,
)

-- a fault of an expression that should be alone is the same, whatever is reported of its value
pub alone_at_fault : {A B : Type 0} (directive : Place) (words : Words) (first : ℤ → A) (second : ℤ → B) (fault : PlacedFault)
    → IsAlone directive words first (Err fault) → IsAlone directive words second (Err fault)
alone_at_fault {A} {B} directive words first second fault alone = at alone.evaluation alone.evaluated alone.is where
  by_word : (value : ℤ) (found : Option Word)
      → (let r : Result A PlacedFault = Err fault in r ≡ option_map_or (λ word. Err (unwanted_word word)) found (Ok (first value)))
      → (let r : Result B PlacedFault = Err fault in r ≡ option_map_or (λ word. Err (unwanted_word word)) found (Ok (second value)))
  by_word value None is = absurd cc
  by_word value (Some word) is = let e : fault ≡ unwanted_word word = cc in ap Err e

  at : (e : Result Value Found) → Evaluates (line_of words) e
      → (let r : Result A PlacedFault = Err fault in MatchResult e
      (λ v. r ≡ option_map_or (λ word. Err (unwanted_word word)) (word_from_end v.left words) (Ok (first v.value)))
      (λ found. r ≡ Err (placed_fault directive words found.kind found.left)))
      → IsAlone directive words second (Err fault)
  at (Ok v) evaluated by = record { evaluation = Ok v; evaluated = evaluated; is = by_word v.value (word_from_end v.left words) by }
  at (Err found) evaluated by =
      record { evaluation = Err found; evaluated = evaluated; is = let e : fault ≡ placed_fault directive words found.kind found.left = cc in ap Err e }

-- it has none of them, whatever `further` makes of what is reported of its value
pub alone_at_value : {A B : Type 0} (directive : Place) (words : Words) (first : ℤ → A) (further : A → B) (x : A)
    → IsAlone directive words first (Ok x) → IsAlone directive words (λ value. further (first value)) (Ok (further x))
alone_at_value {A} {B} directive words first further x alone = at alone.evaluation alone.evaluated alone.is where
  by_word : (value : ℤ) (found : Option Word)
      → (let r : Result A PlacedFault = Ok x in r ≡ option_map_or (λ word. Err (unwanted_word word)) found (Ok (first value)))
      → (let r : Result B PlacedFault = Ok (further x) in
      r ≡ option_map_or (λ word. Err (unwanted_word word)) found (Ok (further (first value))))
  by_word value None is = let e : x ≡ first value = cc in ap (λ (y : A). Ok (further y)) e
  by_word value (Some word) is = absurd cc

  at : (e : Result Value Found) → Evaluates (line_of words) e
      → (let r : Result A PlacedFault = Ok x in MatchResult e
      (λ v. r ≡ option_map_or (λ word. Err (unwanted_word word)) (word_from_end v.left words) (Ok (first v.value)))
      (λ found. r ≡ Err (placed_fault directive words found.kind found.left)))
      → IsAlone directive words (λ value. further (first value)) (Ok (further x))
  at (Ok v) evaluated by = record { evaluation = Ok v; evaluated = evaluated; is = by_word v.value (word_from_end v.left words) by }
  at (Err found) evaluated by = absurd cc

module _ (directive : Place) (words after : Words) (taken : Result ℤ PlacedFault) (takes : TakesExpression directive words taken after) where
  module _ {A : Type 0} (By : Value → Result A PlacedFault → Type 0) where
    -- the fault of the expression is that of the line
    pub fault_first : (fault : PlacedFault) → taken ≡ Err fault → ByExpression directive words By (Err fault)
    fault_first fault is = at takes.evaluation takes.evaluated takes.is where
      as_fault : Result ℤ PlacedFault → Result A PlacedFault
      as_fault (Ok n) = Err fault
      as_fault (Err other) = Err other

      at : (e : Result Value Found) → Evaluates (line_of words) e
          → MatchResult e (λ v. (taken ≡ Ok v.value) × (after ≡ words_after v.left words))
          (λ found. taken ≡ Err (placed_fault directive words found.kind found.left))
          → ByExpression directive words By (Err fault)
      at (Ok v) evaluated by = let e = sym is ∙ by.0 in absurd cc
      at (Err found) evaluated by = record { evaluation = Err found; evaluated = evaluated; is = ap as_fault (sym is ∙ by) }

    -- what the line gives by the value of the expression
    pub value_first : (value : ℤ) (result : Result A PlacedFault) → taken ≡ Ok value
        → ((v : Value) → v.left ≤ length words.words → value ≡ v.value → after ≡ words_after v.left words → By v result)
        → ByExpression directive words By result
    value_first value result is gives = at takes.evaluation takes.evaluated takes.is where
      value_of : Result ℤ PlacedFault → ℤ
      value_of (Ok n) = n
      value_of (Err fault) = pos 0

      at : (e : Result Value Found) → Evaluates (line_of words) e
          → MatchResult e (λ v. (taken ≡ Ok v.value) × (after ≡ words_after v.left words))
          (λ found. taken ≡ Err (placed_fault directive words found.kind found.left))
          → ByExpression directive words By result
      at (Ok v) evaluated by =
          record { evaluation = Ok v; evaluated = evaluated; is = gives v (left_most words v evaluated) (ap value_of (sym is ∙ by.0)) by.1 }
      at (Err found) evaluated by = let e = sym is ∙ by in absurd cc

  -- the word after the expression
  next_after : (left : ℕ) → after ≡ words_after left words → slice_get after.words 0 ≡ word_from_end left words
  next_after left is = rw is (get_after (length words.words - left) words.words)

  -- a word after an expression that should be alone is a fault
  pub alone_then : {A : Type 0} (report : ℤ → A) (value : ℤ) → taken ≡ Ok value
      → IsAlone directive words report (option_map_or (λ word. Err (unwanted_word word)) (slice_get after.words 0) (Ok (report value)))
  alone_then report value is = value_first _ value _ is
      (λ v most same left. rw (same, next_after v.left left) refl)

  pub numbers_out : (value : ℤ) → taken ≡ Ok value → as_line_number value ≡ None → Numbers directive words (Err (LineOverflow, directive))
  numbers_out value is none = value_first _ value _ is (λ v most same left. rw (← same, none) refl)

  module _ (value : ℤ) (n : ℕ) (is : taken ≡ Ok value) (some : as_line_number value ≡ Some n) where
    -- nothing is left after the expression
    nothing_left : (left : ℕ) → left ≤ length words.words → after ≡ words_after left words → slice_get after.words 0 ≡ None → left ≡ 0
    nothing_left left most rest none =
        omega (arith, most, none_after (length words.words - left) words.words (sym (next_after left rest) ∙ none))

    pub numbers_alone : is_none (slice_get after.words 0) ≡ true → Numbers directive words (Ok n)
    numbers_alone last = value_first _ value _ is
        (λ v most same left. rw (← same, some, nothing_left v.left most left (none_there _ last)) refl)

    pub numbers_followed : (result : Result ℕ PlacedFault) → is_none (slice_get after.words 0) ≡ false
        → IsAlone directive after (λ value. n) result → Numbers directive words result
    numbers_followed result more alone = value_first _ value _ is
        (λ v most same left. rw (← same, some) (before_others v.left left))
      where
        before_others : (left : ℕ) → after ≡ words_after left words → NumberBefore directive words n left result
        before_others zero rest =
            let e = ap is_none (next_after 0 rest ∙ nothing_from (length words.words - 0) words.words (omega arith)) in absurd cc
        before_others (suc left) rest = subst (λ (w : Words). IsAlone directive w (λ value. n) result) rest alone
