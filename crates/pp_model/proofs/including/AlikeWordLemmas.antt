-- Alike words of lines: what they are in the grammar of expressions, and which faults are found in them.
use Rattle.std.proofs.Common.{◌≡◌, ℕ, zero, suc, ◌-◌, List, [], ◌∷◌, refl, subst, ap, Option, Some, None}
use Rattle.std.specs.Prelude.{ℤ, Result, Ok, Err, MatchOption, MatchResult, length, map, option_map, option_and_then, unwrap_or}
use Rattle.std.specs.Option.{option_map_or}
use Rattle.pp_expression.specs.FirstFault.{Evaluates}
use Rattle.pp_expression.specs.Lines.{Line}
use Rattle.pp_expression.specs.declared.symbol.ExpressionFault.{ExpressionFault}
use Rattle.pp_expression.specs.declared.symbol.ExpressionFault.TheVariants as kind
use Rattle.pp_expression.specs.declared.symbol.Found.{Found}
use Rattle.pp_expression.specs.declared.symbol.Value.{Value}
use Rattle.pp_lexer.specs.declared.token.PreprocessorError.TheVariants.{UnexpectedToken, LineOverflow}
use Rattle.pp_model.specs.LineValues.{symbol_of, line_of, word_from_end, unwanted_word, operand_fault, placed_fault, ended_early, ByExpression, words_after, IsAlone, NumberBefore, Numbers}
use Rattle.pp_model.specs.LineWords.{Words}
use Rattle.pp_model.specs.Numbering.{as_line_number}
use Rattle.pp_model.specs.Places.{PlacedFault}
use Rattle.pp_model.specs.declared.place.Place.{Place}
use Rattle.pp_model.specs.declared.word.Word.{Word}
use Rattle.pp_model.specs.declared.word.Word.TheVariants.{Plain, Defined}
use Rattle.pp_model.specs.inner.Alike.{Pairs, Both, AlikePlace, AlikeFault, AlikeResult}
use Rattle.pp_model.proofs.including.AlikeListLemmas.{pairs_length, pairs_get, pairs_drop}

-- the same values at alike places
abbrev pub AlikeWord : Word → Word → Type 0
AlikeWord (Plain v x) (Plain w y) = (v ≡ w) × AlikePlace x y
AlikeWord (Defined x r) (Defined y s) = AlikePlace x y × AlikeResult (λ b c. b ≡ c) r s
AlikeWord _ _ = ⊥

pub record AlikeWords (x y : Words) : Type 0 where
  pub words : Pairs AlikeWord x.words y.words
  pub ending : Both AlikeFault x.ending y.ending

symbol_alike : (x y : Word) → AlikeWord x y → symbol_of x ≡ symbol_of y
symbol_alike (Plain v x) (Plain w y) a = rw a.0 refl
symbol_alike (Defined x (Ok b)) (Defined y (Ok c)) a = rw a.1 refl
symbol_alike (Defined x (Err f)) (Defined y (Err g)) a = refl
symbol_alike (Defined x (Ok b)) (Defined y (Err g)) a = absurd a.1
symbol_alike (Defined x (Err f)) (Defined y (Ok c)) a = absurd a.1
symbol_alike _ _ a = absurd a

symbols_alike : (xs ys : List Word) → Pairs AlikeWord xs ys → map symbol_of xs ≡ map symbol_of ys
symbols_alike [] [] p = refl
symbols_alike (x ∷ xs) (y ∷ ys) p = rw (symbol_alike x y p.0, symbols_alike xs ys p.1) refl
symbols_alike _ _ p = absurd p

ending_alike : (o p : Option PlacedFault) → Both AlikeFault o p → option_map (λ fault. kind.Unread) o ≡ option_map (λ fault. kind.Unread) p
ending_alike None None b = refl
ending_alike (Some x) (Some y) b = refl
ending_alike _ _ b = absurd b

line_alike : (x y : Words) → AlikeWords x y → line_of x ≡ line_of y
line_alike x y a = rw (symbols_alike x.words y.words a.words, ending_alike x.ending y.ending a.ending) refl

word_from_end_alike : (left : ℕ) (x y : Words) → AlikeWords x y → Both AlikeWord (word_from_end left x) (word_from_end left y)
word_from_end_alike left x y a =
    rw (pairs_length AlikeWord x.words y.words a.words) (pairs_get AlikeWord x.words y.words (length y.words - left) a.words)

pub words_after_alike : (left : ℕ) (x y : Words) → AlikeWords x y → AlikeWords (words_after left x) (words_after left y)
words_after_alike left x y a = record {
  words = rw (pairs_length AlikeWord x.words y.words a.words) (pairs_drop AlikeWord x.words y.words (length y.words - left) a.words);
  ending = a.ending;
}

unwanted_word_alike : (x y : Word) → AlikeWord x y → AlikeFault (unwanted_word x) (unwanted_word y)
unwanted_word_alike (Plain v x) (Plain w y) a = (ap UnexpectedToken a.0, a.1)
unwanted_word_alike (Defined x r) (Defined y s) a = (refl, a.0)
unwanted_word_alike _ _ a = absurd a

one_of_faults : (o p : Option PlacedFault) (f g : PlacedFault) → Both AlikeFault o p → AlikeFault f g → AlikeFault (unwrap_or o f) (unwrap_or p g)
one_of_faults None None f g b a = a
one_of_faults (Some x) (Some y) f g b a = b
one_of_faults _ _ f g b a = absurd b

unwanted_alike : (o p : Option Word) → Both AlikeWord o p → Both AlikeFault (option_map unwanted_word o) (option_map unwanted_word p)
unwanted_alike None None b = tt
unwanted_alike (Some x) (Some y) b = unwanted_word_alike x y b
unwanted_alike _ _ b = absurd b

operand_fault_alike : (x y : Word) → AlikeWord x y → Both AlikeFault (operand_fault x) (operand_fault y)
operand_fault_alike (Plain v x) (Plain w y) a = tt
operand_fault_alike (Defined x (Ok b)) (Defined y (Ok c)) a = tt
operand_fault_alike (Defined x (Err f)) (Defined y (Err g)) a = a.1
operand_fault_alike (Defined x (Ok b)) (Defined y (Err g)) a = absurd a.1
operand_fault_alike (Defined x (Err f)) (Defined y (Ok c)) a = absurd a.1
operand_fault_alike _ _ a = absurd a

operand_faults_alike : (o p : Option Word) → Both AlikeWord o p → Both AlikeFault (option_and_then operand_fault o) (option_and_then operand_fault p)
operand_faults_alike None None b = tt
operand_faults_alike (Some x) (Some y) b = operand_fault_alike x y b
operand_faults_alike _ _ b = absurd b

module _ (directive there : Place) (at : AlikePlace directive there) where
  placed_fault_alike : (x y : Words) (fault : ExpressionFault) (left : ℕ) → AlikeWords x y
      → AlikeFault (placed_fault directive x fault left) (placed_fault there y fault left)
  placed_fault_alike x y kind.IntegerOverflow left a = (refl, at)
  placed_fault_alike x y kind.DivisionByZero left a = (refl, at)
  placed_fault_alike x y kind.RemainderByZero left a = (refl, at)
  placed_fault_alike x y kind.UnexpectedEndOfInput left a = (refl, at)
  placed_fault_alike x y kind.Unexpected left a =
      one_of_faults (option_map unwanted_word (word_from_end left x)) (option_map unwanted_word (word_from_end left y)) (ended_early directive)
      (ended_early there) (unwanted_alike (word_from_end left x) (word_from_end left y) (word_from_end_alike left x y a)) (refl, at)
  placed_fault_alike x y kind.Unread left a = one_of_faults x.ending y.ending (ended_early directive) (ended_early there) a.ending (refl, at)
  placed_fault_alike x y kind.Operand left a =
      one_of_faults (option_and_then operand_fault (word_from_end left x)) (option_and_then operand_fault (word_from_end left y)) (ended_early directive)
      (ended_early there) (operand_faults_alike (word_from_end left x) (word_from_end left y) (word_from_end_alike left x y a)) (refl, at)

  -- alike words give what is alike, if each value does
  by_expression_alike : {A : Type 0} (R : A → A → Type 0) (By On : Value → Result A PlacedFault → Type 0) (x y : Words) (r : Result A PlacedFault)
      → AlikeWords x y → ((v : Value) → By v r → (s : Result A PlacedFault) × On v s × AlikeResult R r s) → ByExpression directive x By r
      → (s : Result A PlacedFault) × ByExpression there y On s × AlikeResult R r s
  by_expression_alike {A = A} R By On x y r a on b = of_one b.evaluation b.evaluated b.is
    where
      of_one : (e : Result Value Found) → Evaluates (line_of x) e
          → MatchResult e (λ v. By v r) (λ found. r ≡ Err (placed_fault directive x found.kind found.left))
          → (s : Result A PlacedFault) × ByExpression there y On s × AlikeResult R r s
      of_one (Ok v) e w =
          let there = on v w in
          (there.0, record { evaluation = Ok v; evaluated = subst (λ (l : Line). Evaluates l (Ok v)) (line_alike x y a) e; is = there.1 }, there.2)
      of_one (Err found) e w =
          let fault = placed_fault there y found.kind found.left in (
            Err fault,
            record { evaluation = Err found; evaluated = subst (λ (l : Line). Evaluates l (Err found)) (line_alike x y a) e; is = refl },
            rw w (placed_fault_alike x y found.kind found.left a),
          )

  reported_alike : {A : Type 0} (o p : Option Word) (value : A) → Both AlikeWord o p
      → AlikeResult (λ b c. b ≡ c) (option_map_or (λ word. Err (unwanted_word word)) o (Ok value))
      (option_map_or (λ word. Err (unwanted_word word)) p (Ok value))
  reported_alike None None value b = refl
  reported_alike (Some x) (Some y) value b = unwanted_word_alike x y b
  reported_alike _ _ value b = absurd b

  pub is_alone_alike : {A : Type 0} (x y : Words) (report : ℤ → A) (r : Result A PlacedFault) → AlikeWords x y → IsAlone directive x report r
      → (s : Result A PlacedFault) × IsAlone there y report s × AlikeResult (λ b c. b ≡ c) r s
  is_alone_alike x y report r a b =
      by_expression_alike (λ b c. b ≡ c) _ _ x y r a
      (λ v w. (_, refl, rw w (reported_alike (word_from_end v.left x) (word_from_end v.left y) (report v.value) (word_from_end_alike v.left x y a)))) b

  number_before_alike : (x y : Words) (n left : ℕ) (r : Result ℕ PlacedFault) → AlikeWords x y → NumberBefore directive x n left r
      → (s : Result ℕ PlacedFault) × NumberBefore there y n left s × AlikeResult (λ b c. b ≡ c) r s
  number_before_alike x y n zero r a w = (Ok n, refl, rw w refl)
  number_before_alike x y n (suc left) r a w =
      is_alone_alike (words_after (suc left) x) (words_after (suc left) y) (λ value. n) r (words_after_alike (suc left) x y a) w

  number_given_alike : (x y : Words) (left : ℕ) (number : Option ℕ) (r : Result ℕ PlacedFault) → AlikeWords x y
      → MatchOption number (r ≡ Err (LineOverflow, directive)) (λ n. NumberBefore directive x n left r)
      → (s : Result ℕ PlacedFault) × MatchOption number (s ≡ Err (LineOverflow, there)) (λ n. NumberBefore there y n left s)
      × AlikeResult (λ b c. b ≡ c) r s
  number_given_alike x y left None r a w = (Err (LineOverflow, there), refl, rw w (refl, at))
  number_given_alike x y left (Some n) r a w = number_before_alike x y n left r a w

  pub numbers_alike : (x y : Words) (r : Result ℕ PlacedFault) → AlikeWords x y → Numbers directive x r
      → (s : Result ℕ PlacedFault) × Numbers there y s × AlikeResult (λ b c. b ≡ c) r s
  numbers_alike x y r a b =
      by_expression_alike (λ b c. b ≡ c) _ _ x y r a (λ v w. number_given_alike x y v.left (as_line_number v.value) r a w) b
