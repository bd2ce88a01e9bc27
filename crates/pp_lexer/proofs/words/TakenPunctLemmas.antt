-- A reader once the longest punctuator is taken.
use Rattle.std.proofs.Common.{◌≡◌, ℕ, List, [], ◌∷◌, take, sym, ◌∙◌, ap, Option, Some, None, option_map, arith}
use Rattle.pp_lexer.specs.declared.lexer.char_iterator.Spot.{Spot}
use Rattle.pp_lexer.specs.declared.token.Punct.{Punct as Punctuator}
use Rattle.pp_lexer.specs.Longest.{longest}
use Rattle.pp_lexer.specs.Punctuators.{punct_of, is_punctuator}
use Rattle.pp_lexer.specs.Reading.{Reading, letters, first_of, past, after_first, advanced_of}
use Rattle.pp_lexer.proofs.characters.AdvancedLemmas.{advanced_zero}
use Rattle.pp_lexer.proofs.words.PunctuatorsLemmas.{IsLongest, no_punct, one_at_end, one_alone, two_at_end, two_alone, three_of}

pub record IsTaken (ss : List Spot) (last : Spot) (r : Option Punctuator) (new : Reading) : Type 0 where
  pub value : r ≡ punct_of (take (longest is_punctuator (letters ss)) (letters ss))
  pub state : new ≡ advanced_of (longest is_punctuator (letters ss)) ss last

-- the character that comes next
abbrev pub next_is : Option ℕ → List Spot → Type 0
next_is o ss = o ≡ option_map (λ s. s.c) (first_of ss)

taken_of : (ss : List Spot) (last : Spot) (n : ℕ) (r : Option Punctuator) → IsLongest (letters ss) n r → IsTaken ss last r (advanced_of n ss last)
taken_of ss last n r h = record { value = sym h.value; state = ap (λ k. advanced_of k ss last) (sym h.taken) }

along : (ss : List Spot) (last : Spot) (r : Option Punctuator) (x y : Reading) → y ≡ x → IsTaken ss last r x → IsTaken ss last r y
along ss last r x y e h = record { value = h.value; state = e ∙ h.state }

module _ (last : Spot) (new : Reading) where
  pub taken_none : (ss : List Spot) → next_is None ss → new ≡ record { rest = ss; last = last } → IsTaken ss last None new
  unfolding punct_of
  taken_none ss h k = grind arith

  pub taken_bad : (c : ℕ) (ss : List Spot) → next_is (Some c) ss → punct_of (c ∷ []) ≡ None → new ≡ record { rest = ss; last = last } → IsTaken ss last None new
  taken_bad c ss h k e = grind (arith, no_punct)

  module _ (c : ℕ) (p : Punctuator) (one : punct_of (c ∷ []) ≡ Some p) where
    pub taken_one_end : (ss : List Spot) → next_is (Some c) ss → next_is None (past ss last).rest → new ≡ past ss last → IsTaken ss last (Some p) new
    taken_one_end ss h k e = grind (arith, one_at_end)

    module _ (d : ℕ) where
      pub taken_one : (ss : List Spot) → next_is (Some c) ss → next_is (Some d) (past ss last).rest → punct_of (c ∷ d ∷ []) ≡ None
          → new ≡ past ss last → IsTaken ss last (Some p) new
      taken_one ss h k e l = grind (arith, one_alone)

      module _ (q : Punctuator) (two : punct_of (c ∷ d ∷ []) ≡ Some q) where
        pub taken_two_end : (ss : List Spot) → next_is (Some c) ss → next_is (Some d) (past ss last).rest
            → next_is None (after_first (past ss last)).rest → new ≡ after_first (past ss last)
            → IsTaken ss last (Some q) new
        taken_two_end [] f g h n = cc
        taken_two_end (s ∷ []) f g h n = cc
        taken_two_end (s ∷ t ∷ []) f g h n = grind (arith, two_at_end)
        taken_two_end (s ∷ t ∷ u ∷ ss) f g h n = cc

        module _ (e : ℕ) where
          pub taken_two : (ss : List Spot) → next_is (Some c) ss → next_is (Some d) (past ss last).rest
              → next_is (Some e) (after_first (past ss last)).rest → punct_of (c ∷ d ∷ e ∷ []) ≡ None
              → new ≡ after_first (past ss last) → IsTaken ss last (Some q) new
          taken_two [] f g i h n = cc
          taken_two (s ∷ []) f g i h n = cc
          taken_two (s ∷ t ∷ []) f g i h n = cc
          taken_two (s ∷ t ∷ u ∷ ss) f g i h n =
              let k : c ≡ s.c = cc in
              let l : d ≡ t.c = cc in
              let m : e ≡ u.c = cc in
              let one' : punct_of (s.c ∷ []) ≡ Some p = ap (λ x. punct_of (x ∷ [])) (sym k) ∙ one in
              let two' : punct_of (s.c ∷ t.c ∷ []) ≡ Some q = ap (λ x. punct_of (x ∷ t.c ∷ [])) (sym k) ∙ ap (λ y. punct_of (c ∷ y ∷ [])) (sym l) ∙ two in
              let h' : punct_of (s.c ∷ t.c ∷ u.c ∷ []) ≡ None =
              ap (λ x. punct_of (x ∷ t.c ∷ u.c ∷ [])) (sym k) ∙ ap (λ y. punct_of (c ∷ y ∷ u.c ∷ [])) (sym l)
              ∙ ap (λ z. punct_of (c ∷ d ∷ z ∷ [])) (sym m) ∙ h in
              along (s ∷ t ∷ u ∷ ss) last (Some q) _ new n (taken_of (s ∷ t ∷ u ∷ ss) last 2 (Some q) (two_alone s.c p one' t.c q two' u.c (letters ss) h'))

          pub taken_three : (x : Punctuator) (ss : List Spot) → next_is (Some c) ss → next_is (Some d) (past ss last).rest
              → next_is (Some e) (after_first (past ss last)).rest
              → punct_of (c ∷ d ∷ e ∷ []) ≡ Some x → new ≡ after_first (after_first (past ss last)) → IsTaken ss last (Some x) new
          taken_three x [] f g i h n = cc
          taken_three x (s ∷ []) f g i h n = cc
          taken_three x (s ∷ t ∷ []) f g i h n = cc
          taken_three x (s ∷ t ∷ u ∷ ss) f g i h n =
              let k : c ≡ s.c = cc in
              let l : d ≡ t.c = cc in
              let m : e ≡ u.c = cc in
              let one' : punct_of (s.c ∷ []) ≡ Some p = ap (λ x. punct_of (x ∷ [])) (sym k) ∙ one in
              let two' : punct_of (s.c ∷ t.c ∷ []) ≡ Some q = ap (λ x. punct_of (x ∷ t.c ∷ [])) (sym k) ∙ ap (λ y. punct_of (c ∷ y ∷ [])) (sym l) ∙ two in
              let h' : punct_of (s.c ∷ t.c ∷ u.c ∷ []) ≡ Some x =
              ap (λ x. punct_of (x ∷ t.c ∷ u.c ∷ [])) (sym k) ∙ ap (λ y. punct_of (c ∷ y ∷ u.c ∷ [])) (sym l)
              ∙ ap (λ z. punct_of (c ∷ d ∷ z ∷ [])) (sym m) ∙ h in
              along (s ∷ t ∷ u ∷ ss) last (Some x) _ new (n ∙ sym (advanced_zero ss u))
              (taken_of (s ∷ t ∷ u ∷ ss) last 3 (Some x) (three_of s.c p one' t.c q two' u.c (letters ss) x h'))
