-- The tables of the code hold the punctuators, and each front of a punctuator is one.
use Rattle.std.proofs.Common.{◌≡◌, ℕ, zero, suc, ◌<◌, ◌≤◌, List, [], ◌∷◌, length, take, Bool, true, false, ◌&&◌, ◌==◌, refl, sym, ◌∙◌, ap, arith, Option, Some, None, option_map, is_some, if◌then◌else◌, nat_eq}
use Rattle.std.proofs.Math.Bool.{and-false, and-true}
use Rattle.std.specs.List.{find, list_all}
use Rattle.std.proofs.lemmas.Bool.{false≢true, and_parts}
use Rattle.std.proofs.lemmas.List.{take-take, length-take-le}
use lib.Pointwise.{pointwise, bytes_decides}
use Rattle.pp_lexer.specs.declared.token.Punct.{Punct as Punctuator}
use Rattle.pp_lexer.specs.declared.token.Punct.TheVariants.{AddAssign}
use Rattle.pp_lexer.specs.declared.lexer.punctuation.TheConstants.{SINGLES, PAIRS, TRIPLES}
use Rattle.pp_lexer.specs.Longest.{longest}
use Rattle.pp_lexer.specs.Punctuators.{punctuator, punctuators, punct_of, is_punctuator}
use Rattle.pp_lexer.proofs.words.LongestLemmas.{longest_no_front, longest_closed}

pub map_choice : {X Y : Type 0} (f : X → Y) (b : Bool) (x : X) (o : Option X)
    → option_map f (if b then Some x else o) ≡ (if b then Some (f x) else option_map f o)
map_choice f true x o = refl
map_choice f false x o = refl

pub single_is : (c : ℕ) → punct_of (c ∷ []) ≡ option_map (λ e. e.1) (find (λ e. e.0 == c) SINGLES)
unfolding punct_of
single_is c = simp (and-false, and-true, map_choice)

pub pair_is : (c d : ℕ) → punct_of (c ∷ d ∷ []) ≡ option_map (λ e. e.2) (find (λ e. (e.0 == c) && (e.1 == d)) PAIRS)
unfolding punct_of
pair_is c d = simp (and-false, and-true, map_choice)

pub triple_is : (c d e : ℕ) → punct_of (c ∷ d ∷ e ∷ []) ≡ option_map (λ x. x.3) (find (λ x. (x.0 == c) && ((x.1 == d) && (x.2 == e))) TRIPLES)
unfolding punct_of
triple_is c d e = simp (and-false, and-true, map_choice)

-- each front of a punctuator is one
front_of : (p : Punctuator) (n : ℕ) → is_some (punct_of (take (suc n) (punctuator p))) ≡ true
unfolding punct_of
front_of AddAssign zero = refl
front_of AddAssign (suc zero) = refl
front_of AddAssign (suc (suc zero)) = refl
front_of AddAssign (suc (suc (suc n))) = refl
front_of _ zero = refl
front_of _ (suc zero) = refl
front_of _ (suc (suc zero)) = refl
front_of _ (suc (suc (suc n))) = refl

-- and it has at most three characters
short : (p : Punctuator) → length (punctuator p) ≤ 3
short AddAssign = omega arith
short _ = omega arith

-- each row has the characters of its punctuator
rows_spell : list_all (λ e. pointwise nat_eq (punctuator e.1) e.0) punctuators ≡ true
rows_spell = refl

found_in : (w : List ℕ) (rows : List (List ℕ × Punctuator)) (p : Punctuator) → list_all (λ e. pointwise nat_eq (punctuator e.1) e.0) rows ≡ true
    → option_map (λ e. e.1) (find (λ e. pointwise nat_eq e.0 w) rows) ≡ Some p → punctuator p ≡ w
found_in w [] p a h = cc
found_in w (e ∷ rows) p a h =
    let spelled = and_parts (pointwise nat_eq (punctuator e.1) e.0) (list_all (λ e. pointwise nat_eq (punctuator e.1) e.0) rows) a in
    by (pointwise nat_eq e.0 w) refl h spelled.0 (found_in w rows p spelled.1)
  where
    by : (b : Bool) → pointwise nat_eq e.0 w ≡ b → option_map (λ e. e.1) (if b then Some e else find (λ e. pointwise nat_eq e.0 w) rows) ≡ Some p
        → pointwise nat_eq (punctuator e.1) e.0 ≡ true
        → (option_map (λ e. e.1) (find (λ e. pointwise nat_eq e.0 w) rows) ≡ Some p → punctuator p ≡ w) → punctuator p ≡ w
    by true t h s go = let k : e.1 ≡ p = cc in ap punctuator (sym k) ∙ (bytes_decides (punctuator e.1) e.0).0 s ∙ (bytes_decides e.0 w).0 t
    by false t h s go = go h

-- what is found is spelled so
pub found : (w : List ℕ) (p : Punctuator) → punct_of w ≡ Some p → punctuator p ≡ w
unfolding punct_of
found w p h = found_in w punctuators p rows_spell h

-- a punctuator's own spelling is found: none is missing, and no two are spelled alike
pub punct_of-punctuator : (p : Punctuator) → punct_of (punctuator p) ≡ Some p
unfolding punct_of
punct_of-punctuator AddAssign = refl
punct_of-punctuator _ = refl

-- some punctuator has this spelling
some_found : (w : List ℕ) → is_punctuator w ≡ true → (p : Punctuator) × (punctuator p ≡ w)
unfolding is_punctuator
some_found w h = by (punct_of w) refl h
  where
    by : (o : Option Punctuator) → punct_of w ≡ o → is_some o ≡ true → (p : Punctuator) × (punctuator p ≡ w)
    by None e t = cc
    by (Some p) e t = (p, found w p e)

pub is_punctuator-closed : (w : List ℕ) (n : ℕ) → is_punctuator w ≡ true → is_punctuator (take (suc n) w) ≡ true
unfolding is_punctuator
is_punctuator-closed w n h = let p = some_found w h in ap (λ v. is_some (punct_of (take (suc n) v))) (sym p.1) ∙ front_of p.0 n

too_long : (w : List ℕ) → 3 < length w → is_punctuator w ≡ false
too_long w l = grind (arith, some_found)

-- what the next characters say of the longest punctuator
pub record IsLongest (cs : List ℕ) (n : ℕ) (found : Option Punctuator) : Type 0 where
  pub taken : longest is_punctuator cs ≡ n
  pub value : punct_of (take (longest is_punctuator cs) cs) ≡ found

punct_at : (cs : List ℕ) (m : ℕ) (o : Option Punctuator) → longest is_punctuator cs ≡ m → punct_of (take m cs) ≡ o → IsLongest cs m o
punct_at cs m o e v = record { taken = e; value = ap (λ n. punct_of (take n cs)) e ∙ v }

is_found : (w : List ℕ) (p : Punctuator) → punct_of w ≡ Some p → is_punctuator w ≡ true
unfolding is_punctuator
is_found w p h = ap is_some h

not_found : (w : List ℕ) → punct_of w ≡ None → is_punctuator w ≡ false
unfolding is_punctuator
not_found w h = ap is_some h

pub none_here : (cs : List ℕ) → is_punctuator (take 1 cs) ≡ false → (k : ℕ) → is_punctuator (take (suc k) cs) ≡ false
none_here cs h k = by (is_punctuator (take (suc k) cs)) refl
  where
    by : (b : Bool) → is_punctuator (take (suc k) cs) ≡ b → is_punctuator (take (suc k) cs) ≡ false
    by false e = e
    by true e = absurd (false≢true (sym h ∙ ap is_punctuator (sym (take-take 1 (suc k) cs (omega arith))) ∙ is_punctuator-closed (take (suc k) cs) 0 e))

module _ (c : ℕ) where
  pub no_punct : (cs : List ℕ) → punct_of (c ∷ []) ≡ None → IsLongest (c ∷ cs) 0 None
  unfolding punct_of
  no_punct cs h =
      let none : (w : ℕ) → is_punctuator (take (suc w) (c ∷ cs)) ≡ false = none_here (c ∷ cs) (not_found (c ∷ []) h) in
      punct_at (c ∷ cs) 0 None (longest_no_front is_punctuator (c ∷ cs) none) refl

  module _ (p : Punctuator) (one : punct_of (c ∷ []) ≡ Some p) where
    pub one_at_end : IsLongest (c ∷ []) 1 (Some p)
    one_at_end = punct_at (c ∷ []) 1 (Some p) (longest_closed is_punctuator is_punctuator-closed 1 (c ∷ []) (omega arith) (omega arith)
        (is_found _ p one) (λ l. absurd (omega arith))) one

    module _ (d : ℕ) where
      pub one_alone : (cs : List ℕ) → punct_of (c ∷ d ∷ []) ≡ None → IsLongest (c ∷ d ∷ cs) 1 (Some p)
      one_alone cs h = punct_at (c ∷ d ∷ cs) 1 (Some p) (longest_closed is_punctuator is_punctuator-closed 1 (c ∷ d ∷ cs) (omega arith) (omega arith)
          (is_found _ p one) (λ l. not_found _ h)) one

      module _ (q : Punctuator) (two : punct_of (c ∷ d ∷ []) ≡ Some q) where
        pub two_at_end : IsLongest (c ∷ d ∷ []) 2 (Some q)
        two_at_end = punct_at (c ∷ d ∷ []) 2 (Some q) (longest_closed is_punctuator is_punctuator-closed 2 (c ∷ d ∷ []) (omega arith) (omega arith)
            (is_found _ q two) (λ l. absurd (omega arith))) two

        module _ (e : ℕ) (cs : List ℕ) where
          pub two_alone : punct_of (c ∷ d ∷ e ∷ []) ≡ None → IsLongest (c ∷ d ∷ e ∷ cs) 2 (Some q)
          two_alone h = punct_at (c ∷ d ∷ e ∷ cs) 2 (Some q)
              (longest_closed is_punctuator is_punctuator-closed 2 (c ∷ d ∷ e ∷ cs) (omega arith) (omega arith) (is_found _ q two) (λ l. not_found _ h)) two

          pub three_of : (x : Punctuator) → punct_of (c ∷ d ∷ e ∷ []) ≡ Some x → IsLongest (c ∷ d ∷ e ∷ cs) 3 (Some x)
          three_of x h =
              punct_at (c ∷ d ∷ e ∷ cs) 3 (Some x) (longest_closed is_punctuator is_punctuator-closed 3 (c ∷ d ∷ e ∷ cs) (omega arith) (omega arith)
              (is_found _ x h) (λ l. too_long (take 4 (c ∷ d ∷ e ∷ cs)) (let k = length-take-le 4 (c ∷ d ∷ e ∷ cs) (omega arith) in omega arith))) h
