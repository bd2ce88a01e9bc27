-- The first segment of a text, and those after it.
use Rattle.std.proofs.Common.{◌≡◌, ℕ, zero, suc, ◌-◌, ◌<◌, ◌≤◌, List, [], ◌∷◌, length, take, drop, refl, ap, arith, length-drop}
use Rattle.pp_lexer.specs.declared.rules.Rules.{Rules}
use Rattle.pp_lexer.specs.declared.lexer.char_iterator.Spot.{Spot}
use Rattle.pp_lexer.specs.Reading.{advanced_of}
use Rattle.pp_lexer.specs.Segments.{last_of, taken_by, segment_at, segments_within, segments}
use Rattle.pp_lexer.proofs.words.WordAtLemmas.{word_at-some}

pub taken_some : (rules : Rules) (s : Spot) (ss : List Spot) → 0 < taken_by rules s ss
taken_some rules s ss = grind (arith, word_at-some)

-- more turns than characters make no difference
segments_enough : (rules : Rules) (m n : ℕ) (ss : List Spot) → length ss ≤ m → length ss ≤ n → segments_within rules m ss ≡ segments_within rules n ss
segments_enough rules zero zero ss h k = refl
segments_enough rules zero (suc n) [] h k = refl
segments_enough rules zero (suc n) (s ∷ ss) h k = absurd (omega arith)
segments_enough rules (suc m) zero [] h k = refl
segments_enough rules (suc m) zero (s ∷ ss) h k = absurd (omega arith)
segments_enough rules (suc m) (suc n) [] h k = refl
segments_enough rules (suc m) (suc n) (s ∷ ss) h k =
    let t : 0 < taken_by rules s ss = taken_some rules s ss in
    let d : length (drop (taken_by rules s ss) (s ∷ ss)) ≡ length (s ∷ ss) - taken_by rules s ss = length-drop (taken_by rules s ss) (s ∷ ss) in
    ap (λ gs. segment_at rules s ss ∷ gs) (segments_enough rules m n (drop (taken_by rules s ss) (s ∷ ss)) (omega arith) (omega arith))

pub segments_none : (rules : Rules) → segments rules [] ≡ []
unfolding segments
segments_none rules = refl

pub segments_first : (rules : Rules) (s : Spot) (ss : List Spot)
    → segments rules (s ∷ ss) ≡ segment_at rules s ss ∷ segments rules (drop (taken_by rules s ss) (s ∷ ss))
unfolding segments
segments_first rules s ss = grind (arith, taken_some, length-drop, segments_enough)

-- a reader that is further on
pub advanced-rest : (n : ℕ) (ss : List Spot) (last : Spot) → (advanced_of n ss last).rest ≡ drop n ss
advanced-rest zero [] last = refl
advanced-rest (suc n) [] last = refl
advanced-rest zero (s ∷ ss) last = refl
advanced-rest (suc n) (s ∷ ss) last = advanced-rest n ss s

pub advanced-last : (n : ℕ) (ss : List Spot) (last : Spot) → (advanced_of n ss last).last ≡ last_of last (take n ss)
advanced-last zero [] last = refl
advanced-last (suc n) [] last = refl
advanced-last zero (s ∷ ss) last = refl
advanced-last (suc n) (s ∷ ss) last = advanced-last n ss s
