-- A list that stands in another one: what is taken of the whole and what is left of it.
use Rattle.std.proofs.Common.{◌≡◌, ◌∙◌, ℕ, ◌+◌, ◌≤◌, List, ◌++◌, take, drop, length, ap, sym, arith}
use Rattle.std.proofs.lemmas.List.{length-take-le, length-append, length-drop, length-take, drop-append-le, take-append-le, drop-drop}
use Rattle.std.proofs.Math.Seq.{drop-append-add, take-append-add}
use Rattle.pp_lexer.specs.Lexed.{Seen}
use Rattle.pp_model.specs.IncludeLaws.{inserted_at}

-- what is left of a list behind a front of known length
drop_behind_front : (front rest : List Seen) (q n : ℕ) → length front ≡ q → drop (q + n) (front ++ rest) ≡ drop n rest
drop_behind_front front rest q n e = ap (λ k. drop (k + n) (front ++ rest)) (sym e) ∙ drop-append-add front rest n

-- what is taken of a list up to a place behind a front of known length
take_behind_front : (front rest : List Seen) (q n : ℕ) → length front ≡ q → take (q + n) (front ++ rest) ≡ front ++ take n rest
take_behind_front front rest q n e = ap (λ k. take (k + n) (front ++ rest)) (sym e) ∙ take-append-add front rest n

-- from a place in the inserted items on
pub drop_within : (M X : List Seen) (q i : ℕ) → q ≤ length M → i ≤ length X → drop (q + i) (inserted_at q X M) ≡ drop i X ++ drop q M
drop_within M X q i within h = drop_behind_front (take q M) (X ++ drop q M) q i (length-take-le q M within) ∙ drop-append-le i X (drop q M) h

-- from a place behind them on
pub drop_behind : (M X : List Seen) (q j : ℕ) → q ≤ length M → drop (q + (length X + j)) (inserted_at q X M) ≡ drop (q + j) M
drop_behind M X q j within =
    drop_behind_front (take q M) (X ++ drop q M) q (length X + j) (length-take-le q M within)
    ∙ drop-append-add X (drop q M) j
    ∙ drop-drop j q M

-- up to a place in the inserted items
pub take_within : (M X : List Seen) (q i : ℕ) → q ≤ length M → i ≤ length X → take (q + i) (inserted_at q X M) ≡ take q M ++ take i X
take_within M X q i within h =
    take_behind_front (take q M) (X ++ drop q M) q i (length-take-le q M within)
    ∙ ap (λ xs. take q M ++ xs) (take-append-le i X (drop q M) h)

-- up to a place behind them
pub take_behind : (M X : List Seen) (q j : ℕ) → q ≤ length M → take (q + (length X + j)) (inserted_at q X M) ≡ take q M ++ (X ++ take j (drop q M))
take_behind M X q j within =
    take_behind_front (take q M) (X ++ drop q M) q (length X + j) (length-take-le q M within)
    ∙ ap (λ xs. take q M ++ xs) (take-append-add X (drop q M) j)

-- the whole is as long as both
pub length_inserted : (M X : List Seen) (q : ℕ) → length (inserted_at q X M) ≡ length M + length X
length_inserted M X q = simp (length-append, length-take, length-drop) (omega arith)
