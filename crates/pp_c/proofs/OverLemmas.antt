-- Lists that are written over others.
use Rattle.std.proofs.Common.{◌≡◌, ℕ, ◌+◌, ◌<◌, ◌≤◌, List, [], ◌∷◌, ◌++◌, length, take, drop, sym, ap, ◌∙◌, arith, add-one, add-zero, append_assoc, add_assoc, length-append}
use Rattle.std.proofs.lemmas.List.{set_split, take_at, drop_at, drop-drop, append-nil, take-append-drop, length-take-le}
use Rattle.std.proofs.Math.ListN.{set}
use Rattle.pp_c.specs.inner.Taking.{written_over}

-- one element
pub written_over-one : {A : Type 0} (at : ℕ) (x : A) (old : List A) → at < length old → written_over at (x ∷ []) old ≡ set old at x
written_over-one at x old h = rw (set_split old at x h) (simp (append_assoc, add-one))

-- none
pub written_over-nil : {A : Type 0} (at : ℕ) (old : List A) → written_over at [] old ≡ old
written_over-nil at old = simp (append-nil, add-zero) (take-append-drop at old)

pub length-front : {A : Type 0} (at : ℕ) (more old : List A) → at ≤ length old → length (take at old ++ more) ≡ at + length more
length-front at more old h = length-append (take at old) more ∙ ap (λ n. n + length more) (length-take-le at old h)

-- what comes after it stays
drop-written_over : {A : Type 0} (at n : ℕ) (more old : List A) → at + length more ≤ length old
    → drop (at + length more + n) (written_over at more old) ≡ drop (at + length more + n) old
drop-written_over at n more old h =
    sym (drop-drop n (at + length more) (written_over at more old))
    ∙ ap (drop n) (drop_at (take at old ++ more) (drop (at + length more) old) (at + length more) (length-front at more old (omega arith)))
    ∙ drop-drop n (at + length more) old

-- some after others
pub written_over-append : {A : Type 0} (at : ℕ) (more others old : List A) → at + length more ≤ length old
    → written_over (at + length more) others (written_over at more old) ≡ written_over at (more ++ others) old
written_over-append at more others old h =
    rw (
      drop-written_over at (length others) more old h,
      take_at (take at old ++ more) (drop (at + length more) old) (at + length more) (length-front at more old (omega arith)),
    )
    (simp (append_assoc, length-append, add_assoc))
