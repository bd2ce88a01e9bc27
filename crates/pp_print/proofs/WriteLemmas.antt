-- What is known of a writer's bytes after several writes
use Rattle.std.proofs.Common.{◌≡◌, ℕ, List, [], ◌++◌, take, drop, Option, None, Some, arith, ap, sym, ◌∙◌, append_assoc, append-nil, take-append-drop, length, length-drop, ◌-◌}
use Rattle.std.proofs.lemmas.List.{take_all}
use Rattle.std.specs.Io.KnownBytes.{Appends}

-- nothing was appended before the first write
pub appends_nothing : (a : Option (List ℕ)) → Appends a a []
appends_nothing None = tt
appends_nothing (Some xs) = sym (append-nil xs)

-- what one write and then another appended were appended together
pub appends_more : (a b c : Option (List ℕ)) (first second : List ℕ) → Appends a b first → Appends b c second → Appends a c (first ++ second)
appends_more None b c first second f s = tt
appends_more (Some xs) None c first second f s = absurd f
appends_more (Some xs) (Some ys) None first second f s = absurd s
appends_more (Some xs) (Some ys) (Some zs) first second f s = s ∙ ap (λ w. w ++ second) f ∙ append_assoc xs first second

-- the bytes that were written and those that are left, when n more are written
pub written_more : (bytes done rest : List ℕ) (n : ℕ) → bytes ≡ done ++ rest → bytes ≡ (done ++ take n rest) ++ take (length rest - n) (drop n rest)
written_more bytes done rest n e =
    let left : take (length rest - n) (drop n rest) ≡ drop n rest = take_all _ (drop n rest) (omega (arith, length-drop n rest)) in
    e ∙ ap (λ w. done ++ w) (sym (take-append-drop n rest)) ∙ sym (append_assoc done (take n rest) (drop n rest))
    ∙ ap (λ w. (done ++ take n rest) ++ w) (sym left)
