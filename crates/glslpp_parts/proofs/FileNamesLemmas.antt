-- Names of files: folders, and how names stand in rules.
use Rattle.std.proofs.Common.{◌≡◌, ◌∙◌, ℕ, Bool, true, false, if◌then◌else◌, List, [], ◌∷◌, ◌++◌, ap, append_assoc, append-nil, map, refl, sym}
use Rattle.std.specs.Prelude.{nat_eq, ◌||◌}
use Rattle.std.specs.Borrow.{Bor}
use Rattle.std.specs.Cmp.Lexicographic.{pointwise}
use Rattle.std.specs.List.{list_any}
use Rattle.glslpp_parts.specs.FileNames.{IsWithName, backslashes_after, escape_of, escaped, escaped_after, is_among, new_among}

-- one more character of a name
pub one_more_escaped : (old text new before after yielded rest : List ℕ) (c : ℕ) → new ≡ text ++ escape_of before c ++ c ∷ []
    → after ≡ backslashes_after before c
    → ((more : List ℕ) → text ++ escaped_after before more ≡ old ++ escaped (yielded ++ more))
    → new ++ escaped_after after rest ≡ old ++ escaped ((yielded ++ c ∷ []) ++ rest)
one_more_escaped old text new before after yielded rest c n a so_far =
    ap (λ t. t ++ escaped_after after rest) n ∙ ap (λ b. (text ++ escape_of before c ++ c ∷ []) ++ escaped_after b rest) a
    ∙ append_assoc (text ++ escape_of before c) (c ∷ []) (escaped_after (backslashes_after before c) rest)
    ∙ append_assoc text (escape_of before c) (c ∷ escaped_after (backslashes_after before c) rest)
    ∙ so_far (c ∷ rest) ∙ ap (λ cs. old ++ escaped cs) (sym (append_assoc yielded (c ∷ []) rest))

-- names, as the code has them
pub among_texts : (names : List (Bor (List ℕ))) (name : List ℕ) → list_any (λ other. pointwise nat_eq other.now name) names
    ≡ is_among name (map (λ other. other.now) names)
among_texts [] name = refl
among_texts (other ∷ names) name = ap (λ b. pointwise nat_eq other.now name || b) (among_texts names name)

-- one more of the names that are left
pub one_more_name : (old new rest : List (List ℕ)) (name : List ℕ) → IsWithName name old new
    → new ++ new_among new rest ≡ old ++ new_among old (name ∷ rest)
one_more_name old new rest name is = by (is_among name old) refl
  where
    by : (b : Bool) → is_among name old ≡ b → new ++ new_among new rest ≡ old ++ new_among old (name ∷ rest)
    by true e = let same : new ≡ old = is ∙ rw e refl in rw (same, e) refl
    by false e = let same : new ≡ old ++ name ∷ [] = is ∙ rw e refl in rw (same, e) (append_assoc old (name ∷ []) (new_among (old ++ name ∷ []) rest))

-- what is said of a file whose name begins with `/`, and of another
pub nowhere_else : (text front looked : List ℕ) (b : Bool) → text ≡ front → b ≡ true → text ≡ front ++ (if b then [] else looked)
nowhere_else text front looked b e is = rw is (e ∙ sym (append-nil front))

pub elsewhere : (new text front looked : List ℕ) (b : Bool) → text ≡ front → new ≡ text ++ looked → b ≡ false → new ≡ front ++ (if b then [] else looked)
elsewhere new text front looked b e n is = rw is (n ∙ ap (λ t. t ++ looked) e)
