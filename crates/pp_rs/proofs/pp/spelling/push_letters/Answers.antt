use Rattle.std.proofs.Common.{◌≡◌, ◌∙◌, ◌==◌, ◌++◌, [], ◌∷◌, ℕ, List, length, true, sym, arith}
use Rattle.std.proofs.lemmas.List.{append-nil}
use Rattle.pp_rs.proofs.pp.spelling.push_letters.Goals as goal

none_more : (bytes letters : List ℕ) → (length letters == 0) ≡ true → bytes ≡ bytes ++ letters
none_more bytes [] none = sym (append-nil bytes)
none_more bytes (letter ∷ letters) none = grind (arith)

pub returns-then-is_empty : goal.returns-then-is_empty
returns-then-is_empty c = record { bytes = none_more _ _ (sym c.is_empty.ensures ∙ c.if-is_empty.true) }
