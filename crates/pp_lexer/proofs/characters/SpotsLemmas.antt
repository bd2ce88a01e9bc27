-- The characters of a source with their places: no more than it has bytes.
use Rattle.std.proofs.Common.{◌≡◌, ℕ, suc, ◌≤◌, List, [], ◌∷◌, length, refl, ap, arith}
use Rattle.std.specs.Str.{IsUtf8}
use Rattle.pp_lexer.specs.Cursor.{Placed}
use Rattle.pp_lexer.specs.PhaseLaws.{replaced_of}
use Rattle.pp_lexer.specs.Reading.{spots}
use Rattle.pp_lexer.specs.Spots.{spots_of}
use Rattle.pp_lexer.proofs.characters.PhaseLemmas.{length-replaced_of}

pub length-spots : (at : ℕ) (ps : List Placed) → length (spots at ps) ≡ length ps
length-spots at [] = refl
length-spots at (p ∷ ps) = ap suc (length-spots p.end ps)

pub length-spots_of-le : (text : List ℕ) → IsUtf8 text → length (spots_of text) ≤ length text
length-spots_of-le text u = omega (arith, length-spots 0 (replaced_of text), length-replaced_of text u)
