-- When two lists of names are the same.
use Rattle.std.proofs.Common.{◌≡◌, List, refl}
use Rattle.std.specs.Bool.{Decides}
use Rattle.std.specs.Cmp.Lexicographic.{pointwise, bytes_decides}
use Rattle.std.proofs.lemmas.Slice.Eq.{slice_eq-Decides}
use Rattle.pp_model.specs.Names.{Name, is_same_name}

-- two lists of names are the same where `==` says so
pub names_decide : (xs ys : List Name) → Decides (pointwise is_same_name xs ys) (xs ≡ ys)
names_decide xs ys = slice_eq-Decides bytes_decides xs ys _ refl
