-- An item is what was taken, but for the call of an error.
use Rattle.std.proofs.Common.{◌≡◌, refl, List}
use Rattle.pp_model.specs.Places.{PlacedFault}
use Rattle.pp_model.specs.Emitting.{found_among}
use Rattle.pp_model.specs.declared.read.Taken.{Taken}
use Rattle.pp_model.specs.declared.read.Taken.TheVariants as taken
use Rattle.pp_model.specs.declared.splice.Entry.{Entry}

-- what holds alike of all errors holds of an item if it holds of what was taken
pub found_same : {B : Type 0} (test : Taken → B) → ((x y : PlacedFault) → test (taken.Fault x) ≡ test (taken.Fault y))
    → (entries : List Entry) (o : Taken) → test (found_among entries o) ≡ test o
found_same test same entries (taken.Token read) = refl
found_same test same entries (taken.Fault fault) = same _ fault
found_same test same entries taken.End = refl

-- an item is the end if the end was taken
pub end_found : (entries : List Entry) (o : Taken) → found_among entries o ≡ taken.End → o ≡ taken.End
end_found entries (taken.Token read) is = is
end_found entries (taken.Fault fault) is = cc
end_found entries taken.End is = is
