-- When the results of a call have room.
use Rattle.std.specs.Prelude.{◌≤◌, ℕ}
use Rattle.pp_c.specs.declared.items.Sizes.{Sizes}

-- there is room for all items and for all bytes of their texts
pub record HasRoom (items_room texts_room : ℕ) (sizes : Sizes) : Type 0 where
  pub items : sizes.items ≤ items_room
  pub texts : sizes.texts ≤ texts_room
