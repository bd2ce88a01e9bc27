-- Places in a text.
use Rattle.std.specs.Prelude.{◌≡◌, ℕ, List}
use Rattle.glslpp_parts.specs.declared.texts.Spot.{Spot}

-- the place in this text, from one byte offset to another
pub record IsSpotOf (spot : Spot) (text : List ℕ) (start end : ℕ) : Type 0 where
  pub of_text : spot.text.now ≡ text
  pub begins : spot.start ≡ start
  pub ends : spot.end ≡ end
