-- Definitions that are added one after another.
use Rattle.std.proofs.Common.{ℕ, ◌+◌, ◌<◌, List, length, drop, get_or, sym, subst, add-one, drop-cons}
use Rattle.pp_rs.specs.Kept.{Preprocessing}
use Rattle.glslpp_parts.specs.Changes.{Definition}
use Rattle.glslpp_parts.specs.Definitions.{IsWithDefinition, AreAdded}
use Rattle.glslpp_parts.specs.Texts.{Texts}

-- the first of those that are left, and then the others
pub added_first : (ds : List Definition) (i : ℕ) (d : Definition) (texts texts₁ texts' : Texts) (old items₁ new : Preprocessing) → i < length ds
    → IsWithDefinition (get_or ds i d) texts old texts₁ items₁ → AreAdded (drop (i + 1) ds) texts₁ items₁ texts' new
    → AreAdded (drop i ds) texts old texts' new
added_first ds i d texts texts₁ texts' old items₁ new h one rest =
    subst (λ l. AreAdded l texts old texts' new) (sym (drop-cons ds i d h))
    (texts₁, (items₁, (one, subst (λ n. AreAdded (drop n ds) texts₁ items₁ texts' new) (add-one i) rest)))
