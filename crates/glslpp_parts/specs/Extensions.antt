-- The macros of extensions.
use Rattle.std.specs.Prelude.{◌≡◌, ◌⊎◌, ℕ, Bool, IsTrue, true, false, List, [], ◌∷◌, Option, Some, Ok}
use Rattle.std.specs.Prelude.{codes}
use Rattle.std.specs.Prelude.{nat_eq}
use Rattle.std.specs.Borrow.{Bor}
use Rattle.std.specs.Cmp.Lexicographic.{pointwise}
use Rattle.std.specs.List.{list_any}
use Rattle.std.specs.Str.{chars}
use Rattle.pp_lexer.specs.Preorder.{preorder}
use Rattle.pp_lexer.specs.declared.token.Extension.{Extension as Line}
use Rattle.pp_lexer.specs.declared.token.Punct.TheVariants.{Colon}
use Rattle.pp_lexer.specs.declared.token.Token.{Token}
use Rattle.pp_lexer.specs.declared.token.TokenValue.{TokenValue}
use Rattle.pp_lexer.specs.declared.token.TokenValue.TheVariants.{Ident, Punct, Extension}
use Rattle.pp_rs.specs.Adding.{IsAdded}
use Rattle.pp_rs.specs.Kept.{Preprocessing}

-- the name as 1
abbrev pub as_defined : Bor (List ℕ) → List ℕ × Option (List ℕ)
as_defined name = (name.now, Some (codes "1"))

-- a behaviour by which an extension is on
abbrev pub IsTurningOn : TokenValue → Type 0
IsTurningOn value = (value ≡ Ident (chars (codes "enable")))
    ⊎ ((value ≡ Ident (chars (codes "require"))) ⊎ (value ≡ Ident (chars (codes "warn"))))

-- the line `#extension NAME : BEHAVIOUR` by which the extension of this name is on
pub record TurnsOn (value : TokenValue) (name : List ℕ) : Type 0 where
  pub line : Line
  pub first : Token
  pub second : Token
  pub third : Token
  pub is : value ≡ Extension line
  pub tokens : preorder (first ∷ second ∷ third ∷ []) ≡ line.tokens
  pub named : first.value ≡ Ident name
  pub colon : second.value ≡ Punct Colon
  pub behaviour : IsTurningOn third.value

-- one of the known names
abbrev pub is_known : List (Bor (List ℕ)) → List ℕ → Bool
is_known known name = list_any (λ other. pointwise nat_eq other.now name) known

-- the macro of a known extension that the line turns on is defined as 1
pub record IsDefined (known : List (Bor (List ℕ))) (value : TokenValue) (old new : Preprocessing) : Type 0 where
  pub name : List ℕ
  pub on : TurnsOn value (chars name)
  pub known_name : IsTrue (is_known known name)
  pub added : IsAdded old name (codes "1") (Ok tt) new

-- the macro of a known extension that the line turns on is defined, or nothing is changed
abbrev pub IsWithExtension : Bool → List (Bor (List ℕ)) → TokenValue → Preprocessing → Preprocessing → Type 0
IsWithExtension true known value old new = IsDefined known value old new
IsWithExtension false known value old new = new ≡ old
