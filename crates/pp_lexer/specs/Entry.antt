-- A list of tokens as contracts see it: each token without the tokens inside it, with how deep it lies.
use Rattle.std.specs.Prelude.{ℕ, ℤ, ◌==◌, Bool, List}
use Rattle.pp_lexer.specs.declared.token.Integer.{Integer}
use Rattle.pp_lexer.specs.declared.token.Location.{Location}
use Rattle.pp_lexer.specs.declared.token.Punct.{Punct}

-- what a token is, beside the tokens inside it
pub data Leaf : Type 0 where
  ident : List ℕ → Leaf
  integer : Integer → Leaf
  -- its text and its width
  float : List ℕ → ℤ → Leaf
  punct : Punct → Leaf
  -- whether it is the first directive, and whether it has comments before it
  version : Bool → Bool → Leaf
  -- whether it has a token before it that is no directive
  extension : Bool → Leaf
  pragma : Leaf

-- a token, with how deep it lies: the tokens inside a token lie one deeper
pub record Entry : Type 0 where
  pub depth : ℕ
  pub leaf : Leaf
  pub location : Location

-- whether it is a token of the list itself, inside no other
abbrev pub is_outermost : Entry → Bool
is_outermost e = e.depth == 0
