-- A token is smaller than a list that holds it, counted in entries: so lists of tokens are finite.
use Rattle.std.specs.Prelude.{◌+◌, ◌≡◌, ◌≤◌, List, [], ◌∷◌, length}
use Rattle.std.proofs.Common.{arith, length-append}
use Rattle.std.proofs.lemmas.List.{length-map}
use denote.Param.Weighed.{most}
use Rattle.pp_lexer.specs.Preorder.{deeper, inner, entries_of, preorder}
use Rattle.pp_lexer.specs.declared.token.Token.{Token}
use Rattle.pp_lexer.specs.declared.token.TokenValue.{TokenValue}
use Rattle.pp_lexer.specs.declared.token.TokenValue.TheVariants.{Ident}
use Rattle.pp_lexer.specs.declared.token.Tokens.TheDeep.{deep-Token, deep-TokenValue}

deep_le-inner : (v : TokenValue) → deep-TokenValue v ≤ length (inner v) + 1
deep_le-inner (Ident _) = omega arith
deep_le-inner _ = omega arith

length-entries_of : (t : Token) → length (entries_of t) ≡ length (inner t.value) + 1
length-entries_of t = omega (arith, length-map (inner t.value) deeper)

pub most_le-length-preorder : (ts : List Token) → most deep-Token ts ≤ length (preorder ts)
most_le-length-preorder [] = omega arith
most_le-length-preorder (t ∷ ts) =
    omega (
      arith,
      most_le-length-preorder ts,
      deep_le-inner t.value,
      length-entries_of t,
      length-append (entries_of t) (preorder ts),
    )
