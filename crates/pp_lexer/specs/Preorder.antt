-- The entries of a list of tokens in preorder: each token, then those inside it, then the next one.
use Rattle.std.specs.Prelude.{◌+◌, List, [], ◌∷◌, ◌++◌, map}
use Rattle.pp_lexer.specs.Entry.{Entry, Leaf, ident, integer, float, punct, version, extension, pragma}
use Rattle.pp_lexer.specs.declared.token.Token.{Token}
use Rattle.pp_lexer.specs.declared.token.TokenValue.{TokenValue}
use Rattle.pp_lexer.specs.declared.token.TokenValue.TheVariants.{Ident, Integer, Float, Punct, Version, Extension}
use Rattle.pp_lexer.specs.declared.token.TokenValue.TheVariants.{Pragma}

-- the entry one level further down
abbrev pub deeper : Entry → Entry
deeper e = record e { depth = e.depth + 1 }

-- what a token is, beside the tokens inside it
abbrev pub leaf_of : TokenValue → Leaf
leaf_of (Ident text) = ident text
leaf_of (Integer i) = integer i
leaf_of (Float f) = float f.text f.width
leaf_of (Punct p) = punct p
leaf_of (Version v) = version v.is_first_directive v.has_comments_before
leaf_of (Extension e) = extension e.has_non_directive_before
leaf_of (Pragma p) = pragma

-- the entries of the tokens inside a token
abbrev pub inner : TokenValue → List Entry
inner (Version v) = v.tokens
inner (Extension e) = e.tokens
inner (Pragma p) = p.tokens
inner _ = []

-- a token and those inside it
abbrev pub entries_of : Token → List Entry
entries_of t = record { depth = 0; leaf = leaf_of t.value; location = t.location } ∷ map deeper (inner t.value)

abbrev pub preorder : List Token → List Entry
preorder [] = []
preorder (t ∷ ts) = entries_of t ++ preorder ts
