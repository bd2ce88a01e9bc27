-- The tokens of a line are still ordinary in an item that holds them.
use Rattle.std.proofs.Common.{List, [], ◌∷◌, All, IsTrue}
use Rattle.std.proofs.lemmas.List.Elements.{All-nil, All-cons, All-head, All-tail, All-append}
use Rattle.pp_lexer.specs.Entry.{Entry}
use Rattle.pp_lexer.specs.Preorder.{entries_of, preorder}
use Rattle.pp_lexer.specs.TokenValue.{is_ordinary}
use Rattle.pp_lexer.specs.declared.token.Location.{Location}
use Rattle.pp_lexer.specs.declared.token.Token.{Token}
use Rattle.pp_lexer.specs.declared.token.TokenValue.{TokenValue}
use Rattle.pp_lexer.specs.declared.token.TokenValue.TheVariants.{Ident, Integer, Float, Punct, Version, Extension, Pragma}
use Rattle.pp_macros.specs.Held.{is_ordinary_leaf}

abbrev IsOrdinaryEntry : Entry → Type 0
IsOrdinaryEntry entry = IsTrue (is_ordinary_leaf entry.leaf)

abbrev IsOrdinaryToken : Token → Type 0
IsOrdinaryToken token = IsTrue (is_ordinary token.value)

one_entry : (entry : Entry) → IsOrdinaryEntry entry → All IsOrdinaryEntry (entry ∷ [])
one_entry entry h = All-cons IsOrdinaryEntry entry [] h (All-nil IsOrdinaryEntry)

entries_ordinary : (value : TokenValue) (location : Location) → IsTrue (is_ordinary value)
    → All IsOrdinaryEntry (entries_of (record { value = value; location = location }))
entries_ordinary (Ident name) location h = one_entry _ h
entries_ordinary (Integer n) location h = one_entry _ h
entries_ordinary (Float f) location h = one_entry _ h
entries_ordinary (Punct p) location h = one_entry _ h
entries_ordinary (Version v) location h = cc
entries_ordinary (Extension e) location h = cc
entries_ordinary (Pragma p) location h = cc

-- the entries of ordinary tokens are ordinary
pub preorder_ordinary : (tokens : List Token) → All (λ token. IsTrue (is_ordinary token.value)) tokens
    → All (λ entry. IsTrue (is_ordinary_leaf entry.leaf)) (preorder tokens)
preorder_ordinary [] h = All-nil IsOrdinaryEntry
preorder_ordinary (token ∷ tokens) h =
    All-append IsOrdinaryEntry (entries_of token) (preorder tokens)
    (entries_ordinary token.value token.location (All-head IsOrdinaryToken token tokens h)) (preorder_ordinary tokens (All-tail IsOrdinaryToken token tokens h))
