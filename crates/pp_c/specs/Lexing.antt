-- What a call of `pp_lex` gives: the items of the lexer.
use Rattle.std.specs.Prelude.{ℕ, bit_or, List, [], ◌∷◌, ◌++◌, Result, Ok, Err}
use Rattle.pp_model.specs.Places.{Fault}
use Rattle.pp_rs.specs.Entry.{ident, integer, float, punct}
use Rattle.pp_rs.specs.Lexed.{Seen, Lexed, start_of, first_place, places_after_first}
use Rattle.pp_rs.specs.Spots.{spots_of}
use Rattle.pp_rs.specs.declared.lexer.Token.{Token}
use Rattle.pp_rs.specs.declared.lexer.TokenValue.{TokenValue}
use Rattle.pp_rs.specs.declared.lexer.TokenValue.TheVariants.{Hash, NewLine, Ident, Integer, Float, Punct}
use Rattle.pp_rs.specs.declared.token.Location.{Location}
use Rattle.pp_c.specs.Entries.{Entry, bare}
use Rattle.pp_c.specs.Numbers.{bit_if, new_line_kind, hash_kind}
use Rattle.pp_c.specs.Tokens.{item_at, leaf_entry, error_entry, place_entry}

-- the bits of a token: 16 if it is first on its line, or follows a blank or a comment; 32 if nothing but blanks and
-- comments is before it on its line
abbrev pub lexer_flags : Token → ℕ
lexer_flags t = bit_or (bit_if t.leading_whitespace 16) (bit_if t.start_of_line 32)

-- a token at a place, with flags
abbrev pub lexer_entry : Location → ℕ → TokenValue → Entry
lexer_entry place flags Hash = bare (item_at place hash_kind flags)
lexer_entry place flags NewLine = bare (item_at place new_line_kind flags)
lexer_entry place flags (Ident text) = leaf_entry place flags 0 (ident text)
lexer_entry place flags (Integer i) = leaf_entry place flags 0 (integer i)
lexer_entry place flags (Float f) = leaf_entry place flags 0 (float f.text f.width)
lexer_entry place flags (Punct p) = leaf_entry place flags 0 (punct p)

-- an item: a token, or an error with its true place as a child
abbrev pub lexeme_entries : Result Token Fault → Location → List Entry
lexeme_entries (Ok t) place = lexer_entry t.location (lexer_flags t) t.value ∷ []
lexeme_entries (Err fault) place = error_entry fault.1 1 fault.0 ∷ place_entry place ∷ []

-- items with these places, after an item with the last place
abbrev pub lexed_entries : List Seen → List Location → Location → List Entry
lexed_entries [] places last = []
lexed_entries (s ∷ rest) places last =
    lexeme_entries s.item (first_place places last) ++
    lexed_entries rest (places_after_first places) (first_place places last)

-- the entries of the items that are left
abbrev pub entries_left : Lexed → List Entry
entries_left lexer = lexed_entries lexer.rest lexer.places lexer.place

-- the entries of all items of a text
abbrev pub lexer_entries : List ℕ → List Entry
lexer_entries text = entries_left (start_of (spots_of text))
