-- The lines of items as text, put together item by item.
use Rattle.std.specs.Prelude.{ℕ, Bool, if◌then◌else◌, List, [], ◌∷◌, ◌++◌}
use Rattle.std.specs.Str.{encode_utf8_all}
use Rattle.pp_lexer.specs.ItemText.{item_text}
use Rattle.pp_lexer.specs.TokenValue.{is_ordinary}
use Rattle.pp_lexer.specs.declared.token.Token.{Token}
use Rattle.pp_lexer.specs.declared.token.TokenValue.{TokenValue}

-- what is written before an item if a line of ordinary tokens is begun: a space, or the newline that ends the line
abbrev pub before_item : Bool → TokenValue → List ℕ
before_item in_line value = if in_line then (if is_ordinary value then 32 ∷ [] else 10 ∷ []) else []

-- what is written after an item: a directive ends its line
abbrev pub after_item : TokenValue → List ℕ
after_item value = if is_ordinary value then [] else 10 ∷ []

-- an item with what is written before and after it
abbrev pub item_piece : Bool → TokenValue → List ℕ
item_piece in_line value = before_item in_line value ++ (encode_utf8_all (item_text value) ++ after_item value)

-- the items to come, and the newline that ends the last line
abbrev pub pieces : Bool → List Token → List ℕ
pieces in_line [] = if in_line then 10 ∷ [] else []
pieces in_line (t ∷ ts) = item_piece in_line t.value ++ pieces (is_ordinary t.value) ts
