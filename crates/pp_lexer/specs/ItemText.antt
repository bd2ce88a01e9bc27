-- How an item of a preprocessed source is written, a directive too (GLSL ES 3.20, sections 3.4 and 3.6).
use Rattle.std.specs.Prelude.{ℕ, List, [], ◌∷◌, ◌++◌, codes, filter}
use Rattle.std.specs.List.{flat_map}
use Rattle.pp_lexer.specs.Entry.{Entry, Leaf, ident, integer, float, punct, version, extension, pragma, is_outermost}
use Rattle.pp_lexer.specs.Punctuators.{punctuator}
use Rattle.pp_lexer.specs.Spelling.{integer_literal, float_literal, spelling}
use Rattle.pp_lexer.specs.declared.token.TokenValue.{TokenValue}
use Rattle.pp_lexer.specs.declared.token.TokenValue.TheVariants.{Version, Extension, Pragma}

-- the characters of a token that a directive item holds, spelled as by `spelling`
abbrev pub leaf_spelling : Leaf → List ℕ
leaf_spelling (ident name) = name
leaf_spelling (integer i) = integer_literal i
leaf_spelling (float text width) = float_literal text width
leaf_spelling (punct p) = punctuator p
leaf_spelling (version first comments) = []
leaf_spelling (extension before) = []
leaf_spelling pragma = []

-- a directive's word, and each token of its line after a space
abbrev pub with_tokens : List ℕ → List Entry → List ℕ
with_tokens word entries = word ++ flat_map (λ e. 32 ∷ leaf_spelling e.leaf) (filter is_outermost entries)

-- the characters of an item: an ordinary token's spelling, or a directive with the tokens of its line
abbrev pub item_text : TokenValue → List ℕ
item_text (Version v) = with_tokens (codes "#version") v.tokens
item_text (Extension e) = with_tokens (codes "#extension") e.tokens
item_text (Pragma p) = with_tokens (codes "#pragma") p.tokens
item_text value = spelling value
