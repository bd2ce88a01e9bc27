-- What a directive item holds: the tokens of its line, which are ordinary (GLSL ES 3.20, section 3.4).
use Rattle.std.specs.Prelude.{Bool, true, false, IsTrue, List, All, Option, Some, None, Ok, Err, ⊤}
use Rattle.pp_lexer.specs.Entry.{Leaf, ident, integer, float, punct, version, extension, pragma}
use Rattle.pp_lexer.specs.Preorder.{inner}
use Rattle.pp_lexer.specs.declared.token.Token.{Token}
use Rattle.pp_lexer.specs.declared.token.TokenValue.{TokenValue}
use Rattle.pp_macros.specs.Item.{Item}

-- whether it is an identifier, an integer, a float or a punctuator
abbrev pub is_ordinary_leaf : Leaf → Bool
is_ordinary_leaf (ident text) = true
is_ordinary_leaf (integer n) = true
is_ordinary_leaf (float text width) = true
is_ordinary_leaf (punct p) = true
is_ordinary_leaf (version first comments) = false
is_ordinary_leaf (extension before) = false
is_ordinary_leaf pragma = false

-- every token inside the value is ordinary
abbrev pub HoldsOrdinary : TokenValue → Type 0
HoldsOrdinary value = All (λ entry. IsTrue (is_ordinary_leaf entry.leaf)) (inner value)

abbrev pub AllHoldOrdinary : List Token → Type 0
AllHoldOrdinary tokens = All (λ token. HoldsOrdinary token.value) tokens

abbrev pub ItemHoldsOrdinary : Item → Type 0
ItemHoldsOrdinary (Ok token) = HoldsOrdinary token.value
ItemHoldsOrdinary (Err fault) = ⊤

abbrev pub AnswerHoldsOrdinary : Option Item → Type 0
AnswerHoldsOrdinary None = ⊤
AnswerHoldsOrdinary (Some item) = ItemHoldsOrdinary item
