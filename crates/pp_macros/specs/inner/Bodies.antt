-- The body of a macro as a list of entries, each a token or a parameter.
use Rattle.std.specs.Prelude.{◌≡◌, ⊤, ℕ, ◌==◌, ◌+◌, ◌||◌, Bool, false, not, IsTrue, All, List, [], ◌∷◌, ◌++◌, map, drop}
use Rattle.std.specs.Prelude.{Option, Some, None, slice_index_or}
use Rattle.pp_lexer.specs.TokenValue.{is_ordinary}
use Rattle.pp_lexer.specs.contracts.token.TokenValuePartialEq.TheImpl.{eq-value as value_eq}
use Rattle.pp_lexer.specs.declared.token.Token.{Token}
use Rattle.pp_lexer.specs.declared.token.TokenValue.{TokenValue}
use Rattle.pp_lexer.specs.declared.token.TokenValue.TheVariants.{Ident}
use Rattle.pp_model.specs.Names.{Name}
use Rattle.pp_model.specs.Definitions.{Definition}
use Rattle.pp_model.specs.SpliceList.{parameter_of}
use Rattle.pp_macros.specs.inner.Defined.{Numbered}
use Rattle.pp_macros.specs.declared.define.BodyEntry.{BodyEntry}
use Rattle.pp_macros.specs.declared.define.BodyEntry.TheVariants as entry

-- the token that an entry stands for: a parameter is the identifier of its name, at its place
abbrev pub token_of : List Name → BodyEntry → Token
token_of parameters (entry.Token token number) = token
token_of parameters (entry.Parameter k location is_last) =
    record { value = Ident (slice_index_or parameters k []); location = location }

-- the tokens of a body
abbrev pub body_of : List Name → List BodyEntry → List Token
body_of parameters entries = map (token_of parameters) entries

-- whether it is this position
abbrev pub is_position : ℕ → Option ℕ → Bool
is_position k None = false
is_position k (Some j) = j == k

-- whether a token of the body is the parameter at this position
abbrev pub has_parameter : List Name → List Token → ℕ → Bool
has_parameter parameters [] k = false
has_parameter parameters (token ∷ rest) k =
    is_position k (parameter_of parameters token.value) || has_parameter parameters rest k

-- An entry is right before this rest of its body: a token is ordinary and no parameter; a parameter has the position of
-- its name, and is the last if the rest hasn't it again.
abbrev pub IsEntry : List Name → BodyEntry → List Token → Type 0
IsEntry parameters (entry.Token token number) rest =
    IsTrue (is_ordinary token.value) × (parameter_of parameters token.value ≡ None)
IsEntry parameters (entry.Parameter k location is_last) rest =
    (parameter_of parameters (Ident (slice_index_or parameters k [])) ≡ Some k)
    × (is_last ≡ not (has_parameter parameters rest k))

-- each entry is right
abbrev pub AreEntries : List Name → List BodyEntry → Type 0
AreEntries parameters [] = ⊤
AreEntries parameters (entry ∷ rest) = IsEntry parameters entry (body_of parameters rest) × AreEntries parameters rest

-- An entry is right before it is known what follows: a token is ordinary and no parameter, and a parameter has the
-- position of its name.
abbrev pub IsFound : List Name → BodyEntry → Type 0
IsFound parameters (entry.Token token number) =
    IsTrue (is_ordinary token.value) × (parameter_of parameters token.value ≡ None)
IsFound parameters (entry.Parameter k location is_last) =
    parameter_of parameters (Ident (slice_index_or parameters k [])) ≡ Some k

-- each entry is
abbrev pub AreFound : List Name → List BodyEntry → Type 0
AreFound parameters entries = All (IsFound parameters) entries

-- the body of a macro that is being read: the macro's parameters and the tokens so far
pub record BodyTokens : Type 0 where
  pub parameters : List Name
  pub tokens : List Token

-- the body with one more token
abbrev pub with_token : BodyTokens → Token → BodyTokens
with_token body token = record { parameters = body.parameters; tokens = body.tokens ++ token ∷ [] }

-- an entry of the body of a definition, and the tokens from its position on
pub record IsEntryAt (definition : Definition) (k : ℕ) (entry : BodyEntry) : Type 0 where
  pub tokens : drop k definition.body ≡ token_of definition.parameters entry ∷ drop (k + 1) definition.body
  pub is_right : IsEntry definition.parameters entry (drop (k + 1) definition.body)

-- whether both are the same token, numbers and places aside, or the same parameter
abbrev pub is_same_entry : BodyEntry → BodyEntry → Bool
is_same_entry (entry.Token old number) (entry.Token new other) = value_eq.it old.value new.value
is_same_entry (entry.Parameter old location is_last) (entry.Parameter new place last) = old == new
is_same_entry old new = false

-- each parameter is marked if the body has it
abbrev pub AreSeen : List Name → List Token → List Bool → Type 0
AreSeen parameters body seen = (k : ℕ) → slice_index_or seen k false ≡ has_parameter parameters body k

-- an entry without its number
abbrev pub unnumbered : BodyEntry → BodyEntry
unnumbered (entry.Token token number) = entry.Token token None
unnumbered (entry.Parameter k location is_last) = entry.Parameter k location is_last

-- the name with its number, if the value is a name for which one is noted
abbrev pub noted_by : Option ℕ → TokenValue → List Numbered
noted_by (Some number) (Ident name) = record { name = name; number = number } ∷ []
noted_by number value = []

-- the same of an entry
abbrev pub noted_at : BodyEntry → List Numbered
noted_at (entry.Token token number) = noted_by number token.value
noted_at (entry.Parameter k location is_last) = []

-- all names in a body for which a number is noted
abbrev pub noted_in : List BodyEntry → List Numbered
noted_in [] = []
noted_in (entry ∷ rest) = noted_at entry ++ noted_in rest
