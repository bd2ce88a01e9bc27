-- What the lines of tokens are, without saying how they are found
use Rattle.std.specs.Prelude.{◌≡◌, ◌&&◌, ◌↔◌, false, ℕ, List, [], ◌∷◌, ◌++◌, All, MatchBool, ⊤}
use Rattle.std.specs.List.{flat_map}
use Rattle.pp_rs.specs.declared.token.Token.{Token}
use Rattle.pp_rs.specs.ItemText.{with_tokens}
use Rattle.pp_rs.specs.Preorder.{preorder}
use Rattle.pp_rs.specs.Spelling.{spelled_text, values_of}
use Rattle.pp_rs.specs.TokenValue.{is_ordinary}
use Rattle.pp_rs.specs.Output.{AllOrdinary, begins_ordinary, lines_of}

-- one or more ordinary tokens, or one item that isn't an ordinary token
abbrev pub IsLine : List Token → Type 0
IsLine [] = ⊥
IsLine (t ∷ ts) = MatchBool (is_ordinary t.value) (AllOrdinary ts) (ts ≡ [])

-- no two neighbours are both lines of ordinary tokens
abbrev pub AreApart : List (List Token) → Type 0
AreApart [] = ⊤
AreApart (line ∷ []) = ⊤
AreApart (line ∷ other ∷ lines) = ((begins_ordinary line && begins_ordinary other) ≡ false) × AreApart (other ∷ lines)

-- the tokens in their order, cut into lines that are as long as possible
pub record IsCut (tokens : List Token) (lines : List (List Token)) : Type 0 where
  pub whole : flat_map (λ line. line) lines ≡ tokens
  pub each : All IsLine lines
  pub apart : AreApart lines

-- there is one such cut, and it is `lines_of`
abbrev pub LinesAreTheCut : Type 0
LinesAreTheCut = (tokens : List Token) (lines : List (List Token)) → IsCut tokens lines ↔ (lines ≡ lines_of tokens)

-- the tokens that a directive item holds are spelled, after its word and a space, as on a line of their own
abbrev pub HeldTokensAreSpelledAlike : Type 0
HeldTokensAreSpelledAlike =
    (word : List ℕ) (token : Token) (tokens : List Token)
    → with_tokens word (preorder (token ∷ tokens)) ≡ word ++ (32 ∷ spelled_text (values_of (token ∷ tokens)))
