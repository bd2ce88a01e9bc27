-- The law that ordinary output, spelled with single spaces and preprocessed afresh, gives the same values.
use Rattle.std.specs.Prelude.{◌≡◌, ℕ, ◌<◌, ◌^◌, ◌-◌, true, List, [], ◌∷◌, length, All, Option, Some, None, ⊤}
use Rattle.std.specs.List.{filter_map}
use Rattle.std.specs.Str.{IsUtf8, encode_utf8_all}
use Rattle.pp_lexer.specs.Spelling.{spelled_text, values_of}
use Rattle.pp_lexer.specs.TokenValue.{is_ordinary}
use Rattle.pp_lexer.specs.declared.token.Token.{Token}
use Rattle.pp_lexer.specs.declared.token.TokenValue.{TokenValue}
use Rattle.pp_lexer.specs.declared.rules.Rules.{Rules}
use Rattle.pp_model.specs.Calls.{Answers}
use Rattle.pp_model.specs.Run.{by_rules, Call, add_define, include, next, items_by, start_by, Runs}
use Rattle.pp_model.specs.declared.call.Reply.{Reply}
use Rattle.pp_model.specs.declared.call.Reply.TheVariants as reply
use Rattle.pp_model.specs.declared.outcome.Outcome.{Outcome}
use Rattle.pp_model.specs.declared.outcome.Outcome.TheVariants as outcome

-- a text of the allowed size, as its bytes
abbrev pub IsText : List ℕ → Type 0
IsText bytes = IsUtf8 bytes × (length bytes < 2 ^ 32 - 1)

-- the content that a call adds, or the text that it includes, is such a text
abbrev pub HasText : Call → Type 0
HasText (add_define name content) = IsText content
HasText (include text) = IsText text
HasText next = ⊤

abbrev pub token_of : Outcome → Option Token
token_of (outcome.Token token) = Some token
token_of _ = None

abbrev pub given_token : Reply → Option Token
given_token (reply.Given o) = token_of o
given_token _ = None

-- the tokens that the replies give
abbrev pub given_tokens : List Reply → List Token
given_tokens replies = filter_map given_token replies

-- the calls of `next` that give these tokens, and then the end
abbrev pub calls_for : List Token → List Call
calls_for [] = next ∷ []
calls_for (token ∷ tokens) = next ∷ calls_for tokens

abbrev pub replies_with : List Token → List Reply
replies_with [] = reply.Given outcome.End ∷ []
replies_with (token ∷ tokens) = reply.Given (outcome.Token token) ∷ replies_with tokens

-- the run of a text by these rules gives tokens of these values, and then the end
pub record GivesValues (A : Answers) (rules : Rules) (text : List ℕ) (values : List TokenValue) : Type 0 where
  pub tokens : List Token
  pub same : values_of tokens ≡ values
  pub run : Runs (by_rules A) rules (start_by rules (items_by rules text)) (calls_for tokens) (replies_with tokens)

-- The text that spells these values gives these values, and no other, and no error.
abbrev pub IsReadAfresh : Answers → Rules → List TokenValue → Type 0
IsReadAfresh A rules values = GivesValues A rules (encode_utf8_all (spelled_text values)) values

-- If all tokens that a run gives are ordinary, the text that spells them gives the same values.
abbrev pub RunsAreReadAfresh : Answers → Type 0
RunsAreReadAfresh A =
    (rules : Rules) (text : List ℕ) (calls : List Call) (replies : List Reply)
    → IsText text
    → All HasText calls
    → Runs (by_rules A) rules (start_by rules (items_by rules text)) calls replies
    → All (λ token. is_ordinary token.value ≡ true) (given_tokens replies)
    → IsReadAfresh A rules (values_of (given_tokens replies))
