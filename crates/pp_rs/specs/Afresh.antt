-- Ordinary tokens that a run gives, spelled with single spaces and preprocessed afresh (docs/RULES.md, "Runs").
use Rattle.std.specs.Prelude.{◌≡◌, ◌<◌, ◌^◌, ◌-◌, ℕ, List, All, length}
use Rattle.std.specs.Str.{encode_utf8_all}
use Rattle.pp_lexer.specs.Rules.{pp_rs}
use Rattle.pp_lexer.specs.Spelling.{spelled_text, values_of}
use Rattle.pp_lexer.specs.declared.token.Token.{Token}
use Rattle.pp_model.specs.Emitting.{answers_at, expansion_limit}
use Rattle.pp_model.specs.RespellLaws.{IsText, HasText, given_tokens, IsReadAfresh}
use Rattle.pp_model.specs.Run.{Call, IsRun}
use Rattle.pp_model.specs.declared.call.Reply.{Reply}

-- the text of the tokens, with single spaces between them
abbrev pub text_of : List Token → List ℕ
text_of tokens = encode_utf8_all (spelled_text (values_of tokens))

-- the text of the tokens is short enough for a source
abbrev pub HasShortText : List Token → Type 0
HasShortText tokens = length (text_of tokens) < 2 ^ 32 - 1

-- a run of some source gives these tokens, and their text is short enough for a source
pub record IsOutput (tokens : List Token) : Type 0 where
  pub source : List ℕ
  pub calls : List Call
  pub replies : List Reply
  pub is_text : IsText source
  pub contents : All HasText calls
  pub run : IsRun source calls replies
  pub given : given_tokens replies ≡ tokens
  pub room : HasShortText tokens

-- the text of the tokens gives tokens of the same values, and then the end
abbrev pub AreReadAfresh : List Token → Type 0
AreReadAfresh tokens = IsReadAfresh (answers_at expansion_limit) pp_rs (values_of tokens)
