-- The tokens of a content, read one after another.
use Rattle.std.proofs.Common.{◌≡◌, ◌∙◌, ◌++◌, Bool, true, false, if◌then◌else◌, List, [], ◌∷◌, drop, Some, Result, Ok, Err, ap, sym, refl}
use Rattle.pp_lexer.specs.Items.{Lexeme}
use Rattle.pp_lexer.specs.Lexed.{Seen}
use Rattle.pp_lexer.specs.declared.lexer.item.Token.{Token as LexerToken}
use Rattle.pp_lexer.specs.declared.token.Token.{Token}
use Rattle.pp_model.specs.Places.{Fault}
use Rattle.pp_model.specs.Conversions.{is_newline, conversion}
use Rattle.pp_model.specs.inner.Emitting.{token_before}
use Rattle.pp_expression.specs.Answers.{◌>>=◌}
use Rattle.pp_model.specs.Run.{content_tokens}
use Rattle.pp_model.specs.inner.Run.{content_from}
use Rattle.pp_model.proofs.PartsLemmas.{content_tokens_is}
use Rattle.pp_macros.specs.inner.LineReading.{as_next, next_token}
use Rattle.pp_directives.proofs.LineReadingLemmas.{tokens_before, tokens_before-push}

token_item : (item : Lexeme) (token : LexerToken) → as_next item ≡ Ok (Some token) → item ≡ Ok token
token_item (Ok first) token e = let same : first ≡ token = cc in ap (λ (t : LexerToken). Ok t) same
token_item (Err fault) token e = cc

content-token : (rest : List Seen) (token : LexerToken) → next_token rest ≡ Ok (Some token)
    → content_tokens rest ≡ content_from (Ok token) (content_tokens (drop 1 rest))
content-token [] token e = cc
content-token (s ∷ rest) token e = content_tokens_is s rest ∙ ap (λ item. content_from item (content_tokens rest)) (token_item s.item token e)

token_first : (ends : Bool) (first : Result Token Fault) (later : Result (List Token) Fault) → ends ≡ false
    → (if ends then later else (first >>= λ token. token_before token later)) ≡ (first >>= λ token. token_before token later)
token_first true first later e = cc
token_first false first later e = refl

module _ (rest after : List Seen) (token : LexerToken) (e : next_token rest ≡ Ok (Some token)) (d : after ≡ drop 1 rest) where
  -- another token is the first one of those that are left
  pub content-more : (tokens new : List Token) (first : Token) (whole : Result (List Token) Fault) → is_newline token.value ≡ false
      → conversion token ≡ Ok first → new ≡ tokens ++ first ∷ []
      → tokens_before tokens (content_tokens rest) ≡ whole → tokens_before new (content_tokens after) ≡ whole
  content-more tokens new first whole ends is n h =
      let later = content_tokens (drop 1 rest) in
      let all : content_tokens rest ≡ token_before first later =
      content-token rest token e ∙ token_first (is_newline token.value) (conversion token) later ends ∙ ap (λ r. r >>= λ t. token_before t later) is in
      rw (n, d) (tokens_before-push tokens first later ∙ ap (tokens_before tokens) (sym all) ∙ h)
